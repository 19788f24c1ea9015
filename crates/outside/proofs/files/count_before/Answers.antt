use Rattle.std.proofs.Common.{rules}
use Rattle.std.proofs.lemmas.List.Sorted.{IsPartitionPoint-from_clause}
use Rattle.outside.specs.inner.Cut.{is_before}
use Rattle.outside.proofs.Cuts.{cut, partitioned, sorted_falls}
use Rattle.outside.proofs.files.count_before.Goals as goal

pub returns : goal.returns
returns c =
    let files = c.args.files.now in
    let test = is_before c.args.path.now in
    cut test files c.partition_point.result c.partition_point.ensures.bound
    (IsPartitionPoint-from_clause test files c.partition_point.result c.partition_point.ensures.partitioned
    (partitioned test files (sorted_falls c.args.path.now files c.requires)) (λ a r f called. search rules))
