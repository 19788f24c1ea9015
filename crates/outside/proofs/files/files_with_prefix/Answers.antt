use Rattle.std.proofs.Common.{◌≡◌, ◌-◌, length, take, drop, rules, ap, ◌∙◌}
use Rattle.std.proofs.lemmas.List.{take_rest}
use Rattle.std.proofs.lemmas.List.Sorted.{IsPartitionPoint-from_clause}
use Rattle.outside.specs.inner.Cut.{IsCut, has_prefix}
use Rattle.outside.proofs.Cuts.{cut, partitioned, prefix_falls, sorted_drop, prefix_filter}
use Rattle.outside.proofs.files.files_with_prefix.Goals as goal

pub returns : goal.returns
returns c =
    let files = c.args.files.now in
    let test = has_prefix c.args.prefix.now in
    let n = c.count_before.result in
    let m = c.partition_point-end.result in
    let rest : take (length files - n) (drop n files) ≡ drop n files = take_rest files n in
    let at_cut : IsCut test (take (length files - n) (drop n files)) m =
    cut test _ m c.partition_point-end.ensures.bound
    (IsPartitionPoint-from_clause test _ m c.partition_point-end.ensures.partitioned
    (partitioned test _ (rw rest (prefix_falls c.args.prefix.now (drop n files) (sorted_drop n files c.requires) c.count_before.ensures.failing))) (λ a r f called. search rules)) in
    ap (take m) rest ∙ prefix_filter c.args.prefix.now files n m c.count_before.ensures (rw rest at at_cut)
