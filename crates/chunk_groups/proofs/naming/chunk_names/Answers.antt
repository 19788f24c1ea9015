use Rattle.std.specs.Prelude.{nat_eq}
use Rattle.std.specs.Cmp.Lexicographic.{pointwise}
use Rattle.std.proofs.lemmas.List.Filters.{dedup_is}
use Rattle.chunk_groups.proofs.Names.{deduped}
use Rattle.chunk_groups.proofs.naming.chunk_names.Goals as goal

pub returns : goal.returns
returns c =
    let names = deduped _ _ _ c.in_ok-sort.ensures.permutation c.in_ok-sort.ensures.sorted (dedup_is (pointwise nat_eq) _ _ c.dedup.ensures.filtered) in
    rw c.in_ok-names.ensures at names
