-- Groups that a chunk joins, one after the other.
use Rattle.std.proofs.Common.{◌≡◌, ℕ, ◌+◌, ◌<◌, List, [], ◌++◌, map, take, drop, get_or, length, refl, ap, ◌∙◌, arith}
use Rattle.std.proofs.Math.ListN.{set}
use Rattle.std.proofs.lemmas.List.{get_or_default, length-map, length-append, length-take, length-drop}
use Rattle.std.proofs.lemmas.List.Edits.{map_over_more}
use Rattle.pack_util.specs.declared.number.ChunkNo.{ChunkNo}
use Rattle.chunk_graph.specs.Chunks.{State, group_at}

pub joined_more : (f : List ChunkNo → List ChunkNo) (first s t : State) (g : ℕ) → g < length first.groups
    → s ≡ record first { groups = map f (take g first.groups) ++ drop g first.groups }
    → t ≡ record s { groups = set s.groups g (f (group_at s g)) }
    → t ≡ record first { groups = map f (take (g + 1) first.groups) ++ drop (g + 1) first.groups }
joined_more f first s t g lt is next =
    let before = map f (take g first.groups) ++ drop g first.groups in
    let x = get_or before g [] in
    let size = length-append (map f (take g first.groups)) (drop g first.groups) in
    let front = length-map (take g first.groups) f in
    let within : g < length before = omega (arith, size, front, length-take g first.groups, length-drop g first.groups) in
    let step : State → State = λ u. record u { groups = set u.groups g (f (group_at u g)) } in
    let put : List (List ChunkNo) → State = λ groups. record first { groups = groups } in
    next ∙ ap step is ∙ ap put (map_over_more f first.groups before g x lt refl (get_or_default before g [] x within))
