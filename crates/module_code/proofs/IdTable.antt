-- The ids of all chunks.
use Rattle.std.proofs.Common.{◌≡◌, ℕ, ◌+◌, ◌<◌, Bool, true, false, not, map, take, length, get_or, None, Some, refl, sym, ap, ◌∙◌, inl, inr, arith, cond}
use Rattle.std.specs.List.{count_by, range_with_len}
use Rattle.std.specs.Prelude.{Option, if◌then◌else◌, is_some}
use Rattle.std.proofs.lemmas.Bool.{cases_lt}
use Rattle.std.proofs.lemmas.List.{get_or_past}
use Rattle.std.proofs.lemmas.List.FromFn.{get_or-map-range_with_len, length-map-range_with_len}
use Rattle.std.proofs.lemmas.List.Sums.{sum_by_more}
use Rattle.chunk_graph.specs.declared.chunk.Chunk.{Chunk}
use Rattle.chunk_graph.specs.Chunks.{State, chunk_at, no_chunk}
use Rattle.chunk_graph.specs.Moves.{id_of}

abbrev pub is_there : Chunk → Bool
is_there chunk = not chunk.gone

-- what a chunk adds to the count
abbrev pub weight_of : Option ℕ → ℕ
weight_of id = if is_some id then 1 else 0

weight : (gone : Bool) (n : ℕ) → weight_of (if gone then None else Some n) ≡ cond (not gone) 1 0
weight true n = refl
weight false n = refl

-- one more chunk, which has an id or none
pub counted_more : (s : State) (i before : ℕ) → i < length s.chunks → before ≡ count_by is_there (take i s.chunks)
    → before + weight_of (id_of s i) ≡ count_by is_there (take (i + 1) s.chunks)
counted_more s i before within is =
    ap (λ n. n + weight_of (id_of s i)) is
    ∙ ap (λ w. count_by is_there (take i s.chunks) + w) (weight (chunk_at s i).gone (count_by is_there (take i s.chunks)))
    ∙ sym (sum_by_more (λ chunk. cond (is_there chunk) 1 0) s.chunks i no_chunk within)

pub id_in_table : (s : State) (i : ℕ) → get_or (map (id_of s) (range_with_len 0 (length s.chunks))) i None ≡ id_of s i
id_in_table s i = elim (cases_lt i (length s.chunks)) [
  | inl within ↦ get_or-map-range_with_len (id_of s) 0 (length s.chunks) i i None within (omega arith)
  | inr past ↦
      let as_many = length-map-range_with_len (id_of s) 0 (length s.chunks) in
      let none : id_of s i ≡ None = ap (λ (chunk : Chunk). if chunk.gone then None else Some (count_by is_there (take i s.chunks))) (get_or_past s.chunks i no_chunk past) in
      get_or_past (map (id_of s) (range_with_len 0 (length s.chunks))) i None (omega (arith, as_many)) ∙ sym none
]
