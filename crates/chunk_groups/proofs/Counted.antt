-- The first blocks without a name, and one block more.
use Rattle.std.proofs.Common.{◌≡◌, ℕ, ◌+◌, ◌<◌, ◌≤◌, inl, inr, Bool, true, false, cond, List, get_or, length, take, refl, sym, ap, subst, ◌∙◌, arith}
use mir.Val.{bool_byte}
use Rattle.std.specs.Prelude.{filter, is_some, nat_lt, not}
use Rattle.std.proofs.lemmas.Bool.{cases_lt, false≢true, le-ltb, lt-ltb}
use Rattle.std.proofs.lemmas.List.Filters.{length-filter_more}
use Rattle.std.proofs.lemmas.List.FromFn.{get_or-enumerate_from, length-enumerate_from}
use Rattle.graph_types.specs.declared.block.Block.{Block}
use Rattle.graph_types.specs.declared.record.ModRecord.{ModRecord}
use Rattle.graph_types.specs.Edges.{blocks_of}
use Rattle.chunk_groups.specs.ChunkGroups.{has_no_name, numbered_blocks}
use Rattle.chunk_groups.specs.ChunkNames.{chunk_name_of}

pub one-at-most : (b : Bool) → bool_byte b ≤ 1
one-at-most true = omega arith
one-at-most false = omega arith

byte-cond : (b : Bool) → bool_byte b ≡ cond b 1 0
byte-cond true = refl
byte-cond false = refl

pub same-test : (limit x y : ℕ) → (limit < x → limit < y) → (limit < y → limit < x) → nat_lt limit x ≡ nat_lt limit y
same-test limit x y there back = elim (cases_lt limit x) [
  | inl above ↦ lt-ltb limit x above ∙ sym (lt-ltb limit y (there above))
  | inr below ↦ le-ltb limit x below ∙ sym (elim (cases_lt limit y) [ inl above ↦ absurd (omega (arith, back above)) | inr also ↦ le-ltb limit y also ])
]

pub counted-more : (records : List ModRecord) (blocks : List Block) (i : ℕ) (d : Block) (old more : ℕ) (test : Bool) → blocks ≡ blocks_of records → i < length blocks
    → old ≡ length (filter (has_no_name records) (take i (numbered_blocks records))) → test ≡ not (is_some (chunk_name_of records (get_or blocks i d))) → more ≡ bool_byte test
    → old + more ≡ length (filter (has_no_name records) (take (i + 1) (numbered_blocks records)))
counted-more records blocks i d old more test is within old_is test_is more_is =
    let inside : i < length (blocks_of records) = subst (λ (l : List Block). i < length l) is within in
    let at : get_or (numbered_blocks records) i (0, d) ≡ (0 + i, get_or (blocks_of records) i d) = get_or-enumerate_from 0 (blocks_of records) i (0, d) inside in
    let same : test ≡ has_no_name records (get_or (numbered_blocks records) i (0, d)) =
    test_is ∙ ap (λ (l : List Block). not (is_some (chunk_name_of records (get_or l i d)))) is ∙ sym (ap (has_no_name records) at) in
    (λ j. old_is j + (more_is ∙ byte-cond test ∙ ap (λ b. cond {A = ℕ} b 1 0) same) j) ∙ sym (length-filter_more (has_no_name records) (numbered_blocks records) i (0, d) (omega (arith, length-enumerate_from 0 (blocks_of records))))

pub not-above : (limit n : ℕ) → false ≡ nat_lt limit n → n ≤ limit
not-above limit n is = elim (cases_lt limit n) [ inl above ↦ absurd (false≢true (is ∙ lt-ltb limit n above)) | inr below ↦ below ]
