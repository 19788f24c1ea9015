-- A reason read from its first group on.
use Rattle.std.proofs.Common.{◌≡◌, ℕ, ◌+◌, ◌-◌, ◌<◌, ◌≤◌, inl, inr, Bool, List, [], ◌∷◌, ◌++◌, length, get_or, append-nil, append_assoc, refl, sym, ap, subst, ◌∙◌, arith}
use Rattle.std.specs.Prelude.{IsTrue}
use Rattle.std.proofs.lemmas.Bool.{cases_lt, true≢false}
use Rattle.std.proofs.lemmas.List.{map-append}
use Rattle.pack_util.specs.declared.number.GroupNo.{GroupNo}
use Rattle.bit_rows.specs.Places.{meet, IsNext, NoneTrue}
use Rattle.chunk_groups.specs.Net.{Net}
use Rattle.chunk_groups.specs.Rows.{bit, bit_in}
use Rattle.chunk_groups.specs.Serving.{Opens}
use Rattle.avail_sets.specs.inner.Falling.{AreOpened}
use Rattle.avail_sets.specs.inner.Layers.{AreLayers, HasPath, IsBest, NoneShorter}
use Rattle.avail_sets.specs.Reasons.{group_numbers}
use Rattle.avail_sets.proofs.Commons.{both-true, true-both, none-both}
use Rattle.avail_sets.proofs.Layered.{best-step, best-end}

abbrev pub Reads : Net → ℕ → ℕ → List (List Bool) → List GroupNo → ℕ → ℕ → ℕ → Type 0
Reads net g m layers members first below at =
    (done : List ℕ) × (group_numbers members ≡ first ∷ done) × IsTrue (bit_in layers below at)
    × ((tail : List ℕ) → IsBest net g m at below tail → IsBest net g m first (length layers - 1) (done ++ tail))

module _ (net : Net) (g m : ℕ) (layers : List (List Bool)) (left : List Bool) (opened : List (List Bool)) (are : AreOpened net opened) (a : AreLayers net g m layers left) where
  pub reads-first : (first : ℕ) → IsTrue (bit_in layers (length layers - 1) first) → Reads net g m layers ((record { 0 = first }) ∷ []) first (length layers - 1) first
  reads-first first inside = ([], refl, inside, λ tail best. best)

  -- a group of a layer leads into the layer below
  steps-down : (i v : ℕ) → i + 1 < length layers → IsTrue (bit_in layers (i + 1) v) → (q : ℕ) × Opens net v q × IsTrue (bit_in layers i q)
  steps-down i v l inside = at (a.sound (i + 1) v l inside).0 (a.sound (i + 1) v l inside).1
    where
      at : HasPath net g m v (i + 1) → NoneShorter net g m v (i + 1) → (q : ℕ) × Opens net v q × IsTrue (bit_in layers i q)
      at ([], is, long) none = absurd (omega arith)
      at (q ∷ rest, (opens, not, path), long) none =
          let many : length rest ≡ i = omega arith in
          (q, opens, a.complete i q (omega arith) (rest, path, many) (λ k less (way, is, steps). none (k + 1) (omega arith) (q ∷ way, (opens, not, is), omega arith)))

  module _ (i v : ℕ) (row layer : List Bool) (is_row : row ≡ get_or opened v []) (is_layer : layer ≡ get_or layers i []) (even : length row ≡ length layer) (l : i + 1 < length layers) where
    pub not-none : IsTrue (bit_in layers (i + 1) v) → NoneTrue (meet row layer) 0 (length row) → ⊥
    not-none inside none =
        let (q, opens, below) = steps-down i v l inside in
        none-both row layer even none q (subst (λ (r : List Bool). IsTrue (bit r q)) (sym is_row) ((are v q).1 opens)) (subst (λ (r : List Bool). IsTrue (bit r q)) (sym is_layer) below)

    pub reads-more : (first next : ℕ) (members : List GroupNo) → Reads net g m layers members first (i + 1) v → IsNext (meet row layer) 0 next → Reads net g m layers (members ++ (record { 0 = next }) ∷ []) first i next
    reads-more first next members (done, listed, inside, so_far) is =
        let both = both-true row layer even next is.is_true in
        let opens : Opens net v next = (are v next).0 (subst (λ (r : List Bool). IsTrue (bit r next)) is_row both.0) in
        let here : IsTrue (bit_in layers i next) = subst (λ (r : List Bool). IsTrue (bit r next)) is_layer both.1 in
        let low : (q : ℕ) → IsTrue (bit_in layers i q) → Opens net v q → next ≤ q = λ q below leads. elim (cases_lt q next) [
          | inr high ↦ high
          | inl less ↦
              let own : IsTrue (bit row q) = subst (λ (r : List Bool). IsTrue (bit r q)) (sym is_row) ((are v q).1 leads) in
              let there : IsTrue (bit layer q) = subst (λ (r : List Bool). IsTrue (bit r q)) (sym is_layer) below in
              absurd (true≢false (sym (true-both row layer even q own there) ∙ is.least q (omega arith) less))
        ] in (
          done ++ next ∷ [],
          map-append (λ (k : GroupNo). k.0) members (record { 0 = next } ∷ []) ∙ ap (λ l. l ++ next ∷ []) listed,
          here,
          λ tail best. subst (IsBest net g m first (length layers - 1)) (sym (append_assoc done (next ∷ []) tail)) (so_far (next ∷ tail) (best-step net g m layers left a i v next tail l inside opens low best)),
        )

  pub reads-all : (first at : ℕ) (members : List GroupNo) → Reads net g m layers members first 0 at → (rest : List ℕ) × (group_numbers members ≡ first ∷ rest) × IsBest net g m first (length layers - 1) rest
  reads-all first at members (done, listed, inside, so_far) =
      (done, listed, subst (IsBest net g m first (length layers - 1)) (append-nil done) (so_far [] (best-end net g m layers left a at inside)))
