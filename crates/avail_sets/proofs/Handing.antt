-- A row handed down to one group, and to one group after another.
use Rattle.std.proofs.Common.{◌≡◌, ◌≢◌, ℕ, ◌+◌, ◌<◌, ◌⊎◌, inl, inr, Bool, true, false, ◌&&◌, List, [], length, get_or, set, refl, sym, ap, subst, ◌∙◌, arith}
use Rattle.std.specs.Prelude.{IsTrue}
use Rattle.std.proofs.lemmas.Bool.{cases_eq, cases_Bool, false≢true, true≢false}
use Rattle.std.proofs.lemmas.List.{get_or-set_same, get_or-set_other, length-set}
use Rattle.std.proofs.lemmas.List.Sums.{sum_by-set}
use Rattle.bit_rows.specs.Places.{meet}
use Rattle.bit_rows.specs.Table.{Table}
use Rattle.chunk_groups.specs.Rows.{bit, bit_in}
use Rattle.chunk_groups.proofs.Marks.{bit-set_keeps}
use Rattle.avail_sets.specs.inner.Falling.{IsHandedDown, trues, all_trues}
use Rattle.avail_sets.proofs.Bits.{and-left, and-right, and-rest, bit-meet, meet-fewer, trues-added}

module _ (old : Table) (g : ℕ) (down pending : List Bool) (within : g < length old.rows) (place : g < length pending) (even : length (get_or old.rows g []) ≡ length down) where
  abbrev row : List Bool
  row = get_or old.rows g []

  abbrev lower : Table
  lower = record old { rows = set old.rows g (meet row down) }

  lowered : (m : ℕ) → bit_in lower.rows g m ≡ (bit row m && bit down m)
  lowered m = ap (λ (r : List Bool). bit r m) (get_or-set_same old.rows g (meet row down) [] within) ∙ bit-meet row down m even

  others : (k : ℕ) → k ≢ g → get_or lower.rows k [] ≡ get_or old.rows k []
  others k n = get_or-set_other old.rows g k (meet row down) [] n

  falls-to : (k m : ℕ) → IsTrue (bit_in lower.rows k m) → IsTrue (bit_in old.rows k m)
  falls-to k m there = elim (cases_eq k g) [
    | inl e ↦ subst (λ (i : ℕ). IsTrue (bit_in old.rows i m)) (sym e) (and-left (bit row m) (bit down m) (sym (lowered m) ∙ subst (λ (i : ℕ). IsTrue (bit_in lower.rows i m)) e there))
    | inr n ↦ sym (ap (λ (r : List Bool). bit r m) (others k n)) ∙ there
  ]

  met-by : (k m : ℕ) → k ≡ g → IsTrue (bit_in lower.rows k m) → IsTrue (bit down m)
  met-by k m e there = and-right (bit row m) (bit down m) (sym (lowered m) ∙ subst (λ (i : ℕ). IsTrue (bit_in lower.rows i m)) e there)

  only-where : (k m : ℕ) → IsTrue (bit_in old.rows k m) → bit_in lower.rows k m ≡ false → (k ≡ g) × (bit down m ≡ false)
  only-where k m was gone = elim (cases_eq k g) [
    | inl e ↦ (e, and-rest (bit row m) (bit down m) (subst (λ (i : ℕ). IsTrue (bit_in old.rows i m)) e was) (sym (lowered m) ∙ subst (λ (i : ℕ). bit_in lower.rows i m ≡ false) e gone))
    | inr n ↦ absurd (true≢false (sym was ∙ sym (ap (λ (r : List Bool). bit r m) (others k n)) ∙ gone))
  ]

  weighed : all_trues lower.rows + trues row ≡ all_trues old.rows + trues (meet row down)
  weighed = sum_by-set trues old.rows g (meet row down) [] within

  pub handed-same : meet row down ≡ row → IsHandedDown (λ k. k ≡ g) down old lower pending pending
  handed-same same = record {
    rows = length-set old.rows g (meet row down);
    width = refl;
    places = refl;
    grows = λ k held. held;
    falls = falls-to;
    met = met-by;
    kept = λ k none. elim (cases_eq k g) [
      | inl e ↦ rw (e, get_or-set_same old.rows g (meet row down) [] within) same
      | inr n ↦ others k n
    ];
    only = only-where;
    weight = let equal : trues (meet row down) ≡ trues row = ap trues same in omega (arith, weighed);
  }

  pub handed-one : (meet row down ≢ row) → IsHandedDown (λ k. k ≡ g) down old lower pending (set pending g true)
  handed-one changed = record {
    rows = length-set old.rows g (meet row down);
    width = refl;
    places = length-set pending g true;
    grows = λ k held. bit-set_keeps pending g k place held;
    falls = falls-to;
    met = met-by;
    kept = λ k none. elim (cases_eq k g) [
      | inl e ↦ absurd (false≢true (sym (subst (λ (i : ℕ). bit (set pending g true) i ≡ false) e none) ∙ get_or-set_same pending g true false place))
      | inr n ↦ others k n
    ];
    only = only-where;
    weight = elim (meet-fewer row down even) [
      | inl same ↦ absurd (changed same)
      | inr less ↦ omega (arith, weighed, trues-added pending g place)
    ];
  }

pub handed-none : (down : List Bool) (old : Table) (pending : List Bool) → IsHandedDown (λ k. ⊥) down old old pending pending
handed-none down old pending = record {
  rows = refl;
  width = refl;
  places = refl;
  grows = λ k held. held;
  falls = λ k m there. there;
  met = λ k m to there. absurd to;
  kept = λ k none. refl;
  only = λ k m was gone. absurd (true≢false (sym was ∙ gone));
  weight = omega arith;
}

pub handed-more : (to more : ℕ → Type 0) (down : List Bool) (old mid new : Table) (pending between now : List Bool) → IsHandedDown to down old mid pending between → IsHandedDown more down mid new between now
    → IsHandedDown (λ k. to k ⊎ more k) down old new pending now
handed-more to more down old mid new pending between now p q = record {
  rows = q.rows ∙ p.rows;
  width = q.width ∙ p.width;
  places = q.places ∙ p.places;
  grows = λ k held. q.grows k (p.grows k held);
  falls = λ k m there. p.falls k m (q.falls k m there);
  met = λ k m to there. elim to [ inl a ↦ p.met k m a (q.falls k m there) | inr b ↦ q.met k m b there ];
  kept = λ k none.
      let before : bit between k ≡ false = elim (cases_Bool (bit between k)) [ inl held ↦ absurd (true≢false (sym (q.grows k held) ∙ none)) | inr not ↦ not ] in
      q.kept k none ∙ p.kept k before;
  only = λ k m was gone. elim (cases_Bool (bit_in mid.rows k m)) [
    | inl there ↦ let rest = q.only k m there gone in (inr rest.0, rest.1)
    | inr left ↦ let rest = p.only k m was left in (inl rest.0, rest.1)
  ];
  weight = omega (arith, p.weight, q.weight);
}

pub handed-by : (to other : ℕ → Type 0) (down : List Bool) (old new : Table) (pending now : List Bool) → ((k : ℕ) → to k → other k) → ((k : ℕ) → other k → to k) → IsHandedDown to down old new pending now
    → IsHandedDown other down old new pending now
handed-by to other down old new pending now into back p = record {
  rows = p.rows;
  width = p.width;
  places = p.places;
  grows = p.grows;
  falls = p.falls;
  met = λ k m is there. p.met k m (back k is) there;
  kept = p.kept;
  only = λ k m was gone. let rest = p.only k m was gone in (into k rest.0, rest.1);
  weight = p.weight;
}
