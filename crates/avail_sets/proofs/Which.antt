-- Rows whose places are set one after another.
use Rattle.std.proofs.Common.{ℕ, ◌+◌, ◌<◌, Bool, false, List, length, set, arith, inl, inr}
use Rattle.std.specs.Prelude.{◌↔◌, IsTrue}
use Rattle.std.proofs.lemmas.Bool.{cases_eq}
use Rattle.std.proofs.lemmas.List.{get_or-set_same, get_or-set_other}
use Rattle.avail_sets.specs.inner.Falling.{SaysWhich}

pub which-none : (holds : ℕ → Type 0) (places : List Bool) → SaysWhich holds places 0
which-none holds places = record { says = λ k l. absurd (omega arith) }

pub which-more : (holds : ℕ → Type 0) (row : List Bool) (g : ℕ) (test : Bool) → g < length row → SaysWhich holds row g → (IsTrue test ↔ holds g) → SaysWhich holds (set row g test) (g + 1)
which-more holds row g test within before here = record {
  says = λ k l. elim (cases_eq k g) [
    | inl e ↦ rw (e, get_or-set_same row g test false within) here
    | inr n ↦ rw (get_or-set_other row g k test false n) (before.says k (omega arith))
  ];
}
