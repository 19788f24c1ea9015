-- Whether two rows have a true place in common.
use Rattle.std.proofs.Common.{◌≡◌, ℕ, Bool, List, length, refl, sym, ◌∙◌, arith}
use Rattle.std.specs.Prelude.{◌↔◌, IsTrue, Option, Some, None, is_some, MatchOption}
use Rattle.std.proofs.lemmas.Bool.{true≢false, false≢true}
use Rattle.bit_rows.specs.Places.{meet, IsNext, NoneTrue}
use Rattle.chunk_groups.specs.Rows.{bit}
use Rattle.chunk_groups.proofs.Marks.{bit-within}
use Rattle.avail_sets.proofs.Bits.{and-left, and-right, and-both, bit-meet}

pub both-true : (xs ys : List Bool) → length xs ≡ length ys → (q : ℕ) → IsTrue (bit (meet xs ys) q) → IsTrue (bit xs q) × IsTrue (bit ys q)
both-true xs ys even q is =
    let both = sym (bit-meet xs ys q even) ∙ is in
    (and-left (bit xs q) (bit ys q) both, and-right (bit xs q) (bit ys q) both)

pub true-both : (xs ys : List Bool) → length xs ≡ length ys → (q : ℕ) → IsTrue (bit xs q) → IsTrue (bit ys q) → IsTrue (bit (meet xs ys) q)
true-both xs ys even q a b = bit-meet xs ys q even ∙ and-both (bit xs q) (bit ys q) a b

pub none-both : (xs ys : List Bool) → length xs ≡ length ys → NoneTrue (meet xs ys) 0 (length xs) → (q : ℕ) → IsTrue (bit xs q) → IsTrue (bit ys q) → ⊥
none-both xs ys even none q a b = true≢false (sym (true-both xs ys even q a b) ∙ none q (omega arith) (bit-within xs q a))

pub common-cases : (xs ys : List Bool) (found : Option ℕ) → length xs ≡ length ys → MatchOption found (NoneTrue (meet xs ys) 0 (length xs)) (IsNext (meet xs ys) 0)
    → IsTrue (is_some found) ↔ ((q : ℕ) × IsTrue (bit ys q) × IsTrue (bit xs q))
common-cases xs ys None even none = (λ no. absurd (false≢true no), λ (q, b, a). absurd (none-both xs ys even none q a b))
common-cases xs ys (Some q) even next = (λ yes. let both = both-true xs ys even q next.is_true in (q, both.1, both.0), λ some. refl)
