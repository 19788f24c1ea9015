-- Digits, one at a time.
use Rattle.std.proofs.Common.{◌≡◌, ℕ, zero, suc, ◌+◌, ◌-◌, ◌/◌, ◌%◌, List, [], ◌∷◌, ◌++◌, Result, OnOk, refl, sym, ap, ◌∙◌, arith}
use Rattle.std.proofs.lemmas.List.{append-nil, append_assoc}
use Rattle.tree_sample.specs.Sample.{digits}
use Rattle.tree_sample.proofs.Steps.{on_ok}

pub none : (count number : ℕ) (text : List ℕ) → count ≡ 0 → text ≡ text ++ digits count number
unfolding digits
none count number text e = sym (ap (λ n. text ++ digits n number) e ∙ append-nil text)

more : (count number : ℕ) → (count ≡ 0 → ⊥) → digits (count - 1) (number / 10) ++ (48 + number % 10) ∷ [] ≡ digits count number
unfolding digits
more zero number some = absurd (some refl)
more (suc count) number some =
    let same : suc count - 1 ≡ count = omega arith in
    ap (λ n. digits n (number / 10) ++ (48 + number % 10) ∷ []) same

pub last : (count number : ℕ) (old mid new : List ℕ) → (count ≡ 0 → ⊥) → mid ≡ old ++ digits (count - 1) (number / 10) →
    new ≡ mid ++ (48 + number % 10) ∷ [] → new ≡ old ++ digits count number
last count number old mid new some front digit =
    digit ∙ ap (λ xs. xs ++ (48 + number % 10) ∷ []) front ∙ append_assoc old (digits (count - 1) (number / 10)) ((48 + number % 10) ∷ [])
    ∙ ap (λ xs. old ++ xs) (more count number some)
