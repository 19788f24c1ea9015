-- The longest front of a text that passes a test (this project).
use Rattle.std.specs.Prelude.{ℕ, Bool, List, [], ◌∷◌, Option, Some, None, if◌then◌else◌}
use Rattle.std.specs.Option.{option_or}

-- what is left behind the longest front that passes
abbrev pub after_longest : (List ℕ → Bool) → List ℕ → Option (List ℕ)
after_longest passes [] = if passes [] then Some [] else None
after_longest passes (c ∷ cs) =
    option_or (after_longest (λ front. passes (c ∷ front)) cs) (if passes [] then Some (c ∷ cs) else None)
