-- What a call answers, where a definition computes it (this project).
use Rattle.std.specs.Prelude.{◌≡◌, ◌⊎◌, Result, Ok, Err, MatchResult}

-- The result is the one that is defined, or memory ran out. `shown` is what a caller sees of an Ok.
abbrev pub Answers : {A X E : Type 0} → E → (A → X) → Result X E → Result A E → Type 0
Answers no_memory shown defined result =
    MatchResult result (λ value. defined ≡ Ok (shown value)) (λ end. (end ≡ no_memory) ⊎ (defined ≡ Err end))
