-- Parts that are added one behind another.
use Rattle.std.proofs.Common.{◌≡◌, ℕ, List, ◌++◌, append_assoc, ap, ◌∙◌}

pub added : (old front part before after : List ℕ) → before ≡ old ++ front → after ≡ before ++ part → after ≡ old ++ (front ++ part)
added old front part before after first last = last ∙ ap (λ text. text ++ part) first ∙ append_assoc old front part
