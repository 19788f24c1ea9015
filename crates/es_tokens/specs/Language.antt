-- Which texts have a shape, in the words of languages (the field).
use Rattle.std.specs.Prelude.{ℕ, ◌≡◌, true, ◌⊎◌, List, [], ◌∷◌, ◌++◌}
use Rattle.es_tokens.specs.Shape.{Shape, no_text, empty, any_text, one, seq, alt, many, other}

-- parts put end to end
abbrev pub put_together : List (List ℕ) → List ℕ
put_together [] = []
put_together (part ∷ parts) = part ++ put_together parts

abbrev pub Every : (List ℕ → Type 0) → List (List ℕ) → Type 0
Every P [] = Unit {0}
Every P (part ∷ parts) = P part × Every P parts

-- `many` is any number of parts, and `other` what hasn't the shape
abbrev pub HasShape : Shape → List ℕ → Type 0
HasShape no_text text = ⊥
HasShape empty text = text ≡ []
HasShape any_text text = Unit {0}
HasShape (one p) text = (c : ℕ) × (p c ≡ true) × (text ≡ c ∷ [])
HasShape (seq a b) text = (front : List ℕ) × (rest : List ℕ) × (text ≡ front ++ rest) × HasShape a front × HasShape b rest
HasShape (alt a b) text = HasShape a text ⊎ HasShape b text
HasShape (many a) text = (parts : List (List ℕ)) × (text ≡ put_together parts) × Every (HasShape a) parts
HasShape (other a) text = ¬ (HasShape a text)
