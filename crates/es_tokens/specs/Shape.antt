-- Shapes of texts: regular expressions over code points, with complement (the field; Brzozowski's derivatives).
use Rattle.std.specs.Prelude.{ℕ, Bool, true, false, not, ◌&&◌, ◌||◌, ◌==◌, List, [], ◌∷◌, if◌then◌else◌}

pub data Shape : Type 0 where
  no_text : Shape
  empty : Shape
  any_text : Shape
  one : (ℕ → Bool) → Shape
  seq : Shape → Shape → Shape
  alt : Shape → Shape → Shape
  many : Shape → Shape
  other : Shape → Shape

-- this character
abbrev pub char : ℕ → Shape
char c = one (λ x. x == c)

-- the three compound shapes, without parts that no text has
abbrev pub followed : Shape → Shape → Shape
followed no_text b = no_text
followed empty b = b
followed a b = seq a b

abbrev pub either : Shape → Shape → Shape
either no_text b = b
either any_text b = any_text
either a no_text = a
either a any_text = any_text
either a b = alt a b

abbrev pub all_but : Shape → Shape
all_but no_text = any_text
all_but any_text = no_text
all_but a = other a

-- whether the empty text has the shape
abbrev pub takes_empty : Shape → Bool
takes_empty no_text = false
takes_empty empty = true
takes_empty any_text = true
takes_empty (one p) = false
takes_empty (seq a b) = takes_empty a && takes_empty b
takes_empty (alt a b) = takes_empty a || takes_empty b
takes_empty (many a) = true
takes_empty (other a) = not (takes_empty a)

-- the shape of what may follow a first character
abbrev pub after_first : Shape → ℕ → Shape
after_first no_text c = no_text
after_first empty c = no_text
after_first any_text c = any_text
after_first (one p) c = if p c then empty else no_text
after_first (seq a b) c = either (followed (after_first a c) b) (if takes_empty a then after_first b c else no_text)
after_first (alt a b) c = either (after_first a c) (after_first b c)
after_first (many a) c = followed (after_first a c) (many a)
after_first (other a) c = all_but (after_first a c)

-- whether a text has a shape
abbrev pub has_shape : Shape → List ℕ → Bool
has_shape shape [] = takes_empty shape
has_shape shape (c ∷ cs) = has_shape (after_first shape c) cs
