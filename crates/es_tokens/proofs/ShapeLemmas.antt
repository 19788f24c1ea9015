-- What a first character leaves of shapes put together.
use Rattle.std.proofs.Common.{ℕ, ◌≡◌, Bool, true, false, cond, ◌&&◌, nat_eq, refl, ◌∙◌}
use Rattle.std.proofs.lemmas.Bool.{and_right, ne_eqb}
use Rattle.es_tokens.specs.Shape.{Shape, no_text, empty, any_text, one, seq, alt, many, other, char, followed, either, takes_empty, after_first}
use Rattle.es_tokens.specs.declared.escape.Value.{Value}
use Rattle.es_tokens.specs.declared.escape.Value.TheVariants.{Start, Zeros, One, Four, Three, Two, Last, Full, WideFour, WideThree, WideTwo, WideLast}
use Rattle.es_tokens.specs.inner.NameMachine.{value_rest, escape_rest}
use Rattle.es_tokens.specs.NameShape.{name_rest}
use Rattle.es_tokens.specs.declared.escape.Escape.{Escape}
use Rattle.es_tokens.proofs.Literals.{is_hex-125}

pub either-no_text : (a : Shape) → either a no_text ≡ a
either-no_text no_text = refl
either-no_text empty = refl
either-no_text any_text = refl
either-no_text (one p) = refl
either-no_text (seq a b) = refl
either-no_text (alt a b) = refl
either-no_text (many a) = refl
either-no_text (other a) = refl

pub after-followed : (a b : Shape) (c : ℕ) → after_first (followed a b) c ≡ either (followed (after_first a c) b) (cond (takes_empty a) (after_first b c) no_text)
after-followed no_text b c = refl
after-followed empty b c = refl
after-followed any_text b c = refl
after-followed (one p) b c = refl
after-followed (seq a a') b c = refl
after-followed (alt a a') b c = refl
after-followed (many a) b c = refl
after-followed (other a) b c = refl

-- where the first part can't end, the second hasn't begun
pub after-followed_open : (a b : Shape) (c : ℕ) → takes_empty a ≡ false → after_first (followed a b) c ≡ followed (after_first a c) b
after-followed_open a b c e = after-followed a b c ∙ rw e (either-no_text _)

pub takes_empty-followed : (a b : Shape) → takes_empty (followed a b) ≡ (takes_empty a && takes_empty b)
takes_empty-followed no_text b = refl
takes_empty-followed empty b = refl
takes_empty-followed any_text b = refl
takes_empty-followed (one p) b = refl
takes_empty-followed (seq a a') b = refl
takes_empty-followed (alt a a') b = refl
takes_empty-followed (many a) b = refl
takes_empty-followed (other a) b = refl

-- a value can't go on with a brace
value-close : (v : Value) → after_first (value_rest v) 125 ≡ no_text
value-close Start = rw is_hex-125
value-close Zeros = rw is_hex-125
value-close One = rw is_hex-125
value-close Four = rw is_hex-125
value-close Three = rw is_hex-125
value-close Two = rw is_hex-125
value-close Last = rw is_hex-125
value-close Full = refl
value-close WideFour = rw is_hex-125
value-close WideThree = rw is_hex-125
value-close WideTwo = rw is_hex-125
value-close WideLast = rw is_hex-125

pub braced-open : (v : Value) → takes_empty (followed (value_rest v) (char 125)) ≡ false
braced-open v = takes_empty-followed (value_rest v) (char 125) ∙ and_right (takes_empty (value_rest v)) false refl

pub braced-close : (v : Value) → after_first (followed (value_rest v) (char 125)) 125 ≡ cond (takes_empty (value_rest v)) empty no_text
braced-close v = after-followed (value_rest v) (char 125) 125 ∙ rw (value-close v)

pub braced-step : (v : Value) (c : ℕ) → (c ≡ 125 → ⊥) → after_first (followed (value_rest v) (char 125)) c ≡ followed (after_first (value_rest v) c) (char 125)
braced-step v c n = let e : nat_eq c 125 ≡ false = ne_eqb c 125 n in after-followed (value_rest v) (char 125) c ∙ rw e (pick (takes_empty (value_rest v)) _)
  where
    pick : (b : Bool) (a : Shape) → either a (cond b no_text no_text) ≡ a
    pick true a = either-no_text a
    pick false a = either-no_text a

pub ruleset braces = (braced-open, braced-close, braced-step)

pub name-part_end : (s : Escape) → takes_empty (followed (escape_rest s) name_rest) ≡ takes_empty (escape_rest s)
name-part_end s = takes_empty-followed (escape_rest s) name_rest ∙ and_true (takes_empty (escape_rest s))
  where
    and_true : (b : Bool) → (b && true) ≡ b
    and_true true = refl
    and_true false = refl

pub ruleset sequences = (name-part_end, after-followed_open)
