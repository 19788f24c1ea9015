use Rattle.std.proofs.Common.{ℕ, ◌≡◌, ◌<◌, ◌++◌, ◌∷◌, List, length, arith, length-append, ap}
use Rattle.std.specs.Char.{encode_utf8}
use Rattle.std.specs.Str.{chars, IsUtf8}
use Rattle.std.proofs.lemmas.Str.{chars_past_char, length-encode, len_utf8_bounds}
use Rattle.es_tokens.proofs.cursor.split_first.Goals as goal

past : (bs rest : List ℕ) (c : ℕ) → IsUtf8 bs → bs ≡ encode_utf8 c ++ rest → (chars bs ≡ c ∷ chars rest) × (length rest < length bs)
past bs rest c text cut = (
  chars_past_char bs rest c text cut,
  omega (arith, ap length cut, length-append (encode_utf8 c) rest, length-encode c, len_utf8_bounds c),
)

pub returns : goal.returns
returns c =
    rw c.as_str.ensures (past c.args.text.now c.next.new.self.rest.now c.in_ok-first.first c.utf8.text (rw (← c.chars-chars.ensures.rest) c.in_ok-first.ensures.steps.0))
