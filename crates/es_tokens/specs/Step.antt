-- One step: the next token behind a front of the text, the end, or a fault (this project).
use Rattle.std.specs.Prelude.{ℕ, Bool, ◌-◌, ◌==◌, List, [], ◌∷◌, Option, None, Some, length, take, slice_range, unwrap_or, if◌then◌else◌}
use Rattle.std.specs.Str.{encode_utf8_all}
use Rattle.es_tokens.specs.Characters.{holds_terminator}
use Rattle.es_tokens.specs.Shape.{has_shape}
use Rattle.es_tokens.specs.Longest.{after_longest}
use Rattle.es_tokens.specs.GapShape.{gap, first_gap}
use Rattle.es_tokens.specs.Family.{family_of, shape_of, family_fault, class_of}
use Rattle.es_tokens.specs.TokenRole.{role_in}
use Rattle.es_tokens.specs.Misplaced.{closes, misplaced}
use Rattle.es_tokens.specs.declared.family.Family.{Family}
use Rattle.es_tokens.specs.declared.role.Bracket.TheVariants.{Template}
use Rattle.es_tokens.specs.declared.context.Opened.{Opened}
use Rattle.es_tokens.specs.declared.context.Context.{Context}
use Rattle.es_tokens.specs.declared.token.LexToken.{LexToken}
use Rattle.es_tokens.specs.declared.token.TokenFault.{TokenFault}
use Rattle.es_tokens.specs.declared.token.TokenKind.{TokenKind}
use Rattle.es_tokens.specs.declared.token.TokenKind.TheVariants as kind

-- the end, a token with the characters left behind it, or a fault
pub data Next : Type 0 where
  ends : Next
  token : LexToken → List ℕ → Next
  fails : TokenFault → Next

-- the place in the text, in bytes, behind which these characters are left
abbrev pub place : List ℕ → List ℕ → ℕ
place text rest = length text - length (encode_utf8_all rest)

-- what is left behind a gap
unfoldable pub after_gap : Bool → List ℕ → List ℕ
after_gap is_first rest = unwrap_or (after_longest (has_shape (if is_first then first_gap else gap)) rest) rest

-- the characters in front of those that are left
abbrev pub passed : List ℕ → List ℕ → List ℕ
passed rest left = take (length rest - length left) rest

abbrev pub fail_at : ℕ → TokenKind → Next
fail_at offset kind = fails (record { offset = offset; kind = kind })

abbrev pub placed_token : LexToken → List ℕ → Option TokenKind → Next
placed_token found rest None = token found rest
placed_token found rest (Some kind) = fail_at found.span.start kind

-- the token between two places, behind a gap of these characters
abbrev pub token_at : List ℕ → Family → List ℕ → ℕ → ℕ → ℕ → LexToken
token_at text family gap start end depth = record {
  class = class_of family (slice_range text start end);
  span = record { start = start; end = end };
  new_line = holds_terminator gap;
  depth = depth;
}

abbrev pub token_step : ℕ → List ℕ → List Opened → Family → List ℕ → List ℕ → Option (List ℕ) → Next
token_step most text brackets family gap begun None = fail_at (place text begun) (family_fault family)
token_step most text brackets family gap begun (Some rest) =
    let found = token_at text family gap (place text begun) (place text rest) (length brackets) in
    placed_token found rest (misplaced most brackets (role_in text found))

-- the step on what a gap leaves
abbrev pub step_behind : ℕ → List ℕ → Context → List ℕ → List ℕ → Next
step_behind most text context rest [] = if length context.brackets == 0 then ends else fail_at (length text) kind.Open
step_behind most text context rest (c ∷ more) =
    -- a `}` in a template's bracket goes on with the template
    let family = family_of context.division (closes Template context.brackets) c more in
    token_step most text context.brackets family (passed rest (c ∷ more)) (c ∷ more) (after_longest (has_shape (shape_of family)) (c ∷ more))

-- with at most so many brackets open, and these characters of the text left
unfoldable pub step : ℕ → List ℕ → Context → List ℕ → Next
step most text context rest = step_behind most text context rest (after_gap context.first rest)
