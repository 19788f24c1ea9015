-- Specifiers: the names in the braces of an import or an export (ECMA-262 16.2.2 NamedImports, 16.2.3 NamedExports).
use Rattle.std.specs.Prelude.{ℕ, Bool, false, ◌&&◌, ◌==◌, ◌-◌, ◌+◌, List, [], ◌∷◌, Option, None, Some, length, take, slice_get, if◌then◌else◌}
use Rattle.std.specs.List.{list_all, slice_split}
use Rattle.std.specs.Option.{option_map_or}
use Rattle.es_tokens.specs.declared.token.Token.{Token}
use Rattle.form_shapes.specs.Source.{has_sign, is_at, inside, mate_at}
use Rattle.form_shapes.specs.declared.part.Side.{Side}
use Rattle.form_shapes.specs.declared.part.Side.TheVariants as side
use Rattle.form_shapes.specs.declared.sign.Sign.{Sign}
use Rattle.form_shapes.specs.declared.sign.Sign.TheVariants as sign

abbrev pub left_sign : Side → Sign
left_sign side.Left = sign.Name
left_sign side.Right = sign.IdName
left_sign side.Neither = sign.IdName

abbrev pub right_sign : Side → Sign
right_sign side.Left = sign.IdName
right_sign side.Right = sign.Name
right_sign side.Neither = sign.IdName

-- a name, or a name, `as` and another
abbrev pub is_specifier : List ℕ → Side → List Token → Bool
is_specifier text declared (name ∷ []) = has_sign text (left_sign declared) name && has_sign text (right_sign declared) name
is_specifier text declared (left ∷ word ∷ right ∷ []) =
    has_sign text (left_sign declared) left && (has_sign text sign.As word && has_sign text (right_sign declared) right)
is_specifier text declared _ = false

abbrev pub ends_with_comma : List ℕ → List Token → Bool
ends_with_comma text tokens = option_map_or (has_sign text sign.Comma) (slice_get tokens (length tokens - 1)) false

-- without a comma at the end
abbrev pub without_comma : List ℕ → List Token → List Token
without_comma text tokens = if ends_with_comma text tokens then take (length tokens - 1) tokens else tokens

-- the parts between commas, of which one may stand at the end; no token is no part
abbrev pub separated : List ℕ → List Token → List (List Token)
separated text tokens =
    if length tokens == 0 then [] else slice_split (has_sign text sign.Comma) (without_comma text tokens)

-- the parts between the commas of a pair of braces
abbrev pub specifiers : List ℕ → List Token → ℕ → List (List Token)
specifiers text tokens at = separated text (inside tokens at)

-- behind specifiers in braces
abbrev pub behind_names : List ℕ → List Token → Side → ℕ → Option ℕ
behind_names text tokens declared at =
    if is_at text tokens sign.Brace at && list_all (is_specifier text declared) (specifiers text tokens at)
    then Some (mate_at tokens at + 1) else None
