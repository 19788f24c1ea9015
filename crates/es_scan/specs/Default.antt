-- What `export default` exports (ECMA-262 16.2.3): a function or a class with or without a name, or an expression.
use Rattle.std.specs.Prelude.{ℕ, Bool, false, not, ◌&&◌, ◌+◌, List, slice_get, if◌then◌else◌}
use Rattle.std.specs.Option.{option_map_or}
use Rattle.es_tokens.specs.declared.token.Token.{Token}
use Rattle.form_shapes.specs.Source.{is_at}
use Rattle.form_shapes.specs.declared.sign.Sign.TheVariants as sign
use Rattle.es_scan.specs.declared.default.Default.{Default}
use Rattle.es_scan.specs.declared.default.Default.TheVariants.{Expression, Named, Unnamed}

abbrev pub is_on_new_line : List Token → ℕ → Bool
is_on_new_line tokens at = option_map_or (λ token. token.new_line) (slice_get tokens at) false

-- the `*` behind a token, or else that token
abbrev pub behind_star : List ℕ → List Token → ℕ → ℕ
behind_star text tokens at = if is_at text tokens sign.Star (at + 1) then at + 1 else at

-- the name behind a token, where one stands there
abbrev pub named_or : List ℕ → List Token → ℕ → Default
named_or text tokens at = if is_at text tokens sign.Name (at + 1) then Named (at + 1) else Unnamed at

-- from the token behind `default` on
unfoldable pub default_at : List ℕ → List Token → ℕ → Default
default_at text tokens at =
    if is_at text tokens sign.Function at then named_or text tokens (behind_star text tokens at)
    else (if is_at text tokens sign.Class at then named_or text tokens at
    else (if is_at text tokens sign.Async at && (is_at text tokens sign.Function (at + 1) && not (is_on_new_line tokens (at + 1)))
    then named_or text tokens (behind_star text tokens (at + 1))
    else Expression))
