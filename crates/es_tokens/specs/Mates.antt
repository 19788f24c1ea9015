-- Brackets and their mates (this project).
use Rattle.std.specs.Prelude.{ℕ, ◌≡◌, ◌<◌, List, Option, Some, slice_get, slice_range}
use Rattle.std.specs.Option.{option_map}
use Rattle.es_tokens.specs.TokenRole.{role_of}
use Rattle.es_tokens.specs.declared.role.Role.{Role}
use Rattle.es_tokens.specs.declared.role.Role.TheVariants.{Open, Close}
use Rattle.es_tokens.specs.declared.token.Token.{Token}

-- the role and the mate of a token
abbrev pub played : List ℕ → Token → Role × ℕ
played text token = (role_of token.class (slice_range text token.span.start token.span.end), token.mate)

-- and of the token of a number
abbrev pub plays : List ℕ → List Token → ℕ → Option (Role × ℕ)
plays text tokens number = option_map (played text) (slice_get tokens number)

-- an opener's mate is a closer of its kind behind it, whose mate it is; any other token that isn't a bracket is its own
abbrev pub HasMate : (ℕ → Option (Role × ℕ)) → ℕ → Role → ℕ → Type 0
HasMate all number (Open bracket) mate = (number < mate) × (all mate ≡ Some (Close bracket, number))
HasMate all number (Close bracket) mate = (mate < number) × (all mate ≡ Some (Open bracket, number))
HasMate all number _ mate = mate ≡ number

-- each token has its mate
abbrev pub AreMates : List ℕ → List Token → Type 0
AreMates text tokens =
    (number : ℕ) (role : Role) (mate : ℕ) → plays text tokens number ≡ Some (role, mate) → HasMate (plays text tokens) number role mate
