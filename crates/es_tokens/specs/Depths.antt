-- How deep tokens stand in brackets, and what brackets enclose (this project).
use Rattle.std.specs.Prelude.{ℕ, suc, ◌≡◌, ◌+◌, ◌<◌, Bool, true, false, List, Some, slice_get, take}
use Rattle.std.specs.List.{count_by}
use Rattle.es_tokens.specs.TokenRole.{role_of}
use Rattle.es_tokens.specs.TokenText.{token_bytes}
use Rattle.es_tokens.specs.declared.role.Role.{Role}
use Rattle.es_tokens.specs.declared.role.Role.TheVariants.{Open, Close}
use Rattle.es_tokens.specs.declared.token.Token.{Token}

abbrev pub is_opener : Role → Bool
is_opener (Open bracket) = true
is_opener _ = false

abbrev pub is_closer : Role → Bool
is_closer (Close bracket) = true
is_closer _ = false

abbrev pub role_at : List ℕ → Token → Role
role_at text token = role_of token.class (token_bytes text token)

-- a token's depth is how many brackets are opened before it and not closed before it
abbrev pub DepthsCountOpen : List ℕ → List Token → Type 0
DepthsCountOpen text tokens =
    (at : ℕ) (token : Token) → slice_get tokens at ≡ Some token →
    token.depth + count_by (λ t. is_closer (role_at text t)) (take at tokens) ≡ count_by (λ t. is_opener (role_at text t)) (take at tokens)

-- a token between an opener and its mate is deeper than the opener, and its own mate stands between them too
pub record IsEnclosed (from : ℕ) (first : Token) (token : Token) : Type 0 where
  pub deeper : first.depth < token.depth
  pub mate_behind : from < token.mate
  pub mate_before : token.mate < first.mate

-- so is each between them, and the mate has the depth of the opener and one
pub record Encloses (tokens : List Token) (from : ℕ) (first : Token) : Type 0 where
  pub last : (token : Token) → slice_get tokens first.mate ≡ Some token → token.depth ≡ suc first.depth
  pub between : (at : ℕ) (token : Token) → slice_get tokens at ≡ Some token → from < at → at < first.mate → IsEnclosed from first token

abbrev pub AreNested : List Token → Type 0
AreNested tokens = (from : ℕ) (first : Token) → slice_get tokens from ≡ Some first → from < first.mate → Encloses tokens from first
