-- Requests (webpack documentation, `resolve.alias` and "Module Resolution"; Node.js, "Packages" on names and scopes).
use Rattle.std.specs.Prelude.{ℕ, ◌-◌, Bool, not, ◌&&◌, ◌||◌, ◌==◌, nat_eq, List, [], ◌∷◌, ◌++◌, length, take, drop, codes, bytes_eq, Option, Some, None, if◌then◌else◌}
use Rattle.std.specs.List.{find, list_any, starts_with, ends_with, before_first, after_first}
use Rattle.path_text.specs.Path.{is_slash}
use Rattle.resolve_path.specs.declared.request.BareRequest.{BareRequest}

-- `.`, `..`, or what begins with `./` or `../`
abbrev pub is_relative : List ℕ → Bool
is_relative request = bytes_eq request (codes ".") || bytes_eq request (codes "..")
    || starts_with nat_eq request (codes "./") || starts_with nat_eq request (codes "../")

-- a `$` at the end of an alias's key makes it match the whole request alone
abbrev pub is_whole : List ℕ → Bool
is_whole key = ends_with nat_eq key (codes "$")

-- what a key stands for, without that `$`
abbrev pub alias_name : List ℕ → List ℕ
alias_name key = if is_whole key then take (length key - 1) key else key

-- what follows a key's name in a request that begins with it
abbrev pub rest_behind : List ℕ → List ℕ → List ℕ
rest_behind request key = drop (length (alias_name key)) request

-- nothing follows the name, or a slash where the key has no `$`
abbrev pub goes_on : List ℕ → List ℕ → Bool
goes_on rest key = bytes_eq rest [] || (not (is_whole key) && starts_with nat_eq rest (codes "/"))

-- a key matches what begins with its name and goes on so
abbrev pub is_aliased : List ℕ → List ℕ → Bool
is_aliased request key = starts_with nat_eq request (alias_name key) && goes_on (rest_behind request key) key

-- a request, and the folder from which it is looked up
pub record Asked : Type 0 where
  pub base : List ℕ
  pub request : List ℕ

-- the value stands for the name, and what follows the name stays
abbrev pub replaced : List ℕ → List ℕ × List ℕ → List ℕ
replaced request alias = alias.1 ++ rest_behind request alias.0

-- a relative request that an alias gave is looked up from the root (this project)
abbrev pub asked_by : List ℕ → List ℕ → Asked
asked_by base request = record { base = if is_relative request then [] else base; request = request }

abbrev pub aliased : List ℕ → List ℕ → Option (List ℕ × List ℕ) → Asked
aliased base request None = record { base = base; request = request }
aliased base request (Some alias) = asked_by base (replaced request alias)

-- the first alias that matches; no second one is applied (this project)
abbrev pub asked_of : List (List ℕ × List ℕ) → List ℕ → List ℕ → Asked
asked_of aliases base request = aliased base request (find (λ alias. is_aliased request alias.0) aliases)

-- the name is all before the first slash
abbrev pub plain_of : List ℕ → BareRequest
plain_of request = record { name = before_first is_slash request; rest = after_first is_slash request }

-- the name is the scope, and all up to the next slash
abbrev pub scoped_by : List ℕ → BareRequest → BareRequest
scoped_by scope bare = record { name = scope ++ codes "/" ++ bare.name; rest = bare.rest }

-- a scope without a slash is no name
abbrev pub scoped_of : List ℕ → Option BareRequest
scoped_of request =
    if list_any is_slash request then Some (scoped_by (before_first is_slash request) (plain_of (after_first is_slash request))) else None

-- a request that is empty or begins with a slash names no package
abbrev pub bare_of : List ℕ → Option BareRequest
bare_of [] = None
bare_of (byte ∷ bytes) =
    if is_slash byte then None else (if byte == 64 then scoped_of (byte ∷ bytes) else Some (plain_of (byte ∷ bytes)))
