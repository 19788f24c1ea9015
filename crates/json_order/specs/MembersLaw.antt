-- What the members of an object are, by those that are written (this project: RFC 8259, section 4, leaves repeated names open).
use Rattle.std.specs.Prelude.{ℕ, suc, ◌≡◌, ◌≤◌, List, [], ◌∷◌, Option, None, Some, if◌then◌else◌}
use Rattle.std.specs.Str.{bytes_eq}
use Rattle.json_order.specs.declared.tree.JsonTree.{JsonTree}
use Rattle.json_order.specs.declared.tree.JsonPair.{JsonPair}

-- the first of these with a key
abbrev pub member : List ℕ → List JsonPair → Option JsonPair
member key [] = None
member key (pair ∷ pairs) = if bytes_eq key pair.key then Some pair else member key pairs

-- the value of the last of these with a key, and where there is none the given one
abbrev pub last_value : List ℕ → JsonTree → List JsonPair → JsonTree
last_value key value [] = value
last_value key value (pair ∷ pairs) = last_value key (if bytes_eq key pair.key then pair.value else value) pairs

-- the first with a key, with the value of the last
abbrev pub with_last : List ℕ → List JsonPair → Option JsonPair → Option JsonPair
with_last key pairs None = None
with_last key pairs (Some pair) = Some (record pair { value = last_value key pair.value pairs })

-- no key stands twice
abbrev pub AreDistinct : List JsonPair → Type 0
AreDistinct [] = Unit {0}
AreDistinct (pair ∷ pairs) = (member pair.key pairs ≡ None) × AreDistinct pairs

-- their places are at an offset or behind it, and each is behind the one before
abbrev pub AreAscending : ℕ → List JsonPair → Type 0
AreAscending from [] = Unit {0}
AreAscending from (pair ∷ pairs) = (from ≤ pair.key_at) × AreAscending (suc pair.key_at) pairs
