-- The members of an object (this project): a repeated key keeps its first place and takes the last value.
use Rattle.std.specs.Prelude.{ℕ, List, [], ◌∷◌, if◌then◌else◌}
use Rattle.std.specs.Str.{bytes_eq}
use Rattle.json_order.specs.declared.tree.JsonTree.{JsonTree}
use Rattle.json_order.specs.declared.tree.JsonPair.{JsonPair}

-- the members after one more: a key that is there keeps its place and takes the value, another goes to the end
abbrev pub put : List JsonPair → List ℕ → ℕ → JsonTree → List JsonPair
put [] key key_at value = record { key = key; key_at = key_at; value = value } ∷ []
put (pair ∷ pairs) key key_at value = if bytes_eq key pair.key
    then record { key = pair.key; key_at = pair.key_at; value = value } ∷ pairs
    else pair ∷ put pairs key key_at value

-- the members after several more, in turn
abbrev pub merged : List JsonPair → List JsonPair → List JsonPair
merged pairs [] = pairs
merged pairs (more ∷ mores) = merged (put pairs more.key more.key_at more.value) mores
