-- How the members of an open object are held: by their keys.
use Rattle.std.specs.Prelude.{ℕ, List, map, string_bytes}
use Rattle.std.specs.String.{string_eq}
use Rattle.std.specs.Option.{option_map_or}
use Rattle.std.specs.Map.{lookup}
use Rattle.std.specs.declared.string.String.{String}
use Rattle.std.specs.declared.alloc.Global.{Global}
use Rattle.json_order.specs.declared.tree.JsonTree.{JsonTree}
use Rattle.json_order.specs.declared.tree.JsonPair.{JsonPair}
use Rattle.json_order.specs.declared.members.Held.{Held}

abbrev pub pair_of : String Global × Held → JsonPair
pair_of entry = record { key = string_bytes entry.0; key_at = entry.1.key_at; value = entry.1.value }

abbrev pub pairs_of : List (String Global × Held) → List JsonPair
pairs_of entries = map pair_of entries

abbrev pub held : ℕ → JsonTree → Held
held key_at value = record { key_at = key_at; value = value }

-- the place of a key that is there, or else the given one
abbrev pub place_of : List (String Global × Held) → String Global → ℕ → ℕ
place_of entries key key_at = option_map_or (λ found. found.key_at) (lookup (string_eq key) entries) key_at
