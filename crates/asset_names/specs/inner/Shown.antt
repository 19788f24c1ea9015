-- A name's parts from the digits of a hash that is worked out once, where a part shows it.
use Rattle.std.specs.Prelude.{ℕ, Bool, true, false, List, [], take, Option, unwrap_or, if◌then◌else◌}
use Rattle.std.specs.Fmt.{decimal}
use Rattle.std.specs.List.{list_any}
use Rattle.graph_types.specs.declared.part.Part.{Part}
use Rattle.graph_types.specs.declared.part.Part.TheVariants.{Fixed, Name, Id, Hash}
use Rattle.asset_names.specs.Hash.{whole_hash_of}

-- what a part gives, from the hash's digits
abbrev pub shown_with : Option (List ℕ) → ℕ → List ℕ → Part → List ℕ
shown_with name id hash (Fixed text) = text
shown_with name id hash Name = unwrap_or name (decimal id)
shown_with name id hash Id = decimal id
shown_with name id hash (Hash digits) = take digits hash

abbrev pub is_hash : Part → Bool
is_hash (Fixed text) = false
is_hash Name = false
is_hash Id = false
is_hash (Hash digits) = true

-- the digits that parts show of the hash of some bytes: nothing where no part is a hash
abbrev pub hash_in : List Part → List ℕ → List ℕ
hash_in parts bytes = if list_any is_hash parts then whole_hash_of bytes else []
