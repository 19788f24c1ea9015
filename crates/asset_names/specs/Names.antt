-- The names that templates give (webpack, output.filename and output.chunkFilename).
use Rattle.std.specs.Prelude.{ℕ, List, Option, unwrap_or}
use Rattle.std.specs.Fmt.{decimal}
use Rattle.std.specs.List.{flat_map}
use Rattle.graph_types.specs.declared.part.Part.{Part}
use Rattle.graph_types.specs.declared.part.Part.TheVariants.{Fixed, Name, Id, Hash}
use Rattle.asset_names.specs.Hash.{hash_of}

-- what a part gives for a chunk with a name or none, its id, and the asset's bytes
abbrev pub shown_part : Option (List ℕ) → ℕ → List ℕ → Part → List ℕ
shown_part name id bytes (Fixed text) = text
shown_part name id bytes Name = unwrap_or name (decimal id)
shown_part name id bytes Id = decimal id
shown_part name id bytes (Hash digits) = hash_of bytes digits

-- what the parts give, put end to end
abbrev pub name_from : List Part → Option (List ℕ) → ℕ → List ℕ → List ℕ
name_from parts name id bytes = flat_map (shown_part name id bytes) parts
