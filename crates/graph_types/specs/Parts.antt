-- The parts of an asset's name (webpack, output.filename; the number of digits is this project's).
use Rattle.std.specs.Prelude.{Bool, true, ◌&&◌, nat_le}
use Rattle.graph_types.specs.declared.part.Part.{Part}
use Rattle.graph_types.specs.declared.part.Part.TheVariants.{Fixed, Name, Id, Hash}

-- SHA-256 has 64 hexadecimal digits
abbrev pub is_part : Part → Bool
is_part (Fixed text) = true
is_part Name = true
is_part Id = true
is_part (Hash digits) = nat_le 1 digits && nat_le digits 64
