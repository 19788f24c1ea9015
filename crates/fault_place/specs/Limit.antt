-- The limits, their names as printed and the largest numbers that they allow (this project).
use Rattle.std.specs.Prelude.{ℕ, List, codes}
use Rattle.fault_place.specs.declared.limit.Limit.{Limit}
use Rattle.fault_place.specs.declared.limit.Limit.TheVariants.{Files, PathBytes, Modules, TextBytes, Items, Blocks, Groups, Chunks, OutputBytes}

abbrev pub name_of : Limit → List ℕ
name_of Files = codes "Files"
name_of PathBytes = codes "PathBytes"
name_of Modules = codes "Modules"
name_of TextBytes = codes "TextBytes"
name_of Items = codes "Items"
name_of Blocks = codes "Blocks"
name_of Groups = codes "Groups"
name_of Chunks = codes "Chunks"
name_of OutputBytes = codes "OutputBytes"

abbrev pub number_of : Limit → ℕ
number_of Files = 1_048_576
number_of PathBytes = 1_024
number_of Modules = 32_768
number_of TextBytes = 268_435_456
number_of Items = 2_097_152
number_of Blocks = 16_384
number_of Groups = 4_096
number_of Chunks = 8_192
number_of OutputBytes = 1_073_741_824
