-- The names and the numbers of the limits.
use Rattle.std.specs.Prelude.{◌≡◌, codes}
use Rattle.fault_place.specs.Limit.{name_of, number_of}
use Rattle.fault_place.specs.declared.limit.Limit.TheVariants.{Files, PathBytes, Modules, TextBytes, Items, Blocks, Groups, Chunks, OutputBytes}

pub record LimitsAreNamed : Type 0 where
  pub files : name_of Files ≡ codes "Files"
  pub path_bytes : name_of PathBytes ≡ codes "PathBytes"
  pub modules : name_of Modules ≡ codes "Modules"
  pub text_bytes : name_of TextBytes ≡ codes "TextBytes"
  pub items : name_of Items ≡ codes "Items"
  pub blocks : name_of Blocks ≡ codes "Blocks"
  pub groups : name_of Groups ≡ codes "Groups"
  pub chunks : name_of Chunks ≡ codes "Chunks"
  pub output_bytes : name_of OutputBytes ≡ codes "OutputBytes"

pub record LimitsAreNumbered : Type 0 where
  pub files : number_of Files ≡ 1_048_576
  pub path_bytes : number_of PathBytes ≡ 1_024
  pub modules : number_of Modules ≡ 32_768
  pub text_bytes : number_of TextBytes ≡ 268_435_456
  pub items : number_of Items ≡ 2_097_152
  pub blocks : number_of Blocks ≡ 16_384
  pub groups : number_of Groups ≡ 4_096
  pub chunks : number_of Chunks ≡ 8_192
  pub output_bytes : number_of OutputBytes ≡ 1_073_741_824
