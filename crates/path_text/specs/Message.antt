-- What is printed of a refusal (this project).
use Rattle.std.specs.Prelude.{ℕ, List, codes}
use Rattle.path_text.specs.declared.path_end.PathEnd.{PathEnd}
use Rattle.path_text.specs.declared.path_end.PathEnd.TheVariants.{Above, Absolute, BadChar, NoMemory}

abbrev pub message_of : PathEnd → List ℕ
message_of Above = codes "the path leaves the root"
message_of Absolute = codes "the path is absolute"
message_of BadChar = codes "the path has a control character"
message_of NoMemory = codes "out of memory"
