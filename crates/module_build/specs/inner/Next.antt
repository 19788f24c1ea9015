-- Which of two lists of notes goes on (this project).
use Rattle.std.specs.Prelude.{Bool, true, false, nat_le, List, [], ◌∷◌}
use Rattle.graph_types.specs.declared.note.Note.{Note}

abbrev pub is_first_next : List Note → List Note → Bool
is_first_next [] others = false
is_first_next (note ∷ notes) [] = true
is_first_next (note ∷ notes) (other ∷ others) = nat_le note.at other.at
