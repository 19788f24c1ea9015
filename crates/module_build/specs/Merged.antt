-- Notes of two lists that stand by offset, in one such list; at one offset those of the first list stand first (this project).
use Rattle.std.specs.Prelude.{nat_lt, List, [], ◌∷◌, if◌then◌else◌}
use Rattle.graph_types.specs.declared.note.Note.{Note}

-- a note before others and what goes on behind it, but behind those that stand before its offset
abbrev pub among : Note → List Note → (List Note → List Note) → List Note
among note [] rest = note ∷ rest []
among note (other ∷ others) rest = if nat_lt other.at note.at then other ∷ among note others rest else note ∷ rest (other ∷ others)

abbrev pub merged : List Note → List Note → List Note
merged [] others = others
merged (note ∷ notes) others = among note others (merged notes)
