-- The line of an end that tells no verdict (this project).
use Rattle.std.specs.Prelude.{ℕ, ◌⊎◌, List, [], ◌∷◌, codes}
use Rattle.outside.specs.Views.{SinkView}
use Rattle.pack_run.specs.Report.{Adds, Leaves}
use Rattle.pack_run.specs.declared.end.End.{End}
use Rattle.pack_run.specs.declared.end.End.TheVariants.{ReadFault, WriteFault, NoMemory}

-- one line was added, or none
abbrev pub TriesLine : List ℕ → SinkView (List ℕ) → SinkView (List ℕ) → Type 0
TriesLine line lines lines' = Leaves lines lines' ⊎ Adds lines lines' (line ∷ [])

-- the line of an end that tells no verdict is tried once
abbrev pub TriesLast : End → SinkView (List ℕ) → SinkView (List ℕ) → Type 0
TriesLast ReadFault lines lines' = TriesLine (codes "read failed") lines lines'
TriesLast WriteFault lines lines' = TriesLine (codes "write failed") lines lines'
TriesLast NoMemory lines lines' = TriesLine (codes "no memory") lines lines'
TriesLast end lines lines' = Leaves lines lines'
