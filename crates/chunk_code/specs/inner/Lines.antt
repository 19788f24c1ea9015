-- The lines of modules as they are written one after another.
use Rattle.std.specs.Prelude.{ℕ, List, [], ◌∷◌, codes}

-- what stands behind a module's text: a comma where another follows
abbrev pub line_end : List ℕ → List ℕ
line_end [] = codes "\n"
line_end (next ∷ rest) = codes ",\n"
