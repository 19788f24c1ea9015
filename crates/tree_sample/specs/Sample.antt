-- The sample tree (this project): a file for each number below `n`, which loads the three numbers that come below it when
-- the numbers are laid out as a tree of threes, and seven libraries. A text is the list of its bytes.
use Rattle.std.specs.Prelude.{ℕ, zero, suc, ◌+◌, ◌*◌, ◌/◌, ◌%◌, ◌==◌, ◌&&◌, nat_lt, nat_le, List, [], ◌∷◌, ◌++◌, map, codes, Result, Ok, Err, if◌then◌else◌}
use Rattle.std.specs.List.{range_with_len, repeat}
use Rattle.outside.specs.Tree.{Tree}
use Rattle.tree_sample.specs.declared.sample_end.SampleEnd.{SampleEnd}
use Rattle.tree_sample.specs.declared.sample_end.SampleEnd.TheVariants.{OutOfRange}

-- the last `count` decimal digits of a number
unfoldable pub digits : ℕ → ℕ → List ℕ
digits zero number = []
digits (suc count) number = digits count (number / 10) ++ (48 + number % 10) ∷ []

-- ---- the libraries

abbrev pub library_path : ℕ → List ℕ
library_path k = codes "node_modules/lib" ++ (digits 1 k ++ codes "/index.js")

unfoldable pub comment : ℕ → List ℕ
comment filling = codes "//" ++ (repeat filling (codes "x") ++ codes "\n")

-- a comment of 25,000 bytes
abbrev pub library_text : List ℕ
library_text = comment 24_997

abbrev pub library : ℕ → List ℕ × List ℕ
library k = (library_path k, library_text)

-- the first so many libraries
unfoldable pub libraries : ℕ → Tree
libraries count = map library (range_with_len 0 count)

-- ---- the modules

abbrev pub module_path : ℕ → List ℕ
module_path i = codes "src/m" ++ (digits 5 i ++ codes ".js")

abbrev pub library_line : ℕ → List ℕ
library_line i = if i % 12 == 3 then codes "import \"lib" ++ (digits 1 (i % 7) ++ codes "\";\n") else []

-- the line that imports a module, where there is one of this number
abbrev pub module_line : ℕ → ℕ → List ℕ
module_line n other = if nat_lt other n then codes "import \"./m" ++ (digits 5 other ++ codes ".js\";\n") else []

-- the line that loads it when it runs
abbrev pub load_line : ℕ → ℕ → List ℕ
load_line n other = if nat_lt other n then codes "import(\"./m" ++ (digits 5 other ++ codes ".js\");\n") else []

abbrev pub third_line : ℕ → ℕ → List ℕ
third_line n i = if i % 4 == 0 then load_line n (3 * i + 3) else module_line n (3 * i + 3)

abbrev pub module_text : ℕ → ℕ → List ℕ
module_text n i = library_line i ++ (module_line n (3 * i + 1) ++ (module_line n (3 * i + 2) ++ third_line n i))

abbrev pub module_file : ℕ → ℕ → List ℕ × List ℕ
module_file n i = (module_path i, module_text n i)

-- ---- the tree, whose files stand in byte order of path

-- all seven libraries, and the modules of `n` whose numbers are below `count`
abbrev pub sample_to : ℕ → ℕ → Tree
sample_to n count = libraries 7 ++ map (module_file n) (range_with_len 0 count)

abbrev pub sample : ℕ → Tree
sample n = sample_to n n

-- a sample has 1 to 20,000 modules
abbrev pub sample_of : ℕ → Result Tree SampleEnd
sample_of n = if nat_le 1 n && nat_le n 20_000 then Ok (sample n) else Err OutOfRange
