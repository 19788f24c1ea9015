-- What a string stands for that has no backslash (ECMA-262 12.9.4): all between its quotes.
use Rattle.std.specs.Prelude.{ℕ, ◌-◌, List, length, slice_range}

abbrev pub unquoted : List ℕ → List ℕ
unquoted bytes = slice_range bytes 1 (length bytes - 1)
