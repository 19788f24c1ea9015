-- Readers of a tree in memory that fail in strays alone, and have met none (this project).
use Rattle.std.specs.Prelude.{◌≡◌, List}
use Rattle.std.specs.List.{AllByRecursion}
use Rattle.outside.specs.MemReaders.{reading}
use Rattle.outside.specs.Readings.{IsUnfailing}
use Rattle.outside.specs.Tree.{Tree}
use Rattle.outside.specs.declared.mem_reader.MemReader.{MemReader}

pub record IsFresh (tree : Tree) (reader : MemReader) : Type 0 where
  pub told : (reading reader).tree ≡ tree
  pub unfailing : IsUnfailing (reading reader)
  pub strays : (reading reader).strays ≡ 0

abbrev pub AreFresh : Tree → List MemReader → Type 0
AreFresh tree readers = AllByRecursion (IsFresh tree) readers
