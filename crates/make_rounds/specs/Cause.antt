-- When making a graph fails to read, and how it then ends (this project).
use Rattle.std.specs.Prelude.{ℕ, ◌≤◌, Result, IsErrOf}
use Rattle.outside.specs.Cause.{Rose}
use Rattle.outside.specs.declared.outside_end.OutsideEnd.{OutsideEnd}
use Rattle.outside.specs.declared.outside_end.OutsideEnd.TheVariants as outside_ends
use Rattle.make_rounds.specs.declared.make_end.MakeEnd.{MakeEnd}
use Rattle.make_rounds.specs.declared.make_end.MakeEnd.TheVariants.{ReadFault, NoMemory}

-- a count never falls, and a failed read comes only where it rose
pub record HasReadCause {T : Type 0} (before now : ℕ) (result : Result T MakeEnd) : Type 0 where
  pub never_falls : before ≤ now
  pub failed : IsErrOf result ReadFault → Rose before now

-- how it ends where a call on the reader does
abbrev pub read_end : OutsideEnd → MakeEnd
read_end outside_ends.Failed = ReadFault
read_end outside_ends.NoMemory = NoMemory
