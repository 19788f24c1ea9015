-- Counts of faults, and when one is the cause of an answer (this project).
use Rattle.std.specs.Prelude.{ℕ, ◌+◌, ◌≤◌, min, Result, IsErrOf}
use Rattle.outside.specs.declared.outside_end.OutsideEnd.{OutsideEnd}
use Rattle.outside.specs.declared.outside_end.OutsideEnd.TheVariants.{Failed}

-- the last number of a u64, at which a count stands still
abbrev pub last_count : ℕ
last_count = 18_446_744_073_709_551_615

-- a count one further
abbrev pub risen : ℕ → ℕ
risen count = min (count + 1) last_count

-- the count rose
abbrev pub Rose : ℕ → ℕ → Type 0
Rose before now = risen before ≤ now

-- a count never falls, and the answer `Failed` comes only where it rose
pub record HasCause {T : Type 0} (before now : ℕ) (result : Result T OutsideEnd) : Type 0 where
  pub never_falls : before ≤ now
  pub failed : IsErrOf result Failed → Rose before now
