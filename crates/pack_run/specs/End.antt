-- The ends of a command and their exit statuses (this project).
use Rattle.std.specs.Prelude.{ℕ, ⊤}
use Rattle.pack_run.specs.declared.end.End.{End}
use Rattle.pack_run.specs.declared.end.End.TheVariants.{Built, Faults, Usage, Config, Limit, ReadFault, WriteFault, LineFault, NoMemory}

abbrev pub status_of : End → ℕ
status_of Built = 0
status_of (Faults count) = 1
status_of Usage = 2
status_of Config = 2
status_of ReadFault = 3
status_of WriteFault = 4
status_of LineFault = 4
status_of NoMemory = 5
status_of (Limit limit) = 6

-- a fact of the ends at which nothing is put
abbrev pub OnNothingPut : End → Type 0 → Type 0
OnNothingPut (Faults count) fact = fact
OnNothingPut Usage fact = fact
OnNothingPut Config fact = fact
OnNothingPut (Limit limit) fact = fact
OnNothingPut ReadFault fact = fact
OnNothingPut Built fact = ⊤
OnNothingPut WriteFault fact = ⊤
OnNothingPut LineFault fact = ⊤
OnNothingPut NoMemory fact = ⊤

-- an end that tells a verdict, or that memory ran out
abbrev pub IsDecided : End → Type 0
IsDecided ReadFault = ⊥
IsDecided WriteFault = ⊥
IsDecided LineFault = ⊥
IsDecided end = ⊤
