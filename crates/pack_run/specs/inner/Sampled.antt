-- A verdict on a sample tree, whatever its modules are (this project).
use Rattle.std.specs.Prelude.{ℕ, List}
use Rattle.pack_run.specs.Sample.{IsSampleVerdict}
use Rattle.pack_run.specs.declared.verdict.Verdict.{Verdict}

abbrev pub IsOnSample : ℕ → Verdict → Type 0
IsOnSample n verdict = (paths : List (List ℕ)) × IsSampleVerdict n verdict paths
