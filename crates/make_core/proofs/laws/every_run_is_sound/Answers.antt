use Rattle.make_core.specs.Core.{start}
use Rattle.make_core.proofs.Runs.{sound_run}
use Rattle.make_core.proofs.Soundness.{sound_start}
use Rattle.make_core.proofs.laws.every_run_is_sound.Goals as goal

pub returns : goal.returns
returns c = λ plan files workers events accepted. sound_run plan (start files workers) events accepted (sound_start plan files workers)
