use Rattle.std.proofs.Common.{◌<◌, vec_len}
use Rattle.runs_commands.proofs.setting.Setting.readers.Given as goal

abbrev pub invariant-loop : goal.invariant-loop
invariant-loop l = 0 < vec_len l.readers
