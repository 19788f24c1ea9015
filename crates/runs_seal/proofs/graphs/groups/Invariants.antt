use Rattle.std.proofs.Common.{◌≤◌, vec_len}
use Rattle.runs_seal.proofs.graphs.groups.Given as goal

abbrev pub invariant-loop-word : goal.invariant-loop-word
invariant-loop-word l = vec_len l.infos ≤ 16
