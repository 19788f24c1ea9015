use Rattle.std.proofs.Common.{◌≤◌, vec_len}
use Rattle.runs_seal.proofs.graphs.bytes.Given as goal

abbrev pub invariant-loop-byte : goal.invariant-loop-byte
invariant-loop-byte l = vec_len l.bytes ≤ 4_096
