use Rattle.chunk_groups.proofs.Brought.{serves-by-rows, serves-not}
use Rattle.chunk_groups.proofs.laws.serves_by_rows.Goals as goal

pub returns : goal.returns
returns c = record { serves = serves-by-rows; fails = serves-not }
