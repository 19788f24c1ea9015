use Rattle.chunk_groups.proofs.Brought.{serves-more}
use Rattle.chunk_groups.proofs.laws.serves_with_more.Goals as goal

pub returns : goal.returns
returns c = serves-more
