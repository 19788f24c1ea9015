use Rattle.split_chunks.proofs.OneList.{limit_alone}
use Rattle.split_chunks.proofs.laws.limit_needs_more.Goals as goal

pub returns : goal.returns
returns c = limit_alone
