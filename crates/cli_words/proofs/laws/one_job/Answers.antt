use Rattle.cli_words.proofs.Jobs.{one_job}
use Rattle.cli_words.proofs.laws.one_job.Goals as goal

pub returns : goal.returns
returns c = one_job
