use Rattle.es_scan.proofs.QuietLemmas.{quiet_whole}
use Rattle.es_scan.proofs.laws.quiet_text_gives_nothing.Goals as goal

pub returns : goal.returns
returns c = λ path text tokens quiet. quiet_whole path text tokens quiet
