use Rattle.es_scan.proofs.TargetLemmas.{keeps-whole, record-whole}
use Rattle.es_scan.proofs.laws.targets_keep_a_scan_whole.Goals as goal

pub returns : goal.returns
returns c = record { scan = keeps-whole; rec = record-whole }
