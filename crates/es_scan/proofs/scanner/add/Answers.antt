use Rattle.std.proofs.Common.{sym}
use Rattle.es_scan.proofs.ScanLemmas.{nothing_more}
use Rattle.es_scan.proofs.scanner.add.Goals as goal

pub returns-in-Nothing : goal.returns-in-Nothing
returns-in-Nothing c =
    nothing_more c.args.source.text.now c.args.source.tokens.now c.args.at c.args.state.now (sym c.in-Nothing.ensures) c.requires.upto
