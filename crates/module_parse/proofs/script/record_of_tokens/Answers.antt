use Rattle.std.proofs.Common.{subst, sym}
use Rattle.std.proofs.lemmas.Result.{IfOk-weaker}
use Rattle.graph_types.specs.declared.record.ModRecord.{ModRecord}
use Rattle.es_scan.specs.Whole.{IsWholeScan}
use Rattle.module_parse.specs.Whole.{IsParsed}
use Rattle.module_parse.proofs.Scans.{parsed_by}
use Rattle.module_parse.proofs.script.record_of_tokens.Goals as goal

pub returns-clause-whole : goal.returns-clause-whole
returns-clause-whole c =
    let file = c.args.file in
    let path = c.args.path.now in
    let text = c.args.text in
    let law = c.scan_is_whole.ensures path text c.args.tokens.now c.requires.short c.requires.tokens in
    let whole : IsWholeScan text c.in_ok-scan.scan = rw (c.in_ok-scan.ensures, c.get.ensures) law in
    IfOk-weaker c.scanned_record.result _ _
    (λ (rec : ModRecord) is. subst (IsParsed file) (sym is) (parsed_by file path text c.in_ok-scan.scan c.requires.short whole))
    c.scanned_record.ensures
