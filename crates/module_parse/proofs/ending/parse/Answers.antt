use Rattle.std.proofs.Common.{◌≡◌, ◌∙◌, true, sym}
use Rattle.module_parse.specs.Parsed.{is_json}
use Rattle.module_parse.proofs.ending.parse.Goals as goal

pub returns-then-is_json-clause-is : goal.returns-then-is_json-clause-is
returns-then-is_json-clause-is c = λ reading is.
    let json : is_json c.args.path.now ≡ true = sym c.is_json.ensures ∙ c.if-is_json.true in
    rw json (c.json_record.ensures.is reading is)
