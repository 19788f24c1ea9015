use Rattle.std.proofs.Common.{rules}
use Rattle.pack_config.proofs.Seen.{names_more}
use Rattle.pack_config.proofs.repeated.note_name.Goals as goal

pub returns-else-not-is_new-clause-names : goal.returns-else-not-is_new-clause-names
returns-else-not-is_new-clause-names c = λ earlier held.
    names_more c.args.names.now c.insert.new.self earlier c.args.pair.now c.in_ok-new.field-0 (search rules) (λ name. c.in_ok-is_new.ensures.updates.0 name) held
