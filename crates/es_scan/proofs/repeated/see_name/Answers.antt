use Rattle.std.proofs.Common.{◌≡◌}
use Rattle.es_scan.proofs.NameLemmas.{more_names, on_any}
use Rattle.es_scan.proofs.repeated.see_name.Goals as goal

pub returns-then-is_new-clause-seen : goal.returns-then-is_new-clause-seen
returns-then-is_new-clause-seen c = λ earlier held.
    let same : c.args.name.now ≡ c.in_ok-clone.field-0 = c.in_ok-clone.ensures.cases in
    rw same (more_names c.args.seen.now c.insert.new.self c.in_ok-clone.field-0 earlier (λ name. c.in_ok-is_new.ensures.updates.0 name) held)

pub returns-clause-seen : goal.returns-clause-seen
returns-clause-seen c = λ earlier held.
    let same : c.args.name.now ≡ c.in_ok-clone.field-0 = c.in_ok-clone.ensures.cases in
    on_any c.push.result _
    (rw same (more_names c.args.seen.now c.insert.new.self c.in_ok-clone.field-0 earlier (λ name. c.in_ok-is_new.ensures.updates.0 name) held))
