use Rattle.std.proofs.Common.{ap, sym, ◌∙◌, cond, []}
use Rattle.pack_config.specs.Values.{out_of_range}
use Rattle.pack_config.specs.inner.Found.{after}
use Rattle.pack_config.proofs.Written.{has_template, no_template, of_bad_end, both_ways}
use Rattle.pack_config.proofs.template.given_template.Goals as goal

pub returns-in-Ok-clause-faults : goal.returns-in-Ok-clause-faults
returns-in-Ok-clause-faults c =
    let is = has_template c.args.digits c.args.text.now c.in-Ok.template.parts c.in-Ok.ensures in
    sym (ap (λ b. after c.args.found.now (cond b [] (out_of_range c.args.tree.now))) is)

pub returns-in-Err-BadTemplate-clause-faults : goal.returns-in-Err-BadTemplate-clause-faults
returns-in-Err-BadTemplate-clause-faults c =
    let none = of_bad_end c.in-Err-BadTemplate.field-0 c.in-Err-BadTemplate.field-0-is c.in-Err-BadTemplate.ensures in
    let is = no_template c.args.digits c.args.text.now c.requires.at_least_one c.requires.at_most_all none in
    c.out_of_range.ensures ∙ sym (ap (λ b. after c.args.found.now (cond b [] (out_of_range c.args.tree.now))) is)

pub returns-in-Err-BadTemplate-clause-value : goal.returns-in-Err-BadTemplate-clause-value
returns-in-Err-BadTemplate-clause-value c =
    let none = of_bad_end c.in-Err-BadTemplate.field-0 c.in-Err-BadTemplate.field-0-is c.in-Err-BadTemplate.ensures in
    let is = no_template c.args.digits c.args.text.now c.requires.at_least_one c.requires.at_most_all none in
    λ holds. absurd (both_ways _ is holds)
