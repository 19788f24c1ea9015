use Rattle.pack_config.proofs.Written.{template_there, of_bad_end}
use Rattle.pack_config.proofs.template.default_template.Goals as goal

pub returns-in-Err-BadTemplate : goal.returns-in-Err-BadTemplate
returns-in-Err-BadTemplate c =
    let there = template_there c.args.digits c.args.text.now c.requires.at_least_one c.requires.at_most_all c.requires.default in
    let none = of_bad_end c.in-Err-BadTemplate.field-0 c.in-Err-BadTemplate.field-0-is c.in-Err-BadTemplate.ensures in
    absurd (none there.0 there.1)
