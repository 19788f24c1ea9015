use Rattle.std.proofs.Common.{◌≡◌, ◌+◌, ◌++◌, append_assoc, take, sym, ap, ◌∙◌}
use Rattle.std.specs.Prelude.{filter_map, option_to_list}
use Rattle.module_build.proofs.Lists.{filter_map-next}
use Rattle.make_rounds.specs.inner.Answered.{answer_fault}
use Rattle.make_rounds.proofs.entry_files.add_faults.Goals as goal

pub loop-one-preserved : goal.loop-one-preserved
loop-one-preserved c =
    let h = answer_fault c.args.path.now in
    let answers = c.args.answers.now in
    let place = c.loop-one.one-index in
    let front = filter_map h (take place answers) in
    let found = c.in_ok-answer_fault.field-0 in
    let is : found ≡ h c.one-item.result = c.in_ok-answer_fault.ensures in
    let more : filter_map h (take (place + 1) answers) ≡ front ++ option_to_list found =
    filter_map-next h answers place c.one-item.result c.loop-one-test.true
    ∙ ap (λ one. front ++ option_to_list (h one)) (sym c.one-item.is)
    ∙ ap (λ fault. front ++ option_to_list fault) (sym is) in
    c.in_ok-add_some.ensures ∙ ap (λ faults. faults ++ option_to_list found) c.loop-one.invariant
    ∙ append_assoc c.args.faults.now.items front (option_to_list found) ∙ ap (λ rest. c.args.faults.now.items ++ rest) (sym more)
