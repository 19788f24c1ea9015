use Rattle.std.proofs.Common.{◌≡◌, ◌+◌, ◌++◌, take, sym, ap, ◌∙◌}
use Rattle.std.specs.Prelude.{filter_map, option_to_list}
use Rattle.module_build.specs.Answers.{request_note}
use Rattle.module_build.proofs.Lists.{filter_map-next}
use Rattle.module_build.proofs.answering.request_notes.Goals as goal

pub loop-one-preserved : goal.loop-one-preserved
loop-one-preserved c =
    let asked = c.args.asked.now in
    let place = c.loop-one.one-index in
    let front = filter_map request_note (take place asked) in
    let found = c.in_ok-request_note.field-0 in
    let is : found ≡ request_note c.one-item.result = c.in_ok-request_note.ensures in
    let more : filter_map request_note (take (place + 1) asked) ≡ front ++ option_to_list found =
    filter_map-next request_note asked place c.one-item.result c.loop-one-test.true
    ∙ ap (λ one. front ++ option_to_list (request_note one)) (sym c.one-item.is)
    ∙ ap (λ note. front ++ option_to_list note) (sym is) in
    c.in_ok-add_some.ensures ∙ ap (λ notes. notes ++ option_to_list found) c.loop-one.invariant ∙ sym more
