use Rattle.std.proofs.Common.{◌≡◌, ◌+◌, ◌++◌, take, sym, ap, ◌∙◌}
use Rattle.std.specs.Prelude.{filter_map, option_to_list}
use Rattle.module_build.proofs.Lists.{filter_map-next}
use Rattle.module_build.specs.Answers.{file_named}
use Rattle.make_rounds.specs.declared.entry_answer.EntryAnswer.{EntryAnswer}
use Rattle.make_rounds.proofs.entry_files.named_files.Goals as goal

pub loop-one-preserved : goal.loop-one-preserved
loop-one-preserved c =
    let h = λ (one : EntryAnswer). file_named one.answer in
    let answers = c.args.answers.now in
    let place = c.loop-one.one-index in
    let front = filter_map h (take place answers) in
    let found = c.file_named.result in
    let is : found ≡ h c.one-item.result = c.file_named.ensures in
    let more : filter_map h (take (place + 1) answers) ≡ front ++ option_to_list found =
    filter_map-next h answers place c.one-item.result c.loop-one-test.true
    ∙ ap (λ one. front ++ option_to_list (h one)) (sym c.one-item.is)
    ∙ ap (λ file. front ++ option_to_list file) (sym is) in
    c.in_ok-add_some.ensures ∙ ap (λ files. files ++ option_to_list found) c.loop-one.invariant ∙ sym more
