use Rattle.std.proofs.Common.{◌≡◌, ◌+◌, ◌++◌, take, sym, ap, ◌∙◌}
use Rattle.std.specs.Prelude.{filter_map, option_to_list}
use Rattle.graph_types.proofs.Numbering.{filter_map-next}
use Rattle.graph_types.specs.Modules.{module_of, file_id}
use Rattle.graph_types.proofs.modules.roots.Goals as goal

pub loop-file-preserved : goal.loop-file-preserved
loop-file-preserved c =
    let h = module_of c.args.records.now in
    let files = c.args.entry.now in
    let place = c.loop-file.file-index in
    let front = filter_map h (take place files) in
    let more : filter_map h (take (place + 1) files) ≡ front ++ option_to_list c.module_of.result =
    filter_map-next h files place (file_id 0) c.loop-file-test.true
    ∙ ap (λ found. front ++ option_to_list found) (sym c.module_of.ensures) in
    c.in_ok-add_some.ensures ∙ ap (λ modules. modules ++ option_to_list c.module_of.result) c.loop-file.invariant ∙ sym more
