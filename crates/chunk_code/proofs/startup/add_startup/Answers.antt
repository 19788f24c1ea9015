use Rattle.std.proofs.Common.{◌++◌, codes, ap, ◌∙◌}
use Rattle.std.specs.Prelude.{flat_map}
use Rattle.module_code.specs.Ids.{ids_text}
use Rattle.chunk_code.proofs.Parts.{added}
use Rattle.chunk_code.specs.Texts.{awaited, group_roots, start_text}
use Rattle.chunk_code.proofs.startup.add_startup.Goals as goal

pub returns : goal.returns
returns c =
    let view = c.args.view.now in
    let old = c.args.text.now.items in
    let first = codes "self.__chunkpack.e([" in
    let ids = ids_text (awaited view c.args.g.0) in
    let middle = codes "]).then(function(){\n" in
    let starts = flat_map (start_text view) (group_roots view c.args.g.0) in
    let with_ids = c.in_ok-add_ids.ensures ∙ ap (λ list. c.add.new.text.items ++ ids_text list) (c.deref.ensures.value ∙ c.in_ok-ids.ensures) in
    let with_starts = c.in_ok-add_starts.ensures ∙ ap (λ list. c.add-2.new.text.items ++ flat_map (start_text view) list) c.roots.ensures in
    added old (first ++ ids ++ middle ++ starts) (codes "});\n") _ _
    (added old (first ++ ids ++ middle) starts _ _
    (added old (first ++ ids) middle _ _
    (added old first ids _ _ c.in_ok-add.ensures with_ids) c.in_ok-add-2.ensures) with_starts) c.in_ok-add-3.ensures
