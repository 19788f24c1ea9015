use Rattle.std.proofs.Common.{◌≡◌, ◌+◌, [], ◌∷◌, ◌++◌, append-nil, append_assoc, get_or, take, sym, ap, ◌∙◌}
use Rattle.std.proofs.lemmas.Grind.{flat_map-append}
use Rattle.std.proofs.lemmas.List.{take_more}
use Rattle.std.specs.Prelude.{flat_map}
use Rattle.graph_types.specs.Modules.{module_no}
use Rattle.chunk_code.specs.Texts.{start_text}
use Rattle.chunk_code.proofs.startup.add_starts.Goals as goal

pub loop-root-preserved : goal.loop-root-preserved
loop-root-preserved c =
    let roots = c.args.roots.now in
    let place = c.loop-root.root-index in
    let start = start_text c.args.view.now in
    let root = get_or roots place (module_no 0) in
    let front = flat_map start (take place roots) in
    let more : flat_map start (take (place + 1) roots) ≡ front ++ start root =
    ap (flat_map start) (take_more roots place (module_no 0) c.loop-root-test.true)
    ∙ flat_map-append start (take place roots) (root ∷ [])
    ∙ ap (λ last. front ++ last) (append-nil (start root)) in
    c.in_ok-add_start.ensures ∙ ap (λ text. text ++ start root) c.loop-root.invariant
    ∙ append_assoc c.args.text.now.items front (start root) ∙ ap (λ rest. c.args.text.now.items ++ rest) (sym more)
