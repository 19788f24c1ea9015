-- Edits that put back what was written.
use Rattle.std.proofs.Common.{◌≡◌, ℕ, ◌++◌, List, [], ◌∷◌, drop, length, sym, ap, ◌∙◌, refl}
use Rattle.std.proofs.lemmas.List.Folds.{drop_split}
use Rattle.std.specs.List.{slice_range}
use Rattle.graph_types.specs.declared.edit.Edit.{Edit}
use Rattle.graph_types.specs.Whole.{LieInOrder}
use Rattle.module_code.specs.Body.{with_edits}

pub put_back-drop : (text : List ℕ) (from : ℕ) (edits : List Edit) → LieInOrder from (length text) edits → with_edits (λ written put. written) text from edits ≡ drop from text
put_back-drop text from [] order = refl
put_back-drop text from (edit ∷ edits) order =
    let start = edit.span.start in
    let end = edit.span.end in
    ap (λ rest. slice_range text from start ++ (slice_range text start end ++ rest)) (put_back-drop text end edits order.3)
    ∙ ap (λ rest. slice_range text from start ++ rest) (sym (drop_split text start end order.1))
    ∙ sym (drop_split text from start order.0)
