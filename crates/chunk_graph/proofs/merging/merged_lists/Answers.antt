use Rattle.std.proofs.Common.{[], ap, ◌∙◌, sym}
use Rattle.std.proofs.lemmas.List.{get_or_read}
use Rattle.chunk_graph.specs.Chunks.{has}
use Rattle.chunk_graph.proofs.merging.merged_lists.Goals as goal

pub merged_list-requires-clause-within : goal.merged_list-requires-clause-within
merged_list-requires-clause-within c = λ i h.
    let k = c.loop-group.group-index in
    c.requires.within k i (sym (ap (has i) (c.as_slice.ensures ∙ get_or_read c.args.groups.now k _ c.loop-group-test.true c.group-item.is [])) ∙ h)
