use Rattle.std.proofs.Common.{◌≤◌, List, ap, length, subst, ◌∙◌, arith}
use Rattle.std.specs.Prelude.{filter}
use Rattle.std.proofs.lemmas.List.{take_all}
use Rattle.std.proofs.lemmas.List.FromFn.{length-enumerate_from}
use Rattle.graph_types.specs.declared.block.Block.{Block}
use Rattle.graph_types.specs.Edges.{blocks_of}
use Rattle.chunk_groups.specs.ChunkGroups.{has_no_name, numbered_blocks}
use Rattle.chunk_groups.specs.Grouped.{no_block}
use Rattle.chunk_groups.proofs.Counted.{counted-more, one-at-most}
use Rattle.chunk_groups.proofs.Standing.{stands-at}
use Rattle.chunk_groups.proofs.grouping.unnamed_count.Goals as goal

pub has_no_name-requires : goal.has_no_name-requires
has_no_name-requires c = stands-at c.args.graph.now.records c.blocks-block-items.result.now c.loop-block.block-index _ c.blocks-block-items.ensures c.loop-block-test.true

pub overflow_add-count : goal.overflow_add-count
overflow_add-count c = omega (arith, one-at-most c.has_no_name.result, c.from-count.ensures, c.loop-block.invariant.few, c.loop-block-test.true, c.blocks-block-items.type_inv.0)

pub loop-block-preserved : goal.loop-block-preserved
loop-block-preserved c = record {
  counted = counted-more c.args.graph.now.records c.blocks-block-items.result.now c.loop-block.block-index no_block c.loop-block.count c.from-count.result c.has_no_name.result c.blocks-block-items.ensures c.loop-block-test.true
      c.loop-block.invariant.counted c.has_no_name.ensures c.from-count.ensures;
  few = omega (arith, one-at-most c.has_no_name.result, c.from-count.ensures, c.loop-block.invariant.few);
}

pub returns : goal.returns
returns c =
    let records = c.args.graph.now.records in
    let past : length (blocks_of records) ≤ c.loop-block.block-index = subst (λ (l : List Block). length l ≤ c.loop-block.block-index) c.blocks-block-items.ensures c.loop-block-test.false in
    c.loop-block.invariant.counted ∙ ap (λ l. length (filter (has_no_name records) l)) (take_all c.loop-block.block-index (numbered_blocks records) (omega (arith, length-enumerate_from 0 (blocks_of records))))
