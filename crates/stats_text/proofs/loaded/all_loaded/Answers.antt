use Rattle.std.proofs.Common.{ℕ, ◌<◌, List, length, get_or, ap, ◌∙◌, arith}
use Rattle.std.proofs.Math.ListN.{set}
use Rattle.std.proofs.lemmas.List.FromFn.{length-map-range_with_len}
use Rattle.graph_types.specs.Edges.{blocks_of}
use Rattle.graph_types.specs.Modules.{module_no}
use Rattle.graph_types.specs.declared.block.Block.{Block}
use Rattle.stats_text.specs.inner.Loaded.{loaded_before}
use Rattle.stats_text.proofs.BlockGroups.{block-module, loaded-more}
use Rattle.stats_text.proofs.loaded.all_loaded.Goals as goal

abbrev no_block : Block
no_block = record { «module» = module_no 0; item = 0; target = module_no 0 }

pub index_mut-list-requires : goal.index_mut-list-requires
index_mut-list-requires c =
    let records = c.args.graph.now.records in
    let size = ap length c.loop-b.invariant ∙ length-map-range_with_len (loaded_before c.loop-b.b c.args.groups.now.of_block records) 0 (length records) in
    omega (arith, size, block-module records c.blocks-block-items.result.now c.loop-b.b no_block c.blocks-block-items.ensures c.loop-b-test.true, c.loop-b.lists.ok)

pub overflow_cast-b : goal.overflow_cast-b
overflow_cast-b c = omega (arith, c.requires.few, ap length c.blocks-block-items.ensures, c.loop-b-test.true)

pub loop-b-preserved : goal.loop-b-preserved
loop-b-preserved c =
    let records = c.args.graph.now.records in
    let of_block = c.args.groups.now.of_block in
    let b = c.loop-b.b in
    let lists = c.loop-b.lists.items in
    let list = c.index_mut-list.result.now in
    let place : List Block → ℕ = λ blocks. (get_or blocks b no_block).module.0 in
    let within : b < length (blocks_of records) = omega (arith, ap length c.blocks-block-items.ensures, c.loop-b-test.true) in
    loaded-more of_block records b no_block c.of_block.result lists _ list within (omega (arith, within, c.requires.blocks)) c.of_block.ensures c.loop-b.invariant
    (c.index_mut-list.ensures.value ∙ ap (λ blocks. get_or lists (place blocks) list) c.blocks-block-items.ensures)
    (ap (λ blocks. set lists (place blocks) c.push.new.self) c.blocks-block-items.ensures
    ∙ ap (λ new. set lists (place (blocks_of records)) new) c.in_ok-push.ensures.ok)
