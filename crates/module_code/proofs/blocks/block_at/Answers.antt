use Rattle.std.proofs.Common.{◌≡◌, ap, ◌∙◌, rules, arith}
use Rattle.std.proofs.lemmas.Fn.{always_returns_same}
use Rattle.std.specs.Ordering.{nat_cmp}
use Rattle.graph_types.specs.Edges.{blocks_of}
use Rattle.module_code.proofs.BlockOrder.{key, found_block, missed_block}
use Rattle.module_code.specs.inner.Places.{place_of}
use Rattle.module_code.specs.View.{Sealing}
use Rattle.module_code.proofs.blocks.block_at.Goals as goal

pub returns-in-Ok : goal.returns-in-Ok
returns-in-Ok c =
    let records = c.args.view.now.graph.records in
    let is : c.blocks-2.result.now ≡ blocks_of records = c.blocks-2.ensures ∙ ap (λ (view : Sealing). blocks_of view.graph.records) c.view.view_is in
    let at = c.in-Ok.ensures.position (λ block. nat_cmp (key block) (place_of c.args.m.0 c.args.item)) (always_returns_same _ _ _ (λ a r f called. search rules)) in
    let block = found_block records c.requires.whole c.blocks-2.result.now is c.args.m.0 c.args.item c.in-Ok.block (omega arith) c.in-Ok.ensures.bound at in
    record { value = block.0; within = block.1 }

pub returns-in-Err : goal.returns-in-Err
returns-in-Err c =
    let records = c.args.view.now.graph.records in
    let is : c.blocks-2.result.now ≡ blocks_of records = c.blocks-2.ensures ∙ ap (λ (view : Sealing). blocks_of view.graph.records) c.view.view_is in
    let at = c.in-Err.ensures.position (λ block. nat_cmp (key block) (place_of c.args.m.0 c.args.item)) (always_returns_same _ _ _ (λ a r f called. search rules)) in
    record { value = missed_block records c.requires.whole c.blocks-2.result.now is c.args.m.0 c.args.item c.in-Err.field-0 (omega arith) at; within = tt }
