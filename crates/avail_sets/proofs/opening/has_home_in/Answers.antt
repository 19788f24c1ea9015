use Rattle.std.proofs.Common.{◌≡◌, List, false, get_or, sym, subst, ◌∙◌, below_more, arith}
use Rattle.std.proofs.lemmas.Bool.{false≢true}
use Rattle.graph_types.specs.declared.block.Block.{Block}
use Rattle.chunk_groups.specs.Grouped.{home_of}
use Rattle.chunk_groups.specs.Rows.{bit}
use Rattle.avail_sets.proofs.Homes.{home-within, home-found, home-none}
use Rattle.avail_sets.proofs.opening.has_home_in.Goals as goal

pub get-requires : goal.get-requires
get-requires c =
    omega (arith, home-within c.args.graph.now c.args.info.now c.blocks-blocks.result.now c.as_slice-b-items.result.now c.blocks-blocks.ensures c.as_slice-b-items.ensures c.loop-b.b-index c.requires.over c.loop-b-test.true, c.requires.len)

pub returns-then-get : goal.returns-then-get
returns-then-get c =
    let found = home-found c.args.graph.now c.args.info.now c.blocks-blocks.result.now c.as_slice-b-items.result.now c.blocks-blocks.ensures c.as_slice-b-items.ensures c.loop-b.b-index c.args.modules.now c.loop-b-test.true (sym c.get.ensures ∙ c.if-get.true) in
    (λ yes. found, λ is. sym c.if-get.true ∙ c.if-get.true)

pub loop-b-preserved : goal.loop-b-preserved
loop-b-preserved c =
    let not = subst (λ (bs : List Block). bit c.args.modules.now (home_of bs (get_or c.as_slice-b-items.result.now c.loop-b.b-index 0)) ≡ false) c.blocks-blocks.ensures (sym c.get.ensures ∙ c.if-get.false) in
    below_more _ _ c.loop-b.invariant not

pub returns : goal.returns
returns c = (
  λ no. absurd (false≢true no),
  λ is. absurd (home-none c.args.graph.now c.args.info.now c.blocks-blocks.result.now c.as_slice-b-items.result.now c.blocks-blocks.ensures c.as_slice-b-items.ensures c.args.modules.now (λ k l. c.loop-b.invariant k (omega arith)) is),
)
