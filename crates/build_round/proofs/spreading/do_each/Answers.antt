use Rattle.build_round.specs.contracts.part.Part.{the_row}
use Rattle.std.proofs.Common.{◌≡◌, get_or, length, arith, subst}
use denote.Param.{param}
use denote.Param.Send.{arg_send, param_send, sendable}
use Rattle.std.proofs.Crossing.{crosses}
use Rattle.claim_board.proofs.board.ClaimBoard.TheSendSync.{the_sync as board_sync}
use Rattle.draw_board.proofs.board.DrawBoard.TheSendSync.{the_sync as draws_sync}
use Rattle.build_round.proofs.Sharing.{config_sync, part_send}
use Rattle.tree_listing.proofs.listing.Listing.TheSendSync.{the_sync as listing_sync}
use Rattle.build_round.specs.declared.part.Part.{Part}
use Rattle.build_round.specs.inner.Parts.{DoesPart}
use Rattle.build_round.proofs.Lists.{all_zip_at}
use Rattle.build_round.proofs.spreading.do_each.Goals as goal

pub for_each_mut-requires-send-T : goal.for_each_mut-requires-send-T
for_each_mut-requires-send-T g c κs within =
    param_send 1 _ (arg_send _ denote.Exit.no (the_row (param 0 g.row.R)) (part_send (param 0 g.row.R) c.type_bounds.send-R))

pub for_each_mut-requires-sync-F : goal.for_each_mut-requires-sync-F
for_each_mut-requires-sync-F g c κs within = search (sendable, crosses, board_sync, draws_sync, config_sync, listing_sync) depth 40

pub returns : goal.returns
returns g c =
    let Is = DoesPart g.R.TreeReader.view g.R.TreeReader.follows c.args.listing.now c.args.config.now c.args.frontier.now in
    let old = c.args.parts.now in
    let new = c.for_each_mut.new.s in
    let len : length new ≡ length old = omega (arith, c.for_each_mut.auto.s) in
    all_zip_at Is old new len (λ k d below.
    let at = (c.for_each_mut.ensures k d below).1 in
    subst (λ (one : Part g.row.R.Denot). Is one (get_or new k d)) at.argument_is (subst (λ (one : Part g.row.R.Denot). Is at.argument.now one) {y = get_or new k d} at.left at.call))
