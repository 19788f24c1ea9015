use Rattle.std.proofs.Common.{◌≡◌, ℕ, ◌+◌, [], ◌∷◌, ◌++◌, List, filter_map, take, refl, sym, ap, subst, ◌∙◌}
use Rattle.std.proofs.lemmas.List.{take_more}
use Rattle.std.proofs.lemmas.List.Elements.{filter_map-append}
use Rattle.claim_board.specs.Claims.{board_files}
use Rattle.graph_types.specs.Targets.{item_target}
use Rattle.graph_types.specs.declared.item.Item.{Item}
use Rattle.build_round.specs.inner.Parts.{Keeps}
use Rattle.build_round.proofs.Kept.{keeps_more, keeps_none}
use Rattle.build_round.proofs.Seats.{adds_more, stays}
use Rattle.build_round.proofs.keeping.keep_free.Goals as goal

pub loop-item-init : goal.loop-item-init
loop-item-init c = record {
  adds = stays c.args.seat.now c.args.seat.now (refl, refl) refl;
  keeps = keeps_none (board_files c.args.board.now) c.args.seat.now c.args.kept.now.items;
}

pub loop-item-preserved : goal.loop-item-preserved
loop-item-preserved c =
    let before = c.loop-item.invariant in
    let count = board_files c.args.board.now in
    let items = c.args.items.now in
    let place = c.loop-item.item-index in
    let item = c.item-item.result in
    let adds = c.keep_target.ensures.seat in
    let front : take (place + 1) items ≡ take place items ++ item ∷ [] = take_more items place item c.loop-item-test.true ∙ ap (λ (one : Item). take place items ++ one ∷ []) (sym c.item-item.is) in
    let named = ap (filter_map item_target) front ∙ filter_map-append item_target (take place items) (item ∷ []) in
    record {
      adds = adds_more c.args.seat.now c.loop-item.seat c.keep_target.new.seat [] [] [] [] before.adds adds;
      keeps = subst (λ (files : List ℕ). Keeps count c.keep_target.new.seat files c.args.kept.now.items c.keep_target.new.kept.items) (sym named)
          (keeps_more count c.loop-item.seat c.keep_target.new.seat [] [] adds (filter_map item_target (take place items)) (filter_map item_target (item ∷ [])) c.args.kept.now.items c.loop-item.kept.items c.keep_target.new.kept.items before.keeps c.in_ok-keep_target.ensures.kept);
    }
