use Rattle.std.proofs.Common.{rules, ◌<◌, ℕ, sym, ap, subst, ◌∙◌}
use Rattle.atomic_table.specs.Seated.{TableId}
use Rattle.claim_board.specs.Claims.{lists_of}
use Rattle.claim_board.specs.inner.Steps.{after_look}
use Rattle.claim_board.proofs.Claiming.{may_look}
use Rattle.claim_board.proofs.Telling.{IsSteady, finds, look_free, claimed_as, published_as, names_owner, steady_look, steady_seat}
use Rattle.claim_board.proofs.board.ClaimBoard.look.Goals as goal

pub load-found-requires : goal.load-found-requires
load-found-requires c =
    let inside : c.args.file.0 < c.args.self.now.table.shared.key.0 = subst (λ (n : ℕ). c.args.file.0 < n) (sym (ap (λ (k : ℕ × ℕ). k.0) c.args.self.now.keyed)) c.requires.file in
    (search rules, search rules, may_look _ _ _ _ c.args.seat.now.number _ _ c.args.seat.now.alone inside)

pub invariant_of-seat : goal.invariant_of-seat
invariant_of-seat c =
    let seat = c.args.seat.now in
    let file : ℕ = c.args.file.0 in
    let step = c.load-found in
    let f = finds after_look c.args.self.now.table.shared.table_id.slots seat.number file 0 0 step.result _ _ seat.alone step.ensures.2 in
    let same = ap (λ (t : TableId). t.slots) step.ensures.0 in
    let board = ap (λ (t : TableId). t.slots) c.requires.board ∙ c.args.self.now.sized.1 in
    let below : file < seat.token.table_id.slots = subst (λ (n : ℕ). file < n) (sym board) c.requires.file in
    let now = after_look step.result seat.number file (lists_of seat) in
    let s = steady_seat step.new.seat.table_id.slots seat.number now _ f.now_is
    (subst (λ (n : ℕ). IsSteady n now) (sym same) (steady_look seat.token.table_id.slots step.result seat.number file (lists_of seat) below (seat.idle, seat.once, seat.inside))) in
    record { alone = s.0; idle = s.1.0; once = s.1.1; inside = s.1.2 }

pub owner_in-requires : goal.owner_in-requires
owner_in-requires c =
    let seat = c.args.seat.now in
    let step = c.load-found in
    let f = finds after_look c.args.self.now.table.shared.table_id.slots seat.number c.args.file.0 0 0 step.result _ _ seat.alone step.ensures.2 in
    names_owner after_look seat.number c.args.file.0 step.result _ _ f c.if-found-eq0.false

pub owner_in-requires-else-found-eq0-2 : goal.owner_in-requires-else-found-eq0-2
owner_in-requires-else-found-eq0-2 c =
    let seat = c.args.seat.now in
    let step = c.load-found in
    let f = finds after_look c.args.self.now.table.shared.table_id.slots seat.number c.args.file.0 0 0 step.result _ _ seat.alone step.ensures.2 in
    names_owner after_look seat.number c.args.file.0 step.result _ _ f c.if-found-eq0.false

pub returns-then-found-eq0-clause-look : goal.returns-then-found-eq0-clause-look
returns-then-found-eq0-clause-look c =
    let seat = c.args.seat.now in
    let step = c.load-found in
    let f = finds after_look c.args.self.now.table.shared.table_id.slots seat.number c.args.file.0 0 0 step.result _ _ seat.alone step.ensures.2 in
    look_free seat.number c.args.file.0 step.result _ _ f c.if-found-eq0.true

pub returns-then-found-eq0-2-clause-look : goal.returns-then-found-eq0-2-clause-look
returns-then-found-eq0-2-clause-look c =
    let seat = c.args.seat.now in
    let step = c.load-found in
    let f = finds after_look c.args.self.now.table.shared.table_id.slots seat.number c.args.file.0 0 0 step.result _ _ seat.alone step.ensures.2 in
    claimed_as seat.number c.args.file.0 step.result _ _ _ c.owner_in.ensures f c.if-found-eq0.false c.if-found-eq0-2.true

pub returns-else-found-eq0-2-clause-look : goal.returns-else-found-eq0-2-clause-look
returns-else-found-eq0-2-clause-look c =
    let seat = c.args.seat.now in
    let step = c.load-found in
    let f = finds after_look c.args.self.now.table.shared.table_id.slots seat.number c.args.file.0 0 0 step.result _ _ seat.alone step.ensures.2 in
    published_as seat.number c.args.file.0 step.result _ _ _ c.owner_in-else-found-eq0-2.ensures f c.if-found-eq0.false c.if-found-eq0-2.false
