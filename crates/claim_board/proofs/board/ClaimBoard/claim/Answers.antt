use Rattle.std.proofs.Common.{rules, ◌<◌, ℕ, sym, ap, subst, ◌∙◌}
use Rattle.atomic_table.specs.Seated.{TableId}
use Rattle.claim_board.specs.Claims.{lists_of}
use Rattle.claim_board.specs.inner.Steps.{after_claim}
use Rattle.claim_board.proofs.Claiming.{may_claim}
use Rattle.claim_board.proofs.Telling.{IsSteady, finds, claim_new, known_as, names_owner, steady_claim, steady_seat}
use Rattle.claim_board.proofs.board.ClaimBoard.claim.Goals as goal

pub compare_exchange-found-requires : goal.compare_exchange-found-requires
compare_exchange-found-requires c =
    let inside : c.args.file.0 < c.args.self.now.table.shared.key.0 = subst (λ (n : ℕ). c.args.file.0 < n) (sym (ap (λ (k : ℕ × ℕ). k.0) c.args.self.now.keyed)) c.requires.file in
    (search rules, search rules, may_claim _ _ _ _ c.args.seat.now.number _ _ _ c.args.seat.now.alone c.claimed_by-mine.ensures inside)

pub invariant_of-seat : goal.invariant_of-seat
invariant_of-seat c =
    let seat = c.args.seat.now in
    let file : ℕ = c.args.file.0 in
    let step = c.compare_exchange-found in
    let f = finds after_claim c.args.self.now.table.shared.table_id.slots seat.number file 0 c.claimed_by-mine.result step.result _ _ seat.alone step.ensures.2 in
    let same = ap (λ (t : TableId). t.slots) step.ensures.0 in
    let board = ap (λ (t : TableId). t.slots) c.requires.board ∙ c.args.self.now.sized.1 in
    let below : file < seat.token.table_id.slots = subst (λ (n : ℕ). file < n) (sym board) c.requires.file in
    let now = after_claim step.result seat.number file (lists_of seat) in
    let s = steady_seat step.new.seat.table_id.slots seat.number now _ f.now_is
    (subst (λ (n : ℕ). IsSteady n now) (sym same) (steady_claim seat.token.table_id.slots step.result seat.number file (lists_of seat) below (seat.idle, seat.once, seat.inside))) in
    record { alone = s.0; idle = s.1.0; once = s.1.1; inside = s.1.2 }

pub owner_in-requires : goal.owner_in-requires
owner_in-requires c =
    let seat = c.args.seat.now in
    let step = c.compare_exchange-found in
    let f = finds after_claim c.args.self.now.table.shared.table_id.slots seat.number c.args.file.0 0 c.claimed_by-mine.result step.result _ _ seat.alone step.ensures.2 in
    names_owner after_claim seat.number c.args.file.0 step.result _ _ f c.if-found-eq0.false

pub returns-then-found-eq0-clause-claim : goal.returns-then-found-eq0-clause-claim
returns-then-found-eq0-clause-claim c =
    let seat = c.args.seat.now in
    let step = c.compare_exchange-found in
    let f = finds after_claim c.args.self.now.table.shared.table_id.slots seat.number c.args.file.0 0 c.claimed_by-mine.result step.result _ _ seat.alone step.ensures.2 in
    (search rules, claim_new seat.number c.args.file.0 step.result _ _ f c.if-found-eq0.true)

pub returns-else-found-eq0-clause-claim : goal.returns-else-found-eq0-clause-claim
returns-else-found-eq0-clause-claim c =
    let seat = c.args.seat.now in
    let step = c.compare_exchange-found in
    let f = finds after_claim c.args.self.now.table.shared.table_id.slots seat.number c.args.file.0 0 c.claimed_by-mine.result step.result _ _ seat.alone step.ensures.2 in
    known_as seat.number c.args.file.0 step.result _ _ _ c.owner_in.ensures f c.if-found-eq0.false
