use Rattle.std.proofs.Common.{rules, ◌<◌, ℕ, List, ◌∷◌, sym, ap, subst, refl, ◌∙◌}
use Rattle.std.specs.Prelude.{Option, Some, None}
use Rattle.graph_types.specs.declared.record.ModRecord.{ModRecord}
use Rattle.atomic_table.specs.Table.{rest}
use Rattle.claim_board.specs.inner.Steps.{take_out}
use Rattle.claim_board.specs.Lists.{lists_in}
use Rattle.claim_board.proofs.Publishing.{may_take, may_give}
use Rattle.claim_board.proofs.Telling.{took, gave}
use Rattle.claim_board.proofs.Gathering.{Token}
use Rattle.claim_board.proofs.board.ClaimBoard.put.Goals as goal

pub load-requires : goal.load-requires
load-requires c =
    let inside : c.args.rec.file.0 < c.args.self.now.table.shared.key.0 = subst (λ (n : ℕ). c.args.rec.file.0 < n) (sym (ap (λ (k : ℕ × ℕ). k.0) c.args.self.now.keyed)) c.requires.file in
    (search rules, search rules, may_take _ _ _ _ c.args.number _ _ _ c.requires.alone.0 c.requires.alone.1 c.requires.won c.requires.once inside)

pub exchange-requires : goal.exchange-requires
exchange-requires c =
    let out = took c.args.self.now.table.shared.table_id.slots c.args.number c.args.rec.file.0 (lists_in c.args.token.now.me.0) _ _ c.requires.alone.0 c.load.ensures.2 in
    (search rules, (None, ap (λ (m : Token). m.1) out ∙ ap (λ (l : List (ℕ × Option ModRecord)). (c.args.rec.file.0, None) ∷ l) (sym (ap (λ (m : Token). rest m.1) out))))

pub store-requires : goal.store-requires
store-requires c =
    let inside : c.args.rec.file.0 < c.args.self.now.table.shared.key.0 = subst (λ (n : ℕ). c.args.rec.file.0 < n) (sym (ap (λ (k : ℕ × ℕ). k.0) c.args.self.now.keyed)) c.requires.file in
    let file : ℕ = c.args.rec.file.0 in
    let out = took c.args.self.now.table.shared.table_id.slots c.args.number file (lists_in c.args.token.now.me.0) _ _ c.requires.alone.0 c.load.ensures.2 in
    let full = c.exchange.ensures.3 ∙ ap (λ (m : Token). (m.0, (file, Some c.args.rec) ∷ rest m.1)) out in
    (search rules, search rules, may_give _ _ _ _ c.args.number file _ (take_out file (lists_in c.args.token.now.me.0)) c.args.rec _ full c.published_by.ensures refl c.requires.once inside)

pub returns-clause-lists : goal.returns-clause-lists
returns-clause-lists c =
    let file : ℕ = c.args.rec.file.0 in
    let out = took c.args.self.now.table.shared.table_id.slots c.args.number file (lists_in c.args.token.now.me.0) _ _ c.requires.alone.0 c.load.ensures.2 in
    let full = c.exchange.ensures.3 ∙ ap (λ (m : Token). (m.0, (file, Some c.args.rec) ∷ rest m.1)) out in
    gave c.args.number file c.args.rec (lists_in c.args.token.now.me.0) _ _ full c.store.ensures.2
