use Rattle.std.proofs.Common.{rules, inl}
use Rattle.std.specs.Prelude.{Contains}
use Rattle.make_core.specs.Core.{entries_of}
use Rattle.make_core.proofs.Members.{list_any-Contains}
use Rattle.make_core.proofs.state.CoreState.may_claim.Goals as goal

pub returns-then-is_entry : goal.returns-then-is_entry
returns-then-is_entry c =
    let entry : Contains (entries_of c.args.plan.now) c.args.file.0 = (list_any-Contains _ _ _ c.is_entry.ensures).0 c.if-is_entry.true in
    (λ _. record { worker_is = search rules; free = search rules; named = inl entry }, λ _. c.if-is_entry.true)
