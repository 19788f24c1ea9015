use Rattle.std.proofs.Common.{◌≡◌, ◌+◌, ◌&&◌, subst, Bool, List, true, false, [], nat_le, length, sym, ap, ◌∙◌}
use Rattle.std.proofs.Math.ListN.{set}
use Rattle.std.proofs.lemmas.List.{get_or_read}
use Rattle.chunk_graph.specs.Chunks.{count}
use Rattle.split_plan.specs.Shares.{meets}
use Rattle.split_plan.specs.inner.Search.{AreNamedRows, shared_by}
use Rattle.split_plan.proofs.NamedRows.{named_skip, named_take}
use Rattle.split_plan.proofs.named.named_rows.Goals as goal

pub loop-module-preserved-then-not-is_shared : goal.loop-module-preserved-then-not-is_shared
loop-module-preserved-then-not-is_shared c =
    let rule = c.args.rule.now in
    let m = c.loop-module.module in
    let read = get_or_read c.args.shares.now m _ c.loop-module-test.true c.index-shares-module.is [] in
    let shared : shared_by rule c.args.shares.now m ≡ false = ap (λ row. meets rule m && nat_le rule.min_chunks (count row)) (sym read) ∙ sym c.if-not-is_shared.ensures in
    named_skip c.args.state.now rule c.args.shares.now m _ _ c.loop-module.invariant shared

pub loop-module-preserved : goal.loop-module-preserved
loop-module-preserved c =
    let rule = c.args.rule.now in
    let shares = c.args.shares.now in
    let m = c.loop-module.module in
    let read = get_or_read shares m _ c.loop-module-test.true c.index-shares-module.is [] in
    let shared : shared_by rule shares m ≡ true = ap (λ row. meets rule m && nat_le rule.min_chunks (count row)) (sym read) ∙ sym c.if-not-is_shared.ensures in
    let P : List Bool → Type 0 = λ modules. AreNamedRows c.args.state.now rule shares (m + 1) modules c.union_with.new.self in
    let Q : List Bool → Type 0 = λ chunks. AreNamedRows c.args.state.now rule shares (m + 1) (set c.loop-module.modules m true) chunks in
    subst P (sym c.set.ensures) (subst Q (sym c.union_with.ensures.row)
    (named_take c.args.state.now rule shares m _ _ c.index-shares-module.result c.loop-module.invariant shared c.loop-module-test.true read (ap length read ∙ c.requires.len m c.loop-module-test.true)))
