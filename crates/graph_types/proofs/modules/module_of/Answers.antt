use Rattle.std.proofs.Common.{ap, rules}
use Rattle.std.proofs.lemmas.Fn.{always_returns_same}
use Rattle.std.specs.Ordering.{nat_cmp}
use Rattle.std.specs.Prelude.{option_map}
use Rattle.graph_types.proofs.Search.{found, missed}
use Rattle.graph_types.specs.Modules.{module_no}
use Rattle.graph_types.proofs.modules.module_of.Goals as goal

pub returns-in-Ok : goal.returns-in-Ok
returns-in-Ok c =
    let at = c.in-Ok.ensures.position (λ rec. nat_cmp rec.file.0 c.args.file.0) (always_returns_same _ _ _ (λ a r f called. search rules)) in
    ap (option_map module_no) (found (λ rec. rec.file.0) c.args.records.now c.args.file.0 _ c.requires.modules.ascending c.in-Ok.ensures.bound at)

pub returns-in-Err : goal.returns-in-Err
returns-in-Err c =
    let at = c.in-Err.ensures.position (λ rec. nat_cmp rec.file.0 c.args.file.0) (always_returns_same _ _ _ (λ a r f called. search rules)) in
    ap (option_map module_no) (missed (λ rec. rec.file.0) c.args.records.now c.args.file.0 _ c.requires.modules.ascending at)
