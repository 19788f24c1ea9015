use Rattle.std.proofs.Common.{◌≡◌, ℕ, sym, ap, subst, length, ◌∙◌, arith}
use Rattle.split_plan.specs.Candidates.{Lists}
use Rattle.split_plan.specs.inner.Search.{IsFoundBelow}
use Rattle.split_plan.proofs.Found.{found_all, step}
use Rattle.split_plan.proofs.unnamed.unnamed_candidates.Goals as goal

pub returns : goal.returns
returns c =
    let p = c.args.plan.now in
    let s = c.args.state.now in
    let k = c.args.form.cache_group in
    let forced = c.args.form.forced in
    let e : c.loop-module.module ≡ length p.sizes = omega (arith, c.requires.search.len) in
    let P : ℕ → Type 0 = λ n. Lists (IsFoundBelow p s k forced n) c.loop-module.found.items in
    found_all p s k forced c.loop-module.found.items (ap (λ r. r.name) (sym c.requires.search.rule_is) ∙ c.requires.unnamed) (subst P e c.loop-module.invariant)

pub loop-module-preserved : goal.loop-module-preserved
loop-module-preserved c =
    step c.args.plan.now c.args.state.now c.args.form.cache_group c.args.form.forced c.loop-module.module c.loop-module.found.items _ c.in_ok-candidate.candidate
    c.loop-module.invariant c.in_ok-candidate.ensures c.in_ok-add_some.ensures

pub overflow_cast-module-end : goal.overflow_cast-module-end
overflow_cast-module-end c = omega (arith, c.requires.search.wide, c.requires.search.len)
