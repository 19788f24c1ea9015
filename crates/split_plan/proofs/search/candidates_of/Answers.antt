use Rattle.std.proofs.Common.{◌≡◌, ◌+◌, ℕ, List, length, ap, sym, subst, arith}
use Rattle.split_plan.specs.declared.candidate.Candidate.{Candidate}
use Rattle.split_plan.specs.Candidates.{Lists}
use Rattle.split_plan.specs.inner.Search.{IsOfGroupBelow}
use Rattle.split_plan.proofs.Found.{with_limited, with_forced, all_groups, IsBeforeForced}
use Rattle.split_plan.proofs.search.candidates_of.Goals as goal

pub loop-cache_group-preserved : goal.loop-cache_group-preserved
loop-cache_group-preserved c =
    let p = c.args.plan.now in
    let s = c.args.state.now in
    let k = c.loop-cache_group.cache_group in
    let P : List Candidate → Type 0 = λ xs. Lists (IsBeforeForced p s k) xs in
    let Q : List Candidate → Type 0 = λ xs. Lists (IsOfGroupBelow p s (k + 1)) xs in
    let first = subst P (sym c.in_ok-append.ensures.items) (with_limited p s k _ _ c.loop-cache_group.invariant.found c.in_ok-more.ensures.found) in
    record {
      found = subst Q (sym c.in_ok-append-2.ensures.items) (with_forced p s k _ _ first c.in_ok-more-2.ensures.found);
      rows = c.in_ok-more-2.ensures.rows;
    }

pub returns : goal.returns
returns c =
    let p = c.args.plan.now in
    let s = c.args.state.now in
    let e : c.loop-cache_group.cache_group ≡ length p.rules = omega (arith, ap length c.rules.ensures) in
    let P : ℕ → Type 0 = λ n. Lists (IsOfGroupBelow p s n) c.loop-cache_group.found.items in
    all_groups p s c.loop-cache_group.found.items (subst P e c.loop-cache_group.invariant.found)
