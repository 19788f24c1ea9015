use Rattle.std.proofs.Common.{◌≡◌, length, get_or, ap, ◌∙◌, sym, arith}
use Rattle.std.proofs.lemmas.List.{get_or_read}
use Rattle.chunk_graph.specs.Chunks.{chunk_at}
use Rattle.split_plan.specs.Plan.{rule_at, no_rule}
use Rattle.split_plan.specs.Step.{reused_by, reused_of}
use Rattle.split_plan.proofs.Found.{chunks_len}
use Rattle.split_chunks.specs.Ends.{before_taking}
use Rattle.split_chunks.proofs.Takes.{before-width, before-len, made-within, made-there, reused-there, modules-len}
use Rattle.split_chunks.proofs.taking.take.Goals as goal

pub reused_of-reused-requires : goal.reused_of-reused-requires
reused_of-reused-requires c =
    let p = c.args.plan.now in
    let s = c.args.state.now in
    let x = c.args.x.now in
    chunks_len (rule_at p x.cache_group).name (rule_at p x.cache_group) x.cache_group x.forced s (length p.sizes) x.chunks c.requires.candidate.arises

pub give-requires-clause-modules : goal.give-requires-clause-modules
give-requires-clause-modules c =
    let s = c.args.state.now in
    modules-len c.args.plan.now s c.args.x.now c.requires.candidate c.requires.width ∙ sym (ap (λ t. t.width) c.in_ok-made.ensures.ok.1 ∙ before-width c.index-rules-x.result.name s c.reused_of-reused.result)

pub give-requires-clause-chunks : goal.give-requires-clause-chunks
give-requires-clause-chunks c =
    let p = c.args.plan.now in
    let s = c.args.state.now in
    let x = c.args.x.now in
    let len = chunks_len (rule_at p x.cache_group).name (rule_at p x.cache_group) x.cache_group x.forced s (length p.sizes) x.chunks c.requires.candidate.arises in
    omega (arith, len, ap (λ t. length t.chunks) c.in_ok-made.ensures.ok.1, before-len c.index-rules-x.result.name s c.reused_of-reused.result)

pub give-requires-clause-within : goal.give-requires-clause-within
give-requires-clause-within c =
    let p = c.args.plan.now in
    let s = c.args.state.now in
    let x = c.args.x.now in
    let r = c.index-rules-x.result in
    let rule = get_or_read p.rules x.cache_group r c.requires.candidate.known (c.index-rules-x.is ∙ ap (λ rules. get_or rules x.cache_group r) c.rules.ensures) no_rule in
    let same : c.reused_of-reused.result ≡ reused_of p s x = c.reused_of-reused.ensures ∙ ap (λ q. reused_by q.name q.reuse s x.chunks x.modules) rule in
    let made = made-within r.name s c.reused_of-reused.result (λ n e. (reused-there p s x n c.requires.candidate (sym same ∙ e)).0) in
    omega (arith, made, ap (λ m. m.0) c.in_ok-made.ensures.ok.0, ap (λ t. length t.chunks) c.in_ok-made.ensures.ok.1)

pub give-requires-clause-there : goal.give-requires-clause-there
give-requires-clause-there c =
    let p = c.args.plan.now in
    let s = c.args.state.now in
    let x = c.args.x.now in
    let r = c.index-rules-x.result in
    let rule = get_or_read p.rules x.cache_group r c.requires.candidate.known (c.index-rules-x.is ∙ ap (λ rules. get_or rules x.cache_group r) c.rules.ensures) no_rule in
    let same : c.reused_of-reused.result ≡ reused_of p s x = c.reused_of-reused.ensures ∙ ap (λ q. reused_by q.name q.reuse s x.chunks x.modules) rule in
    let made = made-there r.name s c.reused_of-reused.result (λ n e. (reused-there p s x n c.requires.candidate (sym same ∙ e)).1) in
    ap (λ t. (chunk_at t c.in_ok-made.made.0).gone) c.in_ok-made.ensures.ok.1 ∙ ap (λ m. (chunk_at (before_taking r.name s c.reused_of-reused.result) m.0).gone) c.in_ok-made.ensures.ok.0 ∙ made
