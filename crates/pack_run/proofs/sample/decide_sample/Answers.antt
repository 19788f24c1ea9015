use Rattle.std.proofs.Common.{Err, ap, subst, ◌∙◌}
use Rattle.outside.specs.Tree.{Tree}
use Rattle.outside.specs.declared.outside_end.OutsideEnd.{OutsideEnd}
use Rattle.tree_sample.specs.Sample.{sample}
use Rattle.pack_run.specs.Sample.{sample_path}
use Rattle.pack_run.specs.Verdict.{IsTreeVerdict}
use Rattle.pack_run.specs.inner.Fresh.{AreFresh}
use Rattle.pack_run.proofs.Fresh.{never_fails, tell}
use Rattle.pack_run.proofs.sample.decide_sample.Goals as goal

pub returns-in-Ok-clause-verdict : goal.returns-in-Ok-clause-verdict
returns-in-Ok-clause-verdict g c =
    let tree = sample c.args.n in
    let readers = c.in_ok-readers.readers.items in
    let fresh = subst (λ (tree : Tree). AreFresh tree readers) c.in_ok-tree.ensures c.in_ok-readers.ensures.fresh in
    let made = (c.in-Ok.ensures.decides.told tree (tell tree readers fresh)).reads.3 in
    (made.0, (c.in_ok-config.config, c.in_ok-config.ensures, made.1))

pub unreachable-requires : goal.unreachable-requires
unreachable-requires g c =
    let tree = sample c.args.n in
    let readers = c.in_ok-readers.readers.items in
    let fresh = subst (λ (tree : Tree). AreFresh tree readers) c.in_ok-tree.ensures c.in_ok-readers.ensures.fresh in
    never_fails tree readers c.decide_tree.new.readers.items c.decide_tree.result (λ tree. IsTreeVerdict tree sample_path c.in_ok-config.config) fresh c.decide_tree.ensures.decides
    (c.in-Err-Failed.is ∙ ap (λ (end : OutsideEnd). Err end) c.in-Err-Failed.field-0-is)
