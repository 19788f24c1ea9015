use Rattle.std.proofs.Common.{◌≤◌, ◌∙◌, sym, subst, refl, Ok, Err, ap}
use Rattle.std.proofs.lemmas.Result.{err_from_is_err_and}
use Rattle.outside.specs.declared.outside_end.OutsideEnd.{OutsideEnd}
use Rattle.pack_run.specs.Verdict.{IsEarly, IsTreeVerdict}
use Rattle.pack_run.specs.declared.decide.Meaning.TheVariants as Meaning
use Rattle.pack_run.specs.declared.verdict.Verdict.TheVariants.{Config as Bad}
use Rattle.pack_run.specs.inner.First.{Reads}
use Rattle.pack_run.specs.inner.Meanings.{MeansGot}
use Rattle.pack_run.proofs.Decisions.{after_text, at_rest, no_meaning, no_text}
use Rattle.pack_run.proofs.Meanings.{meant_config, meant_fault}
use Rattle.pack_run.proofs.Readers.{as_many}
use Rattle.pack_run.proofs.decide.decide.Goals as goal

pub returns-in_err-got-clause-decides : goal.returns-in_err-got-clause-decides
returns-in_err-got-clause-decides g c =
    let p = err_from_is_err_and c.from_residual.result c.from_residual.ensures.1 in
    no_text g.R.TreeReader.follows g.R.TreeReader.view c.readers_keep.ensures c.args.path.now c.args.readers.now.items c.read_first.new.readers.items
    c.in_err-got.field-0.0 c.from_residual.result (p.1 ∙ ap (λ (end : OutsideEnd). Err end) p.2) c.in_err-got.ensures

pub returns-in_err-config-clause-decides : goal.returns-in_err-config-clause-decides
returns-in_err-config-clause-decides g c =
    let p = err_from_is_err_and c.from_residual-in_err-config.result c.from_residual-in_err-config.ensures.1 in
    no_meaning g.R.TreeReader.follows g.R.TreeReader.view c.readers_keep.ensures c.args.path.now c.args.readers.now.items c.read_first.new.readers.items
    c.in_ok-got.got c.from_residual-in_err-config.result (p.1 ∙ ap (λ (end : OutsideEnd). Err end) p.2) c.in_ok-got.ensures

pub decide_tree-requires-clause-readers : goal.decide_tree-requires-clause-readers
decide_tree-requires-clause-readers g c κs within =
    subst (λ count. c.args.workers ≤ count) (sym (as_many (Reads g.R.TreeReader.follows g.R.TreeReader.view c.args.path.now (Ok c.in_ok-got.got)) c.args.readers.now.items c.read_first.new.readers.items c.in_ok-got.ensures)) c.requires.readers

pub returns-in-Config-clause-decides : goal.returns-in-Config-clause-decides
returns-in-Config-clause-decides g c =
    let path = c.args.path.now in
    let means : MeansGot path c.in_ok-got.got (Meaning.Config c.in-Config.config) = subst (MeansGot path c.in_ok-got.got) c.in-Config.is c.in_ok-config.ensures in
    after_text g.R.TreeReader.follows g.R.TreeReader.view c.readers_keep.ensures path c.args.readers.now.items c.read_first.new.readers.items
    c.in_ok-got.got c.decide_tree.new.readers.items c.decide_tree.result (λ tree. IsTreeVerdict tree path c.in-Config.config)
    (λ tree text is. meant_config tree path text c.in_ok-got.got c.in-Config.config means is) c.in_ok-got.ensures c.decide_tree.ensures.decides

pub returns-clause-decides : goal.returns-clause-decides
returns-clause-decides g c =
    let path = c.args.path.now in
    let place = c.in-Fault.place in
    let kind = c.in-Fault.kind in
    let means : MeansGot path c.in_ok-got.got (Meaning.Fault place kind) = subst (MeansGot path c.in_ok-got.got) c.in-Fault.is c.in_ok-config.ensures in
    let mids = c.read_first.new.readers.items in
    after_text g.R.TreeReader.follows g.R.TreeReader.view c.readers_keep.ensures path c.args.readers.now.items mids
    c.in_ok-got.got mids (Ok (Bad place kind)) (λ tree. IsEarly (Bad place kind))
    (λ tree text is. meant_fault tree path text c.in_ok-got.got place kind means is) c.in_ok-got.ensures
    (at_rest g.R.TreeReader.follows g.R.TreeReader.view c.readers_keep.ensures mids (λ tree. IsEarly (Bad place kind)) (Bad place kind) (λ tree. record { verdict_is = refl; paths_are = refl }))
