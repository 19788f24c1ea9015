use Rattle.std.proofs.Common.{sym, ap, subst, ◌∙◌}
use Rattle.std.proofs.lemmas.Result.{err_from_is_err_and}
use Rattle.resolve_path.proofs.Finding.{answer_end}
use Rattle.resolve_path.proofs.Keeping.{keeps_on}
use Rattle.resolve_path.specs.Manifests.{manifests_of}
use Rattle.resolve_path.specs.Places.{answer_among}
use Rattle.resolve_path.specs.inner.Parts.{Decides}
use Rattle.resolve_path.proofs.package.in_package.Goals as goal

pub returns-in_err-fetched-clause-told : goal.returns-in_err-fetched-clause-told
returns-in_err-fetched-clause-told g c = λ tree told.
    let p = err_from_is_err_and c.from_residual.result c.from_residual.ensures.1 in
    rw p.1 (record { keeps = (c.in_err-fetched.ensures.told tree told).keeps; is = λ of all reading is. tt })

pub returns-in_err-decided-clause-told : goal.returns-in_err-decided-clause-told
returns-in_err-decided-clause-told g c = λ tree told.
    let p = err_from_is_err_and c.from_residual-in_err-decided.result c.from_residual-in_err-decided.ensures.1 in
    rw p.1 (record { keeps = (c.in_ok-fetched.ensures.told tree told).keeps; is = λ of all reading is. tt })

pub returns-in-Some-clause-told : goal.returns-in-Some-clause-told
returns-in-Some-clause-told g c = λ tree told.
    let fetched = c.in_ok-fetched.ensures.told tree told in
    record {
      keeps = fetched.keeps;
      is = λ of all reading is.
          subst (Decides c.args.listing.now.files (manifests_of reading tree) c.args.config.now c.args.kind c.args.folder.now c.args.rest.now) c.in-Some.is
          (c.in_ok-decided.ensures.is (manifests_of reading tree) (sym (c.get-manifest.ensures ∙ fetched.is of all reading is)));
    }

pub returns-clause-told : goal.returns-clause-told
returns-clause-told g c = λ tree told.
    let fetched = c.in_ok-fetched.ensures.told tree told in
    let told_now = (g.met.R.TreeReader.keeps c.args.reader.now c.fetch.new.reader c.in_ok-fetched.ensures.follows).tree ∙ told in
    let found = c.named_from.ensures.told tree told_now in
    record {
      keeps = keeps_on tree c.args.listing.now c.args.cache.now c.fetch.new.cache c.named_from.new.cache _ _ _ fetched.keeps found.keeps;
      is = λ of all reading is.
          answer_end c.named_from.result _ _
          (ap (answer_among c.args.listing.now.files) (sym (subst (Decides c.args.listing.now.files (manifests_of reading tree) c.args.config.now c.args.kind c.args.folder.now c.args.rest.now) c.in-None.is
          (c.in_ok-decided.ensures.is (manifests_of reading tree) (sym (c.get-manifest.ensures ∙ fetched.is of all reading is))))))
          (found.is of (fetched.keeps.cache all) reading is);
    }
