use Rattle.std.proofs.Common.{Some, sym, ap, subst, ◌∙◌}
use Rattle.std.specs.Prelude.{IfSome}
use Rattle.path_text.specs.Path.{IsFolderPath}
use Rattle.resolve_path.proofs.Asking.{package_is}
use Rattle.resolve_path.proofs.Finding.{answer_end}
use Rattle.resolve_path.specs.Manifests.{manifests_of}
use Rattle.resolve_path.specs.Places.{answer_among}
use Rattle.resolve_path.specs.inner.Parts.{is_listed}
use Rattle.resolve_path.proofs.search.bare_from.Goals as goal

pub in_package-requires : goal.in_package-requires
in_package-requires g c = subst IsFolderPath (sym c.get-2.ensures) (subst (λ home. IfSome home IsFolderPath) c.in-Some-2.is c.in_ok-home.ensures.folder)

pub returns-clause-told : goal.returns-clause-told
returns-clause-told g c = λ tree told.
    let found = c.in_package.ensures.told tree told in
    record {
      keeps = found.keeps;
      is = λ of all reading is.
          answer_end c.in_package.result _ _
          (ap (answer_among c.args.listing.now.files)
          (package_is (manifests_of reading tree) (is_listed c.args.listing.now.folders) c.args.config.now c.args.kind c.args.base.now c.args.request.now
          c.in-Some.asked c.get-2.result.now c.get.result.now c.get-rest.result.now c.get.ensures c.get-rest.ensures
          (sym c.in-Some.is ∙ c.in_ok-asked.ensures) (ap Some c.get-2.ensures ∙ sym c.in-Some-2.is ∙ c.in_ok-home.ensures.is)))
          (found.is of all reading is);
    }
