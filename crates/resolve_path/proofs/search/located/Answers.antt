use Rattle.std.proofs.Common.{sym, ap}
use Rattle.resolve_path.proofs.Asking.{bare_is, relative_is}
use Rattle.resolve_path.proofs.Finding.{answer_end}
use Rattle.resolve_path.specs.Manifests.{manifests_of}
use Rattle.resolve_path.specs.Places.{answer_among}
use Rattle.resolve_path.specs.inner.Parts.{is_listed}
use Rattle.resolve_path.proofs.search.located.Goals as goal

pub returns-then-is_relative-clause-told : goal.returns-then-is_relative-clause-told
returns-then-is_relative-clause-told g c = λ tree told.
    let found = c.named_from.ensures.told tree told in
    record {
      keeps = found.keeps;
      is = λ of all reading is.
          answer_end c.named_from.result _ _
          (ap (answer_among c.args.listing.now.files) (relative_is (manifests_of reading tree) (is_listed c.args.listing.now.folders) c.args.config.now c.args.kind c.args.base.now c.args.request.now (sym c.if-is_relative.ensures)))
          (found.is of all reading is);
    }

pub returns-clause-told : goal.returns-clause-told
returns-clause-told g c = λ tree told.
    let found = c.bare_from.ensures.told tree told in
    record {
      keeps = found.keeps;
      is = λ of all reading is.
          answer_end c.bare_from.result _ _
          (ap (answer_among c.args.listing.now.files) (bare_is (manifests_of reading tree) (is_listed c.args.listing.now.folders) c.args.config.now c.args.kind c.args.base.now c.args.request.now (sym c.if-is_relative.ensures)))
          (found.is of all reading is);
    }
