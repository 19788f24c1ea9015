use Rattle.std.proofs.Common.{Some, sym, ap, ◌∙◌}
use Rattle.resolve_path.proofs.Finding.{answer_end, file_from, folder_from}
use Rattle.resolve_path.proofs.Firsts.{number_of}
use Rattle.resolve_path.proofs.Keeping.{keeps_all}
use Rattle.resolve_path.specs.Folders.{paths_as_file}
use Rattle.resolve_path.specs.Manifests.{manifests_of}
use Rattle.resolve_path.specs.Places.{first_number}
use Rattle.resolve_path.proofs.path.named_from.Goals as goal

pub returns-in-Some-2-clause-told : goal.returns-in-Some-2-clause-told
returns-in-Some-2-clause-told g c = λ tree told. record {
  keeps = keeps_all tree c.args.listing.now c.args.cache.now (g.R.TreeReader.view c.args.reader.now);
  is = λ of all reading is.
      file_from c.args.listing.now.files (manifests_of reading tree) c.args.config.now c.args.folder.now c.args.text.now c.get.result.now
      (ap Some c.get.ensures ∙ sym c.in-Some.is ∙ c.in_ok-path.ensures.is) c.in-Some-2.file (ap number_of (sym c.in-Some-2.is) ∙ c.in_ok-file.ensures);
}

pub returns-clause-told : goal.returns-clause-told
returns-clause-told g c = λ tree told.
    let found = c.as_folder.ensures.told tree told in
    record {
      keeps = found.keeps;
      is = λ of all reading is.
          answer_end c.as_folder.result _ _
          (folder_from c.args.listing.now.files (manifests_of reading tree) c.args.config.now c.args.folder.now c.args.text.now c.get-2.result.now
          (ap Some c.get-2.ensures ∙ sym c.in-Some.is ∙ c.in_ok-path.ensures.is)
          (ap number_of (sym c.in_default-2.is) ∙ c.in_ok-file.ensures ∙ ap (λ path. first_number c.args.listing.now.files (paths_as_file c.args.config.now c.args.text.now path)) (c.get.ensures ∙ sym c.get-2.ensures)))
          (found.is of all reading is);
    }
