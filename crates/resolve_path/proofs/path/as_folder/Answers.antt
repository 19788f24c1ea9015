use Rattle.std.proofs.Common.{ap, ◌∙◌}
use Rattle.std.proofs.lemmas.Result.{err_from_is_err_and}
use Rattle.resolve_path.specs.Folders.{folder_places}
use Rattle.resolve_path.specs.Places.{answer_among}
use Rattle.resolve_path.proofs.path.as_folder.Goals as goal

pub returns-in_err-fetched-clause-told : goal.returns-in_err-fetched-clause-told
returns-in_err-fetched-clause-told g c = λ tree told.
    let p = err_from_is_err_and c.from_residual.result c.from_residual.ensures.1 in
    rw p.1 (record { keeps = (c.in_err-fetched.ensures.told tree told).keeps; is = λ of all reading is. tt })

pub returns-in_err-in_folder-clause-told : goal.returns-in_err-in_folder-clause-told
returns-in_err-in_folder-clause-told g c = λ tree told.
    let p = err_from_is_err_and c.from_residual-in_err-in_folder.result c.from_residual-in_err-in_folder.ensures.1 in
    rw p.1 (record { keeps = (c.in_ok-fetched.ensures.told tree told).keeps; is = λ of all reading is. tt })

pub returns-clause-told : goal.returns-clause-told
returns-clause-told g c = λ tree told.
    let fetched = c.in_ok-fetched.ensures.told tree told in
    record {
      keeps = fetched.keeps;
      is = λ of all reading is. c.in_ok-in_folder.ensures.is ∙ ap (λ held. answer_among c.args.listing.now.files (folder_places c.args.config.now c.args.folder.now held)) (c.get.ensures ∙ fetched.is of all reading is);
    }
