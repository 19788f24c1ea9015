use Rattle.std.proofs.Common.{◌<◌, length, map, sym, ap, subst, ◌∙◌}
use Rattle.std.specs.List.{AllByRecursion}
use Rattle.std.specs.Prelude.{flat_map}
use Rattle.pack_util.specs.declared.number.FileId.{FileId}
use Rattle.make_rounds.specs.Entries.{root_naming}
use Rattle.make_rounds.specs.inner.Answered.{answer_faults, named_files, numbers_of}
use Rattle.make_rounds.proofs.Answers.{all_within, faults_are, files_are}
use Rattle.make_rounds.proofs.entry_files.find_entries.Goals as goal

pub returns-clause-within : goal.returns-clause-within
returns-clause-within g c =
    let count = length c.args.listing.now.files in
    let files = c.in_ok-all_files.ensures ∙ ap (map named_files) c.deref.ensures.value in
    subst (AllByRecursion (AllByRecursion (λ (file : FileId). file.0 < count))) (sym files) (all_within count c.in_ok-all.all.items c.in_ok-all.ensures.within)

pub returns-clause-finds : goal.returns-clause-finds
returns-clause-finds g c = λ tree told listed true readings are.
    let naming = root_naming readings tree c.args.config.now in
    let path = c.args.config_path.now in
    let entries = c.args.config.now.entries in
    let found = c.in_ok-all.ensures.finds tree told listed true readings are in
    let files = c.in_ok-all_files.ensures ∙ ap (map named_files) c.deref.ensures.value in
    let faults = c.in_ok-all_faults.ensures ∙ ap (flat_map (answer_faults path)) c.deref-2.ensures.value in
    record {
      files_are = ap (map numbers_of) (files ∙ ap (map named_files) found) ∙ files_are naming entries;
      faults_are = faults ∙ ap (flat_map (answer_faults path)) found ∙ faults_are naming path entries;
    }
