use Rattle.std.proofs.Common.{◌++◌, ◌∷◌, [], refl, ap, sym, ◌∙◌, subst, length, ◌<◌, arith}
use Rattle.std.proofs.lemmas.List.{get_or_read}
use Rattle.std.proofs.lemmas.Result.{err_from_is_err_and}
use Rattle.tree_listing.specs.inner.Kept.{root, KeepsEntries}
use Rattle.tree_listing.specs.declared.kept.Kept.{Kept}
use Rattle.tree_listing.specs.declared.list_end.ListEnd.TheVariants.{NoMemory}
use Rattle.outside.specs.Reads.{AreEntries}
use Rattle.outside.specs.Tree.{is_folder}
use Rattle.tree_listing.proofs.Found.{folder_kept_at, found_kept}
use Rattle.tree_listing.proofs.Outcomes.{ended_before, folder_at, passed_file, reader_end, walked_on}
use Rattle.tree_listing.proofs.walk.list_one.Goals as goal

pub returns-in-File-clause-told : goal.returns-in-File-clause-told
returns-in-File-clause-told g c = λ tree told first to.
    let inside : c.args.place < length c.args.kept.now.items = omega (arith, c.requires.there, c.args.kept.now.ok.0) in
    let at = get_or_read c.args.kept.now.items c.args.place c.index.result.now inside c.index.ensures root in
    record {
      no_stray = refl;
      answer = passed_file tree (g.met.R.TreeReader.tells_a_tree c.args.reader.now tree told) first c.args.place c.args.kept.now.items c.in-File.field-0 (g.R.TreeReader.view c.args.reader.now) to inside (ap (λ (x : Kept). x.kind) (sym at) ∙ c.in-File.is);
    }

pub returns-in_err-folder-clause-told : goal.returns-in_err-folder-clause-told
returns-in_err-folder-clause-told g c = λ tree told first to.
    let p = err_from_is_err_and c.from_residual.result c.from_residual.ensures.1 in
    rw (p.1, p.2) (record { no_stray = refl; answer = ended_before tree first c.args.place c.args.kept.now.items _ _ NoMemory to tt refl })

pub returns-in_err-entries-clause-told : goal.returns-in_err-entries-clause-told
returns-in_err-entries-clause-told g c = λ tree told first to.
    let inside : c.args.place < length c.args.kept.now.items = omega (arith, c.requires.there, c.args.kept.now.ok.0) in
    let at = get_or_read c.args.kept.now.items c.args.place c.index.result.now inside c.index.ensures root in
    let at-2 = get_or_read c.args.kept.now.items c.args.place c.index-2.result.now inside c.index-2.ensures root in
    let kind = ap (λ (x : Kept). x.kind) (sym at) ∙ c.in_default.is in
    let path = ap (λ (x : Kept). x.path) (sym at-2) ∙ c.in_ok-folder.ensures.cases in
    let lists = c.in_err-entries.ensures.lists.told tree told in
    let p = err_from_is_err_and c.from_residual-in_err-entries.result c.from_residual-in_err-entries.ensures.1 in
    rw (p.1, p.2) (record {
      no_stray = lists.no_stray (ap (is_folder tree) (c.get.ensures ∙ sym path) ∙ folder_at tree c.args.place c.args.kept.now.items to.walk inside kind);
      answer = ended_before tree first c.args.place c.args.kept.now.items _ _ _ to (reader_end tree c.in_err-entries.field-0.0) lists.listed;
    })

pub returns-clause-found : goal.returns-clause-found
returns-clause-found g c =
    let inside : c.args.place < length c.args.kept.now.items = omega (arith, c.requires.there, c.args.kept.now.ok.0) in
    let at = get_or_read c.args.kept.now.items c.args.place c.index.result.now inside c.index.ensures root in
    let at-2 = get_or_read c.args.kept.now.items c.args.place c.index-2.result.now inside c.index-2.ensures root in
    let kind = ap (λ (x : Kept). x.kind) (sym at) ∙ c.in_default.is in
    let path = ap (λ (x : Kept). x.path) (sym at-2) ∙ c.in_ok-folder.ensures.cases in
    found_kept c.in_ok-folder.folder c.in_ok-entries.entries.items c.args.kept.now.items c.keep_all.new.kept.items c.keep_all.result c.requires.found (folder_kept_at c.args.kept.now.items c.args.place c.in_ok-folder.folder inside path kind)
    (subst (λ x. KeepsEntries x c.in_ok-entries.entries.items c.args.kept.now.items c.keep_all.new.kept.items c.keep_all.result) c.get-2.ensures c.keep_all.ensures)

pub returns-clause-told : goal.returns-clause-told
returns-clause-told g c = λ tree told first to.
    let inside : c.args.place < length c.args.kept.now.items = omega (arith, c.requires.there, c.args.kept.now.ok.0) in
    let at = get_or_read c.args.kept.now.items c.args.place c.index.result.now inside c.index.ensures root in
    let at-2 = get_or_read c.args.kept.now.items c.args.place c.index-2.result.now inside c.index-2.ensures root in
    let kind = ap (λ (x : Kept). x.kind) (sym at) ∙ c.in_default.is in
    let path = ap (λ (x : Kept). x.path) (sym at-2) ∙ c.in_ok-folder.ensures.cases in
    let lists = c.in_ok-entries.ensures.lists.told tree told in
    let before = g.R.TreeReader.view c.args.reader.now in
    record {
      no_stray = lists.no_stray (ap (is_folder tree) (c.get.ensures ∙ sym path) ∙ folder_at tree c.args.place c.args.kept.now.items to.walk inside kind);
      answer = walked_on tree (g.met.R.TreeReader.tells_a_tree c.args.reader.now tree told) first c.args.place c.args.kept.now.items c.keep_all.new.kept.items before _ to inside kind c.in_ok-entries.entries.items
          (subst (λ x. AreEntries tree x c.in_ok-entries.entries.items) (c.get.ensures ∙ sym path) lists.entries)
          (lists.listed ∙ ap (λ x. before.listed ++ x ∷ []) (c.get.ensures ∙ sym path))
          c.keep_all.result
          (subst (λ x. KeepsEntries x c.in_ok-entries.entries.items c.args.kept.now.items c.keep_all.new.kept.items c.keep_all.result) (c.get-2.ensures ∙ sym path) c.keep_all.ensures);
    }
