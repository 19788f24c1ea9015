use Rattle.std.proofs.Common.{◌≡◌, ◌+◌, ◌++◌, ◌∷◌, [], List, Some, get_or, length, length-append, map, take, sym, ap, subst, ◌∙◌, arith}
use Rattle.std.proofs.lemmas.List.{map-append, take_all, take_more}
use Rattle.std.specs.List.{AllByRecursion}
use Rattle.module_build.proofs.Lists.{all-push}
use Rattle.module_build.specs.Record.{Naming}
use Rattle.outside.specs.Tree.{Tree}
use Rattle.resolve_path.proofs.Keeping.{keeps_on}
use Rattle.resolve_path.specs.Places.{HasFileWithin}
use Rattle.make_rounds.specs.Entries.{root_naming}
use Rattle.make_rounds.specs.declared.entry_answer.EntryAnswer.{EntryAnswer}
use Rattle.make_rounds.specs.inner.Answered.{answered_by, answered_entry}
use Rattle.make_rounds.proofs.asking.ask_entries.Goals as goal

pub returns-in_err-answers-clause-keeps : goal.returns-in_err-answers-clause-keeps
returns-in_err-answers-clause-keeps g c = λ tree told.
    let before = c.loop-entry.invariant in
    let told_now = (g.met.R.TreeReader.keeps c.args.reader.now c.loop-entry.reader before.follows).tree ∙ told in
    keeps_on tree c.args.listing.now c.args.cache.now c.loop-entry.cache c.ask_entry.new.cache (g.R.TreeReader.view c.args.reader.now) (g.R.TreeReader.view c.loop-entry.reader) (g.R.TreeReader.view c.ask_entry.new.reader)
    (before.keeps tree told) (c.in_err-answers.ensures.keeps tree told_now)

pub returns-in_err-push-clause-keeps : goal.returns-in_err-push-clause-keeps
returns-in_err-push-clause-keeps g c = λ tree told.
    let before = c.loop-entry.invariant in
    let told_now = (g.met.R.TreeReader.keeps c.args.reader.now c.loop-entry.reader before.follows).tree ∙ told in
    keeps_on tree c.args.listing.now c.args.cache.now c.loop-entry.cache c.ask_entry.new.cache (g.R.TreeReader.view c.args.reader.now) (g.R.TreeReader.view c.loop-entry.reader) (g.R.TreeReader.view c.ask_entry.new.reader)
    (before.keeps tree told) (c.in_ok-answers.ensures.keeps tree told_now)

pub loop-entry-preserved : goal.loop-entry-preserved
loop-entry-preserved g c =
    let before = c.loop-entry.invariant in
    let start = g.R.TreeReader.view c.args.reader.now in
    let between = g.R.TreeReader.view c.loop-entry.reader in
    let now = g.R.TreeReader.view c.ask_entry.new.reader in
    let place = c.loop-entry.entry-index in
    let entries = c.as_slice-entry-items.result.now in
    let entry = c.entry-item.result in
    let answers : List EntryAnswer = c.in_ok-answers.answers.items in
    let pushed : c.push.new.self.items ≡ c.loop-entry.all.items ++ answers ∷ [] = c.in_ok-push.ensures.items ∙ ap (λ one. c.loop-entry.all.items ++ one ∷ []) c.from_vec.ensures in
    let told_now = λ (tree : Tree) (told : start.tree ≡ Some tree). (g.met.R.TreeReader.keeps c.args.reader.now c.loop-entry.reader before.follows).tree ∙ told in
    record {
      follows = g.met.R.TreeReader.follows_on c.args.reader.now c.loop-entry.reader c.ask_entry.new.reader before.follows c.in_ok-answers.ensures.follows;
      count = ap length pushed ∙ length-append c.loop-entry.all.items (answers ∷ []) ∙ ap (λ n. n + 1) before.count;
      within = subst (AllByRecursion (AllByRecursion (λ (one : EntryAnswer). HasFileWithin (length c.args.listing.now.files) one.answer))) (sym pushed)
          (all-push (AllByRecursion (λ (one : EntryAnswer). HasFileWithin (length c.args.listing.now.files) one.answer)) c.loop-entry.all.items answers before.within c.in_ok-answers.ensures.within);
      keeps = λ tree told. keeps_on tree c.args.listing.now c.args.cache.now c.loop-entry.cache c.ask_entry.new.cache start between now (before.keeps tree told) (c.in_ok-answers.ensures.keeps tree (told_now tree told));
      finds = λ tree told listed true readings are.
          let naming : Naming = root_naming readings tree c.args.config.now in
          let given = c.in_ok-answers.ensures.finds tree (told_now tree told) listed ((before.keeps tree told).cache true) readings are in
          let whole : answers ≡ answered_entry naming (get_or entries place entry) =
          given ∙ ap (map (answered_by naming)) c.as_slice-files.ensures ∙ ap (answered_entry naming) c.entry-item.is in
          pushed ∙ ap (λ all. all ++ answers ∷ []) (before.finds tree told listed true readings are)
          ∙ ap (λ one. map (answered_entry naming) (take place entries) ++ one ∷ []) whole
          ∙ sym (map-append (answered_entry naming) (take place entries) (get_or entries place entry ∷ [])) ∙ ap (map (answered_entry naming)) (sym (take_more entries place entry c.loop-entry-test.true));
    }

pub returns-clause-finds : goal.returns-clause-finds
returns-clause-finds g c = λ tree told listed true readings are.
    let naming : Naming = root_naming readings tree c.args.config.now in
    c.loop-entry.invariant.finds tree told listed true readings are
    ∙ ap (map (answered_entry naming)) (take_all c.loop-entry.entry-index c.as_slice-entry-items.result.now (omega (arith, c.loop-entry-test.false)))
    ∙ ap (map (answered_entry naming)) c.as_slice-entry-items.ensures
