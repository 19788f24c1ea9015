use Rattle.std.proofs.Common.{◌≡◌, ◌++◌, ◌∷◌, [], Some, get_or, length, map, take, sym, ap, subst, ◌∙◌, arith}
use Rattle.std.proofs.lemmas.List.{map-append, take_all, take_more}
use Rattle.std.specs.List.{AllByRecursion}
use Rattle.module_build.proofs.Lists.{all-push}
use Rattle.module_build.specs.Record.{Naming}
use Rattle.outside.specs.Tree.{Tree}
use Rattle.resolve_path.proofs.Keeping.{keeps_on}
use Rattle.resolve_path.specs.Places.{HasFileWithin}
use Rattle.resolve_path.specs.declared.request_kind.RequestKind.TheVariants.{Import}
use Rattle.make_rounds.specs.Entries.{entry_answer, root_naming}
use Rattle.make_rounds.specs.declared.entry_answer.EntryAnswer.{EntryAnswer}
use Rattle.make_rounds.specs.inner.Answered.{answered_by}
use Rattle.make_rounds.proofs.asking.ask_entry.Goals as goal

pub returns-in_err-answer-clause-keeps : goal.returns-in_err-answer-clause-keeps
returns-in_err-answer-clause-keeps g c = λ tree told.
    let before = c.loop-file.invariant in
    let told_now = (g.met.R.TreeReader.keeps c.args.reader.now c.loop-file.reader before.follows).tree ∙ told in
    keeps_on tree c.args.listing.now c.args.cache.now c.loop-file.cache c.resolve.new.cache (g.R.TreeReader.view c.args.reader.now) (g.R.TreeReader.view c.loop-file.reader) (g.R.TreeReader.view c.resolve.new.reader)
    (before.keeps tree told) (c.in_err-answer.ensures.keeps tree told_now)

pub returns-in_err-with_answer-clause-keeps : goal.returns-in_err-with_answer-clause-keeps
returns-in_err-with_answer-clause-keeps g c = λ tree told.
    let before = c.loop-file.invariant in
    let told_now = (g.met.R.TreeReader.keeps c.args.reader.now c.loop-file.reader before.follows).tree ∙ told in
    keeps_on tree c.args.listing.now c.args.cache.now c.loop-file.cache c.resolve.new.cache (g.R.TreeReader.view c.args.reader.now) (g.R.TreeReader.view c.loop-file.reader) (g.R.TreeReader.view c.resolve.new.reader)
    (before.keeps tree told) (c.in_ok-answer.ensures.keeps tree told_now)

pub returns-in_err-push-clause-follows : goal.returns-in_err-push-clause-follows
returns-in_err-push-clause-follows g c =
    g.met.R.TreeReader.follows_on c.args.reader.now c.loop-file.reader c.resolve.new.reader c.loop-file.invariant.follows c.in_ok-answer.ensures.follows

pub returns-in_err-push-clause-keeps : goal.returns-in_err-push-clause-keeps
returns-in_err-push-clause-keeps g c = λ tree told.
    let before = c.loop-file.invariant in
    let told_now = (g.met.R.TreeReader.keeps c.args.reader.now c.loop-file.reader before.follows).tree ∙ told in
    keeps_on tree c.args.listing.now c.args.cache.now c.loop-file.cache c.resolve.new.cache (g.R.TreeReader.view c.args.reader.now) (g.R.TreeReader.view c.loop-file.reader) (g.R.TreeReader.view c.resolve.new.reader)
    (before.keeps tree told) (c.in_ok-answer.ensures.keeps tree told_now)

pub loop-file-preserved : goal.loop-file-preserved
loop-file-preserved g c =
    let before = c.loop-file.invariant in
    let start = g.R.TreeReader.view c.args.reader.now in
    let between = g.R.TreeReader.view c.loop-file.reader in
    let now = g.R.TreeReader.view c.resolve.new.reader in
    let place = c.loop-file.file-index in
    let files = c.args.files.now in
    let file = c.file-item.result in
    let one : EntryAnswer = c.in_ok-with_answer.field-0 in
    let made : one ≡ record { file = file; answer = c.in_ok-answer.answer } = c.in_ok-with_answer.ensures in
    let front = take_more files place file c.loop-file-test.true in
    let pushed : c.push.new.self.items ≡ c.loop-file.answers.items ++ one ∷ [] = c.in_ok-push.ensures.items in
    let told_now = λ (tree : Tree) (told : start.tree ≡ Some tree). (g.met.R.TreeReader.keeps c.args.reader.now c.loop-file.reader before.follows).tree ∙ told in
    record {
      follows = g.met.R.TreeReader.follows_on c.args.reader.now c.loop-file.reader c.resolve.new.reader before.follows c.in_ok-answer.ensures.follows;
      within = subst (AllByRecursion (λ (one : EntryAnswer). HasFileWithin (length c.args.listing.now.files) one.answer)) (sym pushed)
          (all-push (λ (one : EntryAnswer). HasFileWithin (length c.args.listing.now.files) one.answer) c.loop-file.answers.items one before.within (subst (λ (one : EntryAnswer). HasFileWithin (length c.args.listing.now.files) one.answer) (sym made) c.in_ok-answer.ensures.within));
      keeps = λ tree told. keeps_on tree c.args.listing.now c.args.cache.now c.loop-file.cache c.resolve.new.cache start between now (before.keeps tree told) (c.in_ok-answer.ensures.keeps tree (told_now tree told));
      finds = λ tree told listed true readings are.
          let naming : Naming = root_naming readings tree c.args.config.now in
          let given : c.in_ok-answer.answer ≡ naming c.get-request.result.now Import = c.in_ok-answer.ensures.finds tree (told_now tree told) listed ((before.keeps tree told).cache true) readings.manifest are.manifest in
          let answer : c.in_ok-answer.answer ≡ entry_answer naming file = given ∙ ap (λ request. naming request Import) c.get-request.ensures in
          let whole : one ≡ answered_by naming (get_or files place file) =
          made ∙ ap (λ answer. record { file = file; answer = answer }) answer ∙ ap (answered_by naming) c.file-item.is in
          pushed ∙ ap (λ answers. answers ++ one ∷ []) (before.finds tree told listed true readings are)
          ∙ ap (λ one. map (answered_by naming) (take place files) ++ one ∷ []) whole
          ∙ sym (map-append (answered_by naming) (take place files) (get_or files place file ∷ [])) ∙ ap (map (answered_by naming)) (sym front);
    }

pub returns-clause-finds : goal.returns-clause-finds
returns-clause-finds g c = λ tree told listed true readings are.
    c.loop-file.invariant.finds tree told listed true readings are
    ∙ ap (map (answered_by (root_naming readings tree c.args.config.now))) (take_all c.loop-file.file-index c.args.files.now (omega (arith, c.loop-file-test.false)))
