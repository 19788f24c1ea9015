use Rattle.std.proofs.Common.{◌≡◌, ◌++◌, ◌∷◌, [], List, Some, get_or, length, map, take, sym, ap, subst, ◌∙◌, arith}
use Rattle.std.proofs.lemmas.List.{map-append, take_all, take_more}
use Rattle.std.specs.List.{AllByRecursion}
use Rattle.graph_types.specs.declared.item.Item.{Item}
use Rattle.outside.specs.Tree.{Tree}
use Rattle.resolve_path.proofs.Keeping.{keeps_on}
use Rattle.resolve_path.specs.Places.{HasFileWithin}
use Rattle.resolve_path.specs.Resolution.{resolution_of}
use Rattle.module_build.specs.Answers.{asks_as}
use Rattle.module_build.specs.Record.{Naming, asked_by}
use Rattle.module_build.specs.declared.asked.Asked.{Asked}
use Rattle.module_build.proofs.Lists.{all-push}
use Rattle.module_build.proofs.asking.ask_all.Goals as goal

pub returns-in_err-answer-clause-keeps : goal.returns-in_err-answer-clause-keeps
returns-in_err-answer-clause-keeps g c = λ tree told.
    let before = c.loop-item.invariant in
    let told_now = (g.met.R.TreeReader.keeps c.args.reader.now c.loop-item.reader before.follows).tree ∙ told in
    keeps_on tree c.args.listing.now c.args.cache.now c.loop-item.cache c.resolve.new.cache (g.R.TreeReader.view c.args.reader.now) (g.R.TreeReader.view c.loop-item.reader) (g.R.TreeReader.view c.resolve.new.reader)
    (before.keeps tree told) (c.in_err-answer.ensures.keeps tree told_now)

pub returns-in_err-with_answer-clause-keeps : goal.returns-in_err-with_answer-clause-keeps
returns-in_err-with_answer-clause-keeps g c = λ tree told.
    let before = c.loop-item.invariant in
    let told_now = (g.met.R.TreeReader.keeps c.args.reader.now c.loop-item.reader before.follows).tree ∙ told in
    keeps_on tree c.args.listing.now c.args.cache.now c.loop-item.cache c.resolve.new.cache (g.R.TreeReader.view c.args.reader.now) (g.R.TreeReader.view c.loop-item.reader) (g.R.TreeReader.view c.resolve.new.reader)
    (before.keeps tree told) (c.in_ok-answer.ensures.keeps tree told_now)

pub returns-in_err-push-clause-follows : goal.returns-in_err-push-clause-follows
returns-in_err-push-clause-follows g c =
    g.met.R.TreeReader.follows_on c.args.reader.now c.loop-item.reader c.resolve.new.reader c.loop-item.invariant.follows c.in_ok-answer.ensures.follows

pub returns-in_err-push-clause-keeps : goal.returns-in_err-push-clause-keeps
returns-in_err-push-clause-keeps g c = λ tree told.
    let before = c.loop-item.invariant in
    let told_now = (g.met.R.TreeReader.keeps c.args.reader.now c.loop-item.reader before.follows).tree ∙ told in
    keeps_on tree c.args.listing.now c.args.cache.now c.loop-item.cache c.resolve.new.cache (g.R.TreeReader.view c.args.reader.now) (g.R.TreeReader.view c.loop-item.reader) (g.R.TreeReader.view c.resolve.new.reader)
    (before.keeps tree told) (c.in_ok-answer.ensures.keeps tree told_now)

pub loop-item-preserved : goal.loop-item-preserved
loop-item-preserved g c =
    let before = c.loop-item.invariant in
    let start = g.R.TreeReader.view c.args.reader.now in
    let between = g.R.TreeReader.view c.loop-item.reader in
    let now = g.R.TreeReader.view c.resolve.new.reader in
    let place = c.loop-item.item-index in
    let items = c.args.items.now in
    let item = c.item-item.result in
    let one : Asked = c.in_ok-with_answer.field-0 in
    let made : one ≡ record { item = item; answer = c.in_ok-answer.answer } = c.in_ok-with_answer.ensures in
    let same : one.item ≡ get_or items place item = ap (λ (one : Asked). one.item) made ∙ c.item-item.is in
    let front = take_more items place item c.loop-item-test.true in
    let pushed : c.push.new.self.items ≡ c.loop-item.asked.items ++ one ∷ [] = c.in_ok-push.ensures.items in
    let told_now = λ (tree : Tree) (told : start.tree ≡ Some tree). (g.met.R.TreeReader.keeps c.args.reader.now c.loop-item.reader before.follows).tree ∙ told in
    record {
      follows = g.met.R.TreeReader.follows_on c.args.reader.now c.loop-item.reader c.resolve.new.reader before.follows c.in_ok-answer.ensures.follows;
      items =
          ap (map (λ (one : Asked). one.item)) pushed ∙ map-append (λ (one : Asked). one.item) c.loop-item.asked.items (one ∷ [])
          ∙ ap (λ (front : List Item). front ++ one.item ∷ []) before.items ∙ ap (λ (item : Item). take place items ++ item ∷ []) same ∙ sym front;
      within = subst (AllByRecursion (λ (one : Asked). HasFileWithin (length c.args.listing.now.files) one.answer)) (sym pushed)
          (all-push (λ (one : Asked). HasFileWithin (length c.args.listing.now.files) one.answer) c.loop-item.asked.items one before.within (subst (λ (one : Asked). HasFileWithin (length c.args.listing.now.files) one.answer) (sym made) c.in_ok-answer.ensures.within));
      keeps = λ tree told. keeps_on tree c.args.listing.now c.args.cache.now c.loop-item.cache c.resolve.new.cache start between now (before.keeps tree told) (c.in_ok-answer.ensures.keeps tree (told_now tree told));
      finds = λ tree told listed true reading is.
          let naming : Naming = λ request kind. resolution_of reading tree c.args.config.now c.args.folder.now request kind in
          let given : c.in_ok-answer.answer ≡ naming c.get-request.result.now c.asks_as-kind.result = c.in_ok-answer.ensures.finds tree (told_now tree told) listed ((before.keeps tree told).cache true) reading is in
          let answer : one.answer ≡ naming item.request (asks_as item.kind) =
          ap (λ (one : Asked). one.answer) made ∙ given ∙ ap (λ request. naming request c.asks_as-kind.result) c.get-request.ensures ∙ ap (λ kind. naming item.request kind) c.asks_as-kind.ensures in
          let whole : one ≡ asked_by naming (get_or items place item) =
          (λ i. record { item = same i; answer = (answer ∙ ap (λ (item : Item). naming item.request (asks_as item.kind)) c.item-item.is) i }) in
          pushed ∙ ap (λ asked. asked ++ one ∷ []) (before.finds tree told listed true reading is)
          ∙ ap (λ one. map (asked_by naming) (take place items) ++ one ∷ []) whole
          ∙ sym (map-append (asked_by naming) (take place items) (get_or items place item ∷ [])) ∙ ap (map (asked_by naming)) (sym front);
    }

pub returns-clause-finds : goal.returns-clause-finds
returns-clause-finds g c = λ tree told listed true reading is.
    c.loop-item.invariant.finds tree told listed true reading is
    ∙ ap (map (asked_by (λ request kind. resolution_of reading tree c.args.config.now c.args.folder.now request kind))) (take_all c.loop-item.item-index c.args.items.now (omega (arith, c.loop-item-test.false)))
