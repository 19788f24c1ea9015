use Rattle.std.proofs.Common.{◌≡◌, ◌∷◌, ◌++◌, [], Some, refl, sym, ap, ◌∙◌, length, subst, arith}
use Rattle.std.proofs.lemmas.Result.{err_from_is_err_and}
use Rattle.outside.specs.Tree.{Tree}
use Rattle.tree_listing.specs.inner.Kept.{root, AreFound}
use Rattle.tree_listing.specs.inner.Walk.{HasWalkedTo}
use Rattle.tree_listing.proofs.Found.{found_root}
use Rattle.tree_listing.proofs.Outcomes.{started}
use Rattle.tree_listing.proofs.walk.walk.Goals as goal

pub loop-listed-init : goal.loop-listed-init
loop-listed-init g c =
    let alone : root ∷ [] ≡ c.push.new.self.items = sym (c.in_ok-push.ensures.items ∙ ap (λ xs. xs ++ c.in_ok-root.field-0 ∷ []) c.new-kept.ensures.items ∙ ap (λ x. x ∷ []) c.in_ok-root.ensures) in
    let now = g.R.TreeReader.view c.args.reader.now in
    record {
      follows = g.met.R.TreeReader.follows_itself c.args.reader.now;
      log = refl;
      found = subst AreFound alone found_root;
      no_stray = λ tree told. refl;
      told = λ tree told. subst (λ kept. HasWalkedTo tree now.listed 0 kept now) alone (started tree (g.met.R.TreeReader.tells_a_tree c.args.reader.now tree told) now);
    }

pub list_one-requires-clause-found : goal.list_one-requires-clause-found
list_one-requires-clause-found g c = c.loop-listed.invariant.found

pub loop-listed-preserved : goal.loop-listed-preserved
loop-listed-preserved g c =
    let before = c.loop-listed.invariant in
    let one = c.in_ok-list_one.ensures in
    let first = (g.R.TreeReader.view c.args.reader.now).listed in
    let same = λ (tree : Tree) (told : (g.R.TreeReader.view c.args.reader.now).tree ≡ Some tree). one.told tree ((g.met.R.TreeReader.keeps c.args.reader.now c.loop-listed.reader before.follows).tree ∙ told) first (before.told tree told) in
    record {
      follows = g.met.R.TreeReader.follows_on c.args.reader.now c.loop-listed.reader c.list_one.new.reader before.follows one.follows;
      log = one.asks.log ∙ before.log;
      found = one.found;
      no_stray = λ tree told. (same tree told).no_stray ∙ before.no_stray tree told;
      told = λ tree told. (same tree told).answer;
    }

pub returns-in_err-list_one-clause-told : goal.returns-in_err-list_one-clause-told
returns-in_err-list_one-clause-told g c = λ tree told.
    let before = c.loop-listed.invariant in
    let p = err_from_is_err_and c.from_residual-in_err-list_one.result c.from_residual-in_err-list_one.ensures.1 in
    let one = c.in_err-list_one.ensures.told tree ((g.met.R.TreeReader.keeps c.args.reader.now c.loop-listed.reader before.follows).tree ∙ told) (g.R.TreeReader.view c.args.reader.now).listed (before.told tree told) in
    rw (p.1, p.2) (record { no_stray = one.no_stray ∙ before.no_stray tree told; answer = one.answer })

pub returns-clause-found : goal.returns-clause-found
returns-clause-found g c = c.loop-listed.invariant.found

pub returns-clause-told : goal.returns-clause-told
returns-clause-told g c = λ tree told.
    let before = c.loop-listed.invariant in
    let to = before.told tree told in
    let first = (g.R.TreeReader.view c.args.reader.now).listed in
    let now = g.R.TreeReader.view c.loop-listed.reader in
    let all : c.loop-listed.listed ≡ length c.loop-listed.kept.items = omega (arith, to.walk.within, c.loop-listed-test.false, c.len.ensures, c.loop-listed.kept.ok.0) in
    record {
      no_stray = before.no_stray tree told;
      answer = subst (λ n. HasWalkedTo tree first n c.loop-listed.kept.items now) all to;
    }
