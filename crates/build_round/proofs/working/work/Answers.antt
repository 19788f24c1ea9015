use Rattle.std.proofs.Common.{◌<◌, ℕ, List, [], ◌∷◌, length, map, refl, sym, ap, subst, ◌∙◌}
use Rattle.std.proofs.lemmas.List.{map-append}
use Rattle.std.proofs.lemmas.Result.{err_from_is_err_and}
use Rattle.std.specs.Prelude.{Result, Ok, Err}
use Rattle.std.specs.List.{AllByRecursion}
use Rattle.draw_board.specs.Draws.{drawn}
use Rattle.outside.specs.declared.outside_end.OutsideEnd.{OutsideEnd}
use Rattle.build_round.specs.inner.Parts.{Works, file_at}
use Rattle.build_round.proofs.Lists.{all-append}
use Rattle.build_round.proofs.Works.{works_more, works_none}
use Rattle.build_round.proofs.working.work.Goals as goal

pub loop-position-init : goal.loop-position-init
loop-position-init g c =
    let bench = c.args.bench.now in
    let frontier = c.args.frontier.now in
    let none = sym c.requires.new.0 in
    let view = g.R.TreeReader.view in
    let follows = g.R.TreeReader.follows in
    record {
      same_hand = (refl, refl, refl);
      inside = subst (λ (places : List ℕ). AllByRecursion (λ place. place < length frontier) places) none tt;
      works = subst (λ (places : List ℕ). Works view follows c.args.listing.now c.args.config.now (map (file_at frontier) places) bench bench (Ok tt)) none
          (works_none view follows c.args.listing.now c.args.config.now bench (g.met.R.TreeReader.follows_itself bench.reader));
      more = c.requires.new.1;
    }

pub loop-position-preserved : goal.loop-position-preserved
loop-position-preserved g c =
    let i = c.loop-position.invariant in
    let frontier = c.args.frontier.now in
    let place = c.in-Some.position in
    let before = drawn c.loop-position.hand in
    let drew = c.in-Some.ensures.drawn in
    let same = c.in-Some.ensures.board in
    let a = c.args.bench.now in
    let b = c.loop-position.bench in
    let d = c.take.new.bench in
    let view = g.R.TreeReader.view in
    let follows = g.R.TreeReader.follows in
    let Is = Works view follows c.args.listing.now c.args.config.now in
    let took : Is (file_at frontier place ∷ []) b d (Ok tt) = subst (Is (file_at frontier place ∷ []) b d) c.in_ok-take.was c.take.ensures in
    let both = works_more view follows c.args.listing.now c.args.config.now (map (file_at frontier) before) (file_at frontier place ∷ []) a b d (Ok tt)
    (g.met.R.TreeReader.follows_on a.reader b.reader d.reader) (λ followed. (g.met.R.TreeReader.keeps a.reader b.reader followed).tree) i.works took in
    record {
      same_hand = (same.0 ∙ i.same_hand.0, same.1 ∙ i.same_hand.1, same.2 ∙ i.same_hand.2);
      inside = subst (λ (places : List ℕ). AllByRecursion (λ place. place < length frontier) places) (sym drew.3)
          (all-append (λ place. place < length frontier) before (place ∷ []) i.inside (subst (λ (len : ℕ). place < len) c.requires.len drew.0, tt));
      works = subst (λ (files : List ℕ). Is files a d (Ok tt)) (sym (ap (map (file_at frontier)) drew.3 ∙ map-append (file_at frontier) before (place ∷ []))) both;
      more = drew.4;
    }

pub returns-in_err-take : goal.returns-in_err-take
returns-in_err-take g c =
    let p = err_from_is_err_and c.from_residual.result c.from_residual.ensures.1 in
    let i = c.loop-position.invariant in
    let frontier = c.args.frontier.now in
    let place = c.in-Some.position in
    let before = drawn c.loop-position.hand in
    let drew = c.in-Some.ensures.drawn in
    let same = c.in-Some.ensures.board in
    let a = c.args.bench.now in
    let b = c.loop-position.bench in
    let d = c.take.new.bench in
    let view = g.R.TreeReader.view in
    let follows = g.R.TreeReader.follows in
    let Is = Works view follows c.args.listing.now c.args.config.now in
    let end : Result Unit OutsideEnd = Err c.in_err-take.field-0.0 in
    let took : Is (file_at frontier place ∷ []) b d end = subst (Is (file_at frontier place ∷ []) b d) c.in_err-take.was c.take.ensures in
    let both = works_more view follows c.args.listing.now c.args.config.now (map (file_at frontier) before) (file_at frontier place ∷ []) a b d end
    (g.met.R.TreeReader.follows_on a.reader b.reader d.reader) (λ followed. (g.met.R.TreeReader.keeps a.reader b.reader followed).tree) i.works took in
    rw (p.1, p.2) (record {
      same_hand = (same.0 ∙ i.same_hand.0, same.1 ∙ i.same_hand.1, same.2 ∙ i.same_hand.2);
      inside = subst (λ (places : List ℕ). AllByRecursion (λ place. place < length frontier) places) (sym drew.3)
          (all-append (λ place. place < length frontier) before (place ∷ []) i.inside (subst (λ (len : ℕ). place < len) c.requires.len drew.0, tt));
      works = subst (λ (files : List ℕ). Is files a d end) (sym (ap (map (file_at frontier)) drew.3 ∙ map-append (file_at frontier) before (place ∷ []))) both;
      all = λ is. absurd (cc);
    })

pub returns : goal.returns
returns g c =
    let i = c.loop-position.invariant in
    let frontier = c.args.frontier.now in
    let drew = c.in_default.ensures.drawn in
    let same = c.in_default.ensures.board in
    let none = sym drew.0 in
    record {
      same_hand = (same.0 ∙ i.same_hand.0, same.1 ∙ i.same_hand.1, same.2 ∙ i.same_hand.2);
      inside = subst (λ (places : List ℕ). AllByRecursion (λ place. place < length frontier) places) none i.inside;
      works = subst (λ (places : List ℕ). Works g.R.TreeReader.view g.R.TreeReader.follows c.args.listing.now c.args.config.now (map (file_at frontier) places) c.args.bench.now c.loop-position.bench (Ok tt)) none i.works;
      all = λ _. drew.1;
    }
