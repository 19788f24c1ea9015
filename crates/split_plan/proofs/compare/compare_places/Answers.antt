use Rattle.std.proofs.Common.{◌+◌, ◌∷◌, [], refl, ap, sym, ◌∙◌}
use Rattle.split_plan.specs.inner.Rows.{places_from}
use Rattle.split_plan.proofs.Places.{from_next, from_none, cmp_same, cmp_equal, cmp_differ}
use Rattle.split_plan.proofs.compare.compare_places.Goals as goal

pub returns-in-None-None : goal.returns-in-None-None
returns-in-None-None c =
    let none = rw c.in-None-None.is-0 at c.next_from.ensures in
    sym (c.loop-place.invariant ∙ cmp_same _ _ [] [] (from_none _ _ none) (from_none _ _ c.in-None-None.ensures))

pub returns-in-Some-None : goal.returns-in-Some-None
returns-in-Some-None c =
    let i = c.in-Some-None.field-0-0 in
    sym (c.loop-place.invariant ∙ cmp_same _ _ (i ∷ places_from (i + 1) c.args.row.now) [] (from_next _ _ i c.in-Some-None.ensures) (from_none _ _ c.in-Some-None.ensures'))

pub returns-in-None-Some : goal.returns-in-None-Some
returns-in-None-Some c =
    let j = c.in-None-Some.field-0-1 in
    let none = rw c.in-None-Some.is-0 at c.next_from.ensures in
    sym (c.loop-place.invariant ∙ cmp_same _ _ [] (j ∷ places_from (j + 1) c.args.other.now) (from_none _ _ none) (from_next _ _ j c.in-None-Some.ensures))

pub returns-then-place-elsewhere : goal.returns-then-place-elsewhere
returns-then-place-elsewhere c =
    let i = c.in-Some-Some.place in
    let j = c.in-Some-Some.elsewhere in
    let xs = places_from (i + 1) c.args.row.now in
    let ys = places_from (j + 1) c.args.other.now in
    c.cmp.ensures ∙ cmp_differ i j xs ys c.if-place-elsewhere.true
    ∙ sym (c.loop-place.invariant ∙ cmp_same _ _ (i ∷ xs) (j ∷ ys) (from_next _ _ i c.in-Some-Some.ensures) (from_next _ _ j c.in-Some-Some.ensures'))

pub loop-place-preserved : goal.loop-place-preserved
loop-place-preserved c =
    let i = c.in-Some-Some.place in
    let j = c.in-Some-Some.elsewhere in
    let xs = places_from (i + 1) c.args.row.now in
    let ys = places_from (j + 1) c.args.other.now in
    c.loop-place.invariant
    ∙ cmp_same _ _ (i ∷ xs) (j ∷ ys) (from_next _ _ i c.in-Some-Some.ensures) (from_next _ _ j c.in-Some-Some.ensures')
    ∙ cmp_equal i j xs ys c.if-place-elsewhere.false
    ∙ cmp_same xs ys xs (places_from (i + 1) c.args.other.now) refl (ap (λ n. places_from (n + 1) c.args.other.now) (sym c.if-place-elsewhere.false))
