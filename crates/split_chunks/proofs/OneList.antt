-- There is one list of splits.
use Rattle.std.proofs.Common.{◌≡◌, ◌<◌, None, List, [], ◌∷◌, length, refl, sym, ap, subst, ◌∙◌, inl, inr, arith}
use Rattle.std.specs.Ordering.{ordering_reverse, is_lt}
use Rattle.std.specs.declared.cmp.Ordering.TheVariants.{Greater}
use Rattle.std.proofs.lemmas.Bool.{false≢true}
use Rattle.chunk_graph.specs.declared.split.Split.{Split}
use Rattle.chunk_graph.specs.Chunks.{State}
use Rattle.split_plan.specs.declared.candidate.Candidate.{Candidate}
use Rattle.split_plan.specs.Order.{order}
use Rattle.split_plan.specs.Plan.{Plan}
use Rattle.split_plan.specs.Step.{AreSplits, AreSteps, HasNone, IsBest, NeedTooMany, after_at, after_split, reused_of, split_of}
use Rattle.split_plan.proofs.Orders.{order_total}
use Rattle.split_chunks.proofs.Passing.{made_len, steps_len}

never_both : (p : Plan) (x y : Candidate) → order p x y ≡ Greater → order p y x ≡ Greater → ⊥
never_both p x y g h = false≢true (ap is_lt (sym g ∙ (order_total p).antisymm x y ∙ ap ordering_reverse h))

best_is_one : (p : Plan) (s : State) (x y : Candidate) → IsBest p s x → IsBest p s y → x ≡ y
best_is_one p s x y bx by = elim (bx.greatest y by.there) [
  | inl e ↦ sym e
  | inr g ↦ elim (by.greatest x bx.there) [ inl e ↦ e | inr h ↦ absurd (never_both p x y g h) ]
]

-- after the last split of a list there is no candidate, so no split follows
ends : (p : Plan) (s t : State) (x : Candidate) → t ≡ s → HasNone p t → IsBest p s x → ⊥
ends p s t x e done best = let P : State → Type 0 = λ r. HasNone p r in subst P e done x best.there

-- splits by the other best candidate are splits by this one
same_steps : (p : Plan) (s u : State) (x w : Candidate) (zs : List Split) → x ≡ w → AreSteps p (after_split p s w) zs u → AreSteps p (after_split p s x) zs u
same_steps p s u x w zs e steps = let P : Candidate → Type 0 = λ c. AreSteps p (after_split p s c) zs u in subst P (sym e) steps

one_list : (p : Plan) (s t u : State) (xs ys : List Split) → AreSteps p s xs t → HasNone p t → AreSteps p s ys u → HasNone p u → (xs ≡ ys) × (t ≡ u)
one_list p s t u [] [] e done f end = (refl, e ∙ sym f)
one_list p s t u [] (z ∷ zs) e done (w, bw, iw, rest) end = absurd (ends p s t w e done bw)
one_list p s t u (y ∷ xs) [] (x, bx, ix, rest) done f end = absurd (ends p s u x f end bx)
one_list p s t u (y ∷ xs) (z ∷ zs) (x, bx, ix, rx) done (w, bw, iw, rz) end =
    let e = best_is_one p s x w bx bw in
    let q = one_list p (after_split p s x) t u xs zs rx done (same_steps p s u x w zs e rz) end in (
      ap (λ v. v ∷ xs) (ix ∙ ap (split_of p s) e ∙ sym iw) ∙ ap (λ l. z ∷ l) q.0,
      q.1,
    )

pub splits_are_one : (p : Plan) (s t u : State) (xs ys : List Split) → AreSplits p s xs t → AreSplits p s ys u → (xs ≡ ys) × (t ≡ u)
splits_are_one p s t u xs ys a b = one_list p s t u xs ys a.steps a.done b.steps b.done

too_many : (p : Plan) (s t u : State) (xs ys : List Split) (next : Candidate) → AreSteps p s xs t → HasNone p t → AreSteps p s ys u → IsBest p u next → reused_of p u next ≡ None
    → length u.chunks ≡ 8192 → 8192 < length t.chunks
too_many p s t u [] [] next e done f best makes all = absurd (ends p u t next (e ∙ sym f) done best)
too_many p s t u [] (z ∷ zs) next e done (w, bw, iw, rest) best makes all = absurd (ends p s t w e done bw)
too_many p s t u (y ∷ xs) [] next (x, bx, ix, rest) done f best makes all =
    let P : State → Type 0 = λ r. IsBest p r next in
    let e = best_is_one p s x next bx (subst P f best) in
    let none : reused_of p s x ≡ None = ap (reused_of p s) e ∙ ap (λ r. reused_of p r next) (sym f) ∙ makes in
    omega (arith, steps_len p (after_split p s x) t xs rest, ap (λ o. length (after_at p s x o).chunks) none, made_len p s x, ap (λ r. length r.chunks) f, all)
too_many p s t u (y ∷ xs) (z ∷ zs) next (x, bx, ix, rx) done (w, bw, iw, rz) best makes all =
    too_many p (after_split p s x) t u xs zs next rx done (same_steps p s u x w zs (best_is_one p s x w bx bw) rz) best makes all

pub limit_alone : (p : Plan) (s t u : State) (xs : List Split) → AreSplits p s xs t → NeedTooMany p s u → 8192 < length t.chunks
limit_alone p s t u xs a b = too_many p s t u xs b.splits b.next a.steps a.done b.steps b.best b.makes b.all
