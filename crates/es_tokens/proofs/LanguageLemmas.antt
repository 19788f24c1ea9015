-- Whether a text has a shape is computed as the words of languages say.
use Rattle.std.proofs.Common.{ℕ, ◌≡◌, Bool, true, false, cond, not, ◌&&◌, ◌||◌, List, [], ◌∷◌, ◌++◌, ◌⊎◌, inl, inr, ◌↔◌, refl, sym, ap, ◌∙◌, subst}
use Rattle.std.proofs.lemmas.Bool.{and_parts, and_from, or_cases, or_left, or_right, false_from_ne_true, false≢true}
use Rattle.es_tokens.specs.Shape.{Shape, no_text, empty, any_text, one, seq, alt, many, other, followed, either, all_but, takes_empty, after_first, has_shape}
use Rattle.es_tokens.specs.Language.{put_together, Every, HasShape}

moved : (s : Shape) (t u : List ℕ) → t ≡ u → HasShape s t → HasShape s u
moved s t u e h = subst (HasShape s) e h

-- the compound shapes without dead parts are the compound shapes
followed-means : (a b : Shape) (text : List ℕ) → HasShape (followed a b) text ↔ HasShape (seq a b) text
followed-means no_text b text = (λ h. absurd h, λ h. absurd h.3)
followed-means empty b text = (λ h. ([], text, refl, refl, h), λ h. moved b h.1 text (sym (h.2 ∙ ap (λ x. x ++ h.1) h.3)) h.4)
followed-means a b text = (λ h. h, λ h. h)

either-means : (a b : Shape) (text : List ℕ) → HasShape (either a b) text ↔ (HasShape a text ⊎ HasShape b text)
either-means no_text b text = (inr, elim [ inl h ↦ absurd h | inr h ↦ h ])
either-means any_text b text = (λ h. inl tt, λ h. tt)
either-means a no_text text = (inl, elim [ inl h ↦ h | inr h ↦ absurd h ])
either-means a any_text text = (λ h. inr tt, λ h. tt)
either-means a b text = (λ h. h, λ h. h)

all_but-means : (a : Shape) (text : List ℕ) → HasShape (all_but a) text ↔ (¬ (HasShape a text))
all_but-means no_text text = (λ h k. k, λ h. tt)
all_but-means any_text text = (λ h. absurd h, λ h. h tt)
all_but-means a text = (λ h. h, λ h. h)

-- the empty text
nil-parts : (x y : List ℕ) → [] ≡ x ++ y → (x ≡ []) × (y ≡ [])
nil-parts [] y e = (refl, sym e)
nil-parts (c ∷ x) y e = cc

-- that the empty text has a shape is computed as said
abbrev EmptyMeans : Shape → Type 0
EmptyMeans s = (takes_empty s ≡ true) ↔ HasShape s []

empty-seq : (a b : Shape) → EmptyMeans a → EmptyMeans b → EmptyMeans (seq a b)
empty-seq a b ha hb = (there, back)
  where
    there : (takes_empty a && takes_empty b) ≡ true → HasShape (seq a b) []
    there h = let both = and_parts (takes_empty a) (takes_empty b) h in ([], [], refl, ha.0 both.0, hb.0 both.1)

    back : HasShape (seq a b) [] → (takes_empty a && takes_empty b) ≡ true
    back h =
        let parts = nil-parts h.0 h.1 h.2 in
        and_from _ _ (ha.1 (moved a h.0 [] parts.0 h.3)) (hb.1 (moved b h.1 [] parts.1 h.4))

empty-alt : (a b : Shape) → EmptyMeans a → EmptyMeans b → EmptyMeans (alt a b)
empty-alt a b ha hb = (there, back)
  where
    there : (takes_empty a || takes_empty b) ≡ true → HasShape a [] ⊎ HasShape b []
    there h = elim (or_cases (takes_empty a) (takes_empty b) h) [ inl e ↦ inl (ha.0 e) | inr e ↦ inr (hb.0 e) ]

    back : HasShape a [] ⊎ HasShape b [] → (takes_empty a || takes_empty b) ≡ true
    back (inl h) = or_left _ _ (ha.1 h)
    back (inr h) = or_right _ _ (hb.1 h)

empty-other : (a : Shape) → EmptyMeans a → EmptyMeans (other a)
empty-other a ha = (by_test (takes_empty a) refl, back)
  where
    by_test : (test : Bool) → takes_empty a ≡ test → not test ≡ true → ¬ (HasShape a [])
    by_test true e n h = cc
    by_test false e n h = let t = ha.1 h in cc

    back : ¬ (HasShape a []) → not (takes_empty a) ≡ true
    back h = rw (false_from_ne_true (takes_empty a) (λ e. h (ha.0 e))) refl

empty-means : (s : Shape) → EmptyMeans s
empty-means no_text = (λ h. cc, λ h. absurd h)
empty-means empty = (λ h. refl, λ h. refl)
empty-means any_text = (λ h. tt, λ h. refl)
empty-means (one p) = (λ h. cc, λ h. let e : [] ≡ h.0 ∷ [] = h.2 in cc)
empty-means (seq a b) = empty-seq a b (empty-means a) (empty-means b)
empty-means (alt a b) = empty-alt a b (empty-means a) (empty-means b)
empty-means (many a) = (λ h. ([], refl, tt), λ h. refl)
empty-means (other a) = empty-other a (empty-means a)

-- what a first character leaves is what may follow it
abbrev FirstMeans : Shape → ℕ → Type 0
FirstMeans s c = (text : List ℕ) → HasShape (after_first s c) text ↔ HasShape s (c ∷ text)

first-one : (p : ℕ → Bool) (c : ℕ) (text : List ℕ) → HasShape (cond (p c) empty no_text) text ↔ HasShape (one p) (c ∷ text)
first-one p c text = by_test (p c) refl
  where
    by_test : (test : Bool) → p c ≡ test → HasShape (cond test empty no_text) text ↔ HasShape (one p) (c ∷ text)
    by_test true e = (λ h. (c, e, ap (λ more. c ∷ more) h), λ h. let same : c ∷ text ≡ h.0 ∷ [] = h.2 in cc)
    by_test false e = (λ h. absurd h, λ h. let same : c ∷ text ≡ h.0 ∷ [] = h.2 in let head : c ≡ h.0 = cc in let holds = h.1 in absurd (false≢true (sym e ∙ ap p head ∙ holds)))

first-seq : (a b : Shape) (c : ℕ) → EmptyMeans a → FirstMeans a c → FirstMeans b c → FirstMeans (seq a b) c
first-seq a b c ea fa fb text = (there, λ h. back h.0 h.1 h.2 h.3 h.4)
  where
    second : (test : Bool) → takes_empty a ≡ test → HasShape (cond test (after_first b c) no_text) text → HasShape (seq a b) (c ∷ text)
    second true e h = ([], c ∷ text, refl, ea.0 e, (fb text).0 h)
    second false e h = absurd h

    there : HasShape (after_first (seq a b) c) text → HasShape (seq a b) (c ∷ text)
    there h =
        elim ((either-means (followed (after_first a c) b) (cond (takes_empty a) (after_first b c) no_text) text).0 h) [
          | inl k ↦ let m = (followed-means (after_first a c) b text).0 k in (c ∷ m.0, m.1, ap (λ more. c ∷ more) m.2, (fa m.0).0 m.3, m.4)
          | inr k ↦ second (takes_empty a) refl k
        ]

    either_back : HasShape (followed (after_first a c) b) text ⊎ HasShape (cond (takes_empty a) (after_first b c) no_text) text → HasShape (after_first (seq a b) c) text
    either_back = (either-means (followed (after_first a c) b) (cond (takes_empty a) (after_first b c) no_text) text).1

    back : (front rest : List ℕ) → c ∷ text ≡ front ++ rest → HasShape a front → HasShape b rest → HasShape (after_first (seq a b) c) text
    back [] rest e ha hb = either_back (inr (rw (ea.1 ha) ((fb text).1 (moved b rest (c ∷ text) (sym e) hb))))
    back (d ∷ front) rest e ha hb =
        let head : c ≡ d = cc in
        let tail : text ≡ front ++ rest = cc in
        let whole = moved a (d ∷ front) (c ∷ front) (ap (λ x. x ∷ front) (sym head)) ha in
        either_back (inl ((followed-means (after_first a c) b text).1 (front, rest, tail, (fa front).1 whole, hb)))

first-alt : (a b : Shape) (c : ℕ) → FirstMeans a c → FirstMeans b c → FirstMeans (alt a b) c
first-alt a b c fa fb text = (there, back)
  where
    there : HasShape (either (after_first a c) (after_first b c)) text → HasShape a (c ∷ text) ⊎ HasShape b (c ∷ text)
    there h = elim ((either-means (after_first a c) (after_first b c) text).0 h) [ inl k ↦ inl ((fa text).0 k) | inr k ↦ inr ((fb text).0 k) ]

    back : HasShape a (c ∷ text) ⊎ HasShape b (c ∷ text) → HasShape (either (after_first a c) (after_first b c)) text
    back (inl k) = (either-means (after_first a c) (after_first b c) text).1 (inl ((fa text).1 k))
    back (inr k) = (either-means (after_first a c) (after_first b c) text).1 (inr ((fb text).1 k))

first-part : (a : Shape) (c : ℕ) (text : List ℕ) → FirstMeans a c → (parts : List (List ℕ)) → c ∷ text ≡ put_together parts → Every (HasShape a) parts →
    HasShape (seq (after_first a c) (many a)) text
first-part a c text fa [] e every = cc
first-part a c text fa ([] ∷ parts) e every = first-part a c text fa parts e every.1
first-part a c text fa ((d ∷ part) ∷ parts) e every =
    let head : c ≡ d = cc in
    let tail : text ≡ part ++ put_together parts = cc in
    let whole = moved a (d ∷ part) (c ∷ part) (ap (λ x. x ∷ part) (sym head)) every.0 in
    (part, put_together parts, tail, (fa part).1 whole, (parts, refl, every.1))

first-many : (a : Shape) (c : ℕ) → FirstMeans a c → FirstMeans (many a) c
first-many a c fa text = (there, back)
  where
    there : HasShape (followed (after_first a c) (many a)) text → HasShape (many a) (c ∷ text)
    there h =
        let m = (followed-means (after_first a c) (many a) text).0 h in
        let more = m.4 in
        ((c ∷ m.0) ∷ more.0, ap (λ x. c ∷ x) (m.2 ∙ ap (λ x. m.0 ++ x) more.1), ((fa m.0).0 m.3, more.2))

    back : HasShape (many a) (c ∷ text) → HasShape (followed (after_first a c) (many a)) text
    back h = (followed-means (after_first a c) (many a) text).1 (first-part a c text fa h.0 h.1 h.2)

first-other : (a : Shape) (c : ℕ) → FirstMeans a c → FirstMeans (other a) c
first-other a c fa text =
    (λ h k. (all_but-means (after_first a c) text).0 h ((fa text).1 k), λ h. (all_but-means (after_first a c) text).1 (λ k. h ((fa text).0 k)))

first-means : (s : Shape) (c : ℕ) → FirstMeans s c
first-means no_text c text = (λ h. h, λ h. h)
first-means empty c text = (λ h. absurd h, λ h. let e : c ∷ text ≡ [] = h in cc)
first-means any_text c text = (λ h. tt, λ h. tt)
first-means (one p) c text = first-one p c text
first-means (seq a b) c text = first-seq a b c (empty-means a) (first-means a c) (first-means b c) text
first-means (alt a b) c text = first-alt a b c (first-means a c) (first-means b c) text
first-means (many a) c text = first-many a c (first-means a c) text
first-means (other a) c text = first-other a c (first-means a c) text

pub shape-means : (shape : Shape) (text : List ℕ) → (has_shape shape text ≡ true) ↔ HasShape shape text
shape-means shape [] = empty-means shape
shape-means shape (c ∷ cs) =
    let more = shape-means (after_first shape c) cs in
    let first = first-means shape c cs in
    (λ h. first.0 (more.0 h), λ h. more.1 (first.1 h))
