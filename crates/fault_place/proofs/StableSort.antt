-- A stable sort's result is the one that insertion gives: two lists that rise are equal where those that tie stand alike.
use Rattle.std.proofs.Common.{◌≡◌, ℕ, zero, suc, ◌<◌, ◌≤◌, Bool, true, false, cond, List, [], ◌∷◌, length, get_or, map, filter, not, ◌&&◌, refl, sym, ap, ◌∙◌, subst, arith, inl, inr, suc-le-suc, zero-le, add-one}
use Rattle.std.proofs.lemmas.Bool.{cond-true, cond-false, cases_Bool, and_parts, not-true, false≢true}
use Rattle.std.proofs.lemmas.List.Sorted.{sorted_far, IsPermutation-refl, IsPermutation-trans, IsPermutation-cons, IsPermutation-middle, IsPermutation-sym}
use Rattle.std.specs.Cmp.{IsStrictWeakOrder}
use Rattle.std.specs.List.{AllByRecursion}
use Rattle.std.specs.List.Sorted.{ties, IsSortedBy, IsPermutation}

filter-kept : {X : Type 0} (p : X → Bool) (y : X) (ys : List X) → p y ≡ true → filter p (y ∷ ys) ≡ y ∷ filter p ys
filter-kept p y ys h = cond-true _ _ _ h

filter-dropped : {X : Type 0} (p : X → Bool) (y : X) (ys : List X) → p y ≡ false → filter p (y ∷ ys) ≡ filter p ys
filter-dropped p y ys h = cond-false _ _ _ h

filter-map : {K X : Type 0} (f : K → X) (p : X → Bool) (ks : List K) → filter p (map f ks) ≡ map f (filter (λ k. p (f k)) ks)
filter-map f p [] = refl
filter-map f p (k ∷ ks) = elim (cases_Bool (p (f k))) [
  | inl kept ↦
      cond-true _ _ _ kept ∙ ap (λ l. f k ∷ l) (filter-map f p ks) ∙ ap (map f) (sym (filter-kept (λ a. p (f a)) k ks kept))
  | inr dropped ↦
      cond-false _ _ _ dropped ∙ filter-map f p ks ∙ ap (map f) (sym (filter-dropped (λ a. p (f a)) k ks dropped))
]

module _ {X : Type 0} (lt : X → X → Bool) where
  abbrev NoneBelow : X → List X → Type 0
  NoneBelow x ys = AllByRecursion (λ y. lt y x ≡ false) ys

  abbrev Rises : List X → Type 0
  Rises [] = Unit {0}
  Rises (x ∷ xs) = NoneBelow x xs × Rises xs

  -- an insertion sort
  abbrev pub put : X → List X → List X
  put x [] = x ∷ []
  put x (y ∷ ys) = cond (lt y x) (y ∷ put x ys) (x ∷ y ∷ ys)

  abbrev pub put_all : List X → List X
  put_all [] = []
  put_all (x ∷ xs) = put x (put_all xs)

  IsPermutation-put : (x : X) (ys : List X) → IsPermutation (x ∷ ys) (put x ys)
  IsPermutation-put x [] = IsPermutation-refl (x ∷ [])
  IsPermutation-put x (y ∷ ys) = elim (cases_Bool (lt y x)) [
    | inl past ↦
        subst (IsPermutation (x ∷ y ∷ ys)) (sym (cond-true _ _ _ past))
        (IsPermutation-trans _ (y ∷ x ∷ ys) _ (IsPermutation-sym _ _ (IsPermutation-middle (y ∷ []) x ys)) (IsPermutation-cons y _ _ (IsPermutation-put x ys)))
    | inr stays ↦ subst (IsPermutation (x ∷ y ∷ ys)) (sym (cond-false _ _ _ stays)) (IsPermutation-refl _)
  ]

  pub IsPermutation-put_all : (xs : List X) → IsPermutation xs (put_all xs)
  IsPermutation-put_all [] = IsPermutation-refl []
  IsPermutation-put_all (x ∷ xs) = IsPermutation-trans _ (x ∷ put_all xs) _ (IsPermutation-cons x _ _ (IsPermutation-put_all xs)) (IsPermutation-put x (put_all xs))

  IsSortedBy-from_rises : (xs : List X) → Rises xs → IsSortedBy lt xs
  IsSortedBy-from_rises [] h k d low high = absurd (omega arith)
  IsSortedBy-from_rises (x ∷ []) h k d low high = absurd (omega arith)
  IsSortedBy-from_rises (x ∷ y ∷ ys) h zero d low high = h.0.0
  IsSortedBy-from_rises (x ∷ y ∷ ys) h (suc k) d low high =
      let at = IsSortedBy-from_rises (y ∷ ys) h.1 k d zero-le (omega arith) in
      rw add-one (rw add-one at at)

  module _ (o : IsStrictWeakOrder lt) where
    not_below_itself : (x : X) → lt x x ≡ false
    not_below_itself x = elim (cases_Bool (lt x x)) [ inl below ↦ o.one_way x x below | inr not_below ↦ not_below ]

    tied-parts : (x y : X) → ties lt x y ≡ true → (lt x y ≡ false) × (lt y x ≡ false)
    tied-parts x y h = let parts = and_parts (not (lt x y)) (not (lt y x)) h in (not-true _ parts.0, not-true _ parts.1)

    tied : (x y : X) → lt x y ≡ false → lt y x ≡ false → ties lt x y ≡ true
    tied x y a b = λ i. not (a i) && not (b i)

    tied_itself : (x : X) → ties lt x x ≡ true
    tied_itself x = tied x x (not_below_itself x) (not_below_itself x)

    filter-put : (z x : X) (ys : List X) → filter (ties lt z) (put x ys) ≡ filter (ties lt z) (x ∷ ys)
    filter-put z x [] = refl
    filter-put z x (y ∷ ys) =
        let p = ties lt z in
        elim (cases_Bool (lt y x)) [
          | inr stays ↦ ap (filter p) (cond-false _ _ _ stays)
          | inl past ↦
              ap (filter p) (cond-true _ _ _ past)
              ∙ elim (cases_Bool (p y)) [
                | inr without ↦
                    filter-dropped p y (put x ys) without ∙ filter-put z x ys
                    ∙ ap (λ l. cond (p x) (x ∷ l) l) (sym (filter-dropped p y ys without))
                | inl with ↦
                    elim (cases_Bool (p x)) [
                      | inl both ↦ absurd (false≢true (sym (o.chain y z x (tied-parts z y with).1 (tied-parts z x both).0) ∙ past))
                      | inr only ↦
                          filter-kept p y (put x ys) with ∙ ap (λ l. y ∷ l) (filter-put z x ys ∙ filter-dropped p x ys only)
                          ∙ sym (filter-dropped p x (y ∷ ys) only ∙ filter-kept p y ys with)
                    ]
              ]
        ]

    filter-put_all : (z : X) (xs : List X) → filter (ties lt z) (put_all xs) ≡ filter (ties lt z) xs
    filter-put_all z [] = refl
    filter-put_all z (x ∷ xs) =
        filter-put z x (put_all xs) ∙ ap (λ l. cond (ties lt z x) (x ∷ l) l) (filter-put_all z xs)

    NoneBelow-put : (m x : X) (ys : List X) → lt x m ≡ false → NoneBelow m ys → NoneBelow m (put x ys)
    NoneBelow-put m x [] h all = (h, tt)
    NoneBelow-put m x (y ∷ ys) h all = elim (cases_Bool (lt y x)) [
      | inl past ↦ subst (NoneBelow m) (sym (cond-true _ _ _ past)) (all.0, NoneBelow-put m x ys h all.1)
      | inr stays ↦ subst (NoneBelow m) (sym (cond-false _ _ _ stays)) (h, all)
    ]

    NoneBelow-lower : (m x : X) (ys : List X) → lt m x ≡ false → NoneBelow m ys → NoneBelow x ys
    NoneBelow-lower m x [] h all = tt
    NoneBelow-lower m x (y ∷ ys) h all = (o.chain y m x all.0 h, NoneBelow-lower m x ys h all.1)

    Rises-put : (x : X) (ys : List X) → Rises ys → Rises (put x ys)
    Rises-put x [] h = (tt, tt)
    Rises-put x (y ∷ ys) h = elim (cases_Bool (lt y x)) [
      | inl past ↦ subst Rises (sym (cond-true _ _ _ past)) (NoneBelow-put y x ys (o.one_way y x past) h.0, Rises-put x ys h.1)
      | inr stays ↦ subst Rises (sym (cond-false _ _ _ stays)) ((stays, NoneBelow-lower y x ys stays h.0), h)
    ]

    Rises-put_all : (xs : List X) → Rises (put_all xs)
    Rises-put_all [] = tt
    Rises-put_all (x ∷ xs) = Rises-put x (put_all xs) (Rises-put_all xs)

    pub IsSortedBy-put_all : (xs : List X) → IsSortedBy lt (put_all xs)
    IsSortedBy-put_all xs = IsSortedBy-from_rises (put_all xs) (Rises-put_all xs)

    -- x ties with one of them, and none of them is below m
    not_below_least : (m x : X) (ys : List X) (w : X) (ws : List X) → NoneBelow m ys → filter (ties lt x) ys ≡ w ∷ ws → lt x m ≡ false
    not_below_least m x [] w ws h e = cc
    not_below_least m x (y ∷ ys) w ws h e =
        elim (cases_Bool (ties lt x y)) [
          | inl with ↦ o.chain x y m (tied-parts x y with).0 h.0
          | inr without ↦ not_below_least m x ys w ws h.1 (sym (filter-dropped (ties lt x) y ys without) ∙ e)
        ]

    same_from_ties : (ys zs : List X) → Rises ys → Rises zs → ((x : X) → filter (ties lt x) ys ≡ filter (ties lt x) zs) → ys ≡ zs
    same_from_ties [] [] left right same = refl
    same_from_ties [] (z ∷ zs) left right same =
        let clash = same z ∙ filter-kept (ties lt z) z zs (tied_itself z) in cc
    same_from_ties (y ∷ ys) [] left right same =
        let clash = sym (same y) ∙ filter-kept (ties lt y) y ys (tied_itself y) in cc
    same_from_ties (y ∷ ys) (z ∷ zs) left right same =
        let at_y = filter-kept (ties lt y) y ys (tied_itself y) in
        let at_z = filter-kept (ties lt z) z zs (tied_itself z) in
        let up = not_below_least z y (z ∷ zs) y _ (not_below_itself z, right.0) (sym (same y) ∙ at_y) in
        let down = not_below_least y z (y ∷ ys) z _ (not_below_itself y, left.0) (same z ∙ at_z) in
        let heads = sym at_y ∙ same y ∙ filter-kept (ties lt y) z zs (tied y z up down) in
        let head : y ≡ z = cc in
        let tails : (x : X) → filter (ties lt x) ys ≡ filter (ties lt x) zs =
        λ x. elim (cases_Bool (ties lt x y)) [
          | inl with ↦
              let both = sym (filter-kept (ties lt x) y ys with) ∙ same x ∙ filter-kept (ties lt x) z zs (ap (ties lt x) (sym head) ∙ with) in cc
          | inr without ↦
              sym (filter-dropped (ties lt x) y ys without) ∙ same x ∙ filter-dropped (ties lt x) z zs (ap (ties lt x) (sym head) ∙ without)
        ] in
        ap (λ w. w ∷ ys) head ∙ ap (λ l. z ∷ l) (same_from_ties ys zs left.1 right.1 tails)

    NoneBelow-at : {K : Type 0} (f : K → X) (x : X) (ks : List K) → ((j : ℕ) (d : K) → j < length ks → lt (f (get_or ks j d)) x ≡ false) → NoneBelow x (map f ks)
    NoneBelow-at f x [] h = tt
    NoneBelow-at f x (k ∷ ks) h = (h zero k (suc-le-suc zero-le), NoneBelow-at f x ks (λ j d at. h (suc j) d (suc-le-suc at)))

    Rises-map : {K : Type 0} (f : K → X) (ks : List K) → ((i j : ℕ) (d : K) → i ≤ j → j < length ks → lt (f (get_or ks j d)) (f (get_or ks i d)) ≡ false) → Rises (map f ks)
    Rises-map f [] h = tt
    Rises-map f (k ∷ ks) h = (
      NoneBelow-at f (f k) ks (λ j d at. h zero (suc j) d zero-le (suc-le-suc at)),
      Rises-map f ks (λ i j d le at. h (suc i) (suc j) d (suc-le-suc le) (suc-le-suc at)),
    )

    by_key : {K : Type 0} (f : K → X) → IsStrictWeakOrder (λ a b. lt (f a) (f b))
    by_key f = record { one_way = λ a b. o.one_way (f a) (f b); chain = λ a b c. o.chain (f a) (f b) (f c) }

    -- keyed values, sorted by their keys, where each key has a value
    pub put_all-from_sort : {K : Type 0} (f : K → X) (g : X → K) → ((x : X) → f (g x) ≡ x) → (ks ls : List K)
        → IsSortedBy (λ a b. lt (f a) (f b)) ls → ((k : K) → filter (ties (λ a b. lt (f a) (f b)) k) ls ≡ filter (ties (λ a b. lt (f a) (f b)) k) ks)
        → map f ls ≡ put_all (map f ks)
    put_all-from_sort f g back ks ls sorted stable =
        same_from_ties (map f ls) (put_all (map f ks)) (Rises-map f ls (sorted_far _ (by_key f) ls sorted)) (Rises-put_all (map f ks))
        (λ x. let at : filter (ties lt (f (g x))) (map f ls) ≡ filter (ties lt (f (g x))) (map f ks) =
        filter-map f (ties lt (f (g x))) ls ∙ ap (map f) (stable (g x)) ∙ sym (filter-map f (ties lt (f (g x))) ks) in
        subst (λ y. filter (ties lt y) (map f ls) ≡ filter (ties lt y) (map f ks)) (back x) at ∙ sym (filter-put_all x (map f ks)))
