-- Lists whose members are numbered, one member longer.
use Rattle.std.proofs.Common.{◌≡◌, ℕ, ◌+◌, ◌<◌, List, [], ◌∷◌, ◌++◌, append-nil, length, length-take, get_or, take, refl, ap, ◌∙◌, arith}
use Rattle.std.proofs.lemmas.Grind.{flat_map-append}
use Rattle.std.proofs.lemmas.List.{take_more}
use Rattle.std.proofs.lemmas.List.Elements.{filter_map-append}
use Rattle.std.specs.List.{enumerate_from}
use Rattle.std.specs.Prelude.{Option, Some, None, option_to_list, filter_map, flat_map}

enumerate_from-push : {X : Type 0} (n : ℕ) (xs : List X) (x : X) → enumerate_from n (xs ++ x ∷ []) ≡ enumerate_from n xs ++ (n + length xs, x) ∷ []
enumerate_from-push n [] x =
    let at : n ≡ n + 0 = omega arith in
    ap (λ k. (k, x) ∷ []) at
enumerate_from-push n (y ∷ ys) x =
    let at : (n + 1) + length ys ≡ n + length (y ∷ ys) = omega arith in
    ap (λ rest. (n, y) ∷ rest) (enumerate_from-push (n + 1) ys x ∙ ap (λ k. enumerate_from (n + 1) ys ++ (k, x) ∷ []) at)

pub enumerate_from-more : {X : Type 0} (xs : List X) (i : ℕ) (d : X) → i < length xs → enumerate_from 0 (take (i + 1) xs) ≡ enumerate_from 0 (take i xs) ++ (i, get_or xs i d) ∷ []
enumerate_from-more xs i d within =
    let at : 0 + length (take i xs) ≡ i = simp length-take (omega arith) in
    ap (enumerate_from 0) (take_more xs i d within) ∙ enumerate_from-push 0 (take i xs) (get_or xs i d)
    ∙ ap (λ k. enumerate_from 0 (take i xs) ++ (k, get_or xs i d) ∷ []) at

single : {X Y : Type 0} (h : X → Option Y) (x : X) (o : Option Y) → o ≡ h x → filter_map h (x ∷ []) ≡ option_to_list o
single h x None is = rw (← is)
single h x (Some y) is = rw (← is)

-- one more member, with what h gives of it
pub filter_map-next : {X Y : Type 0} (h : X → Option Y) (xs : List X) (i : ℕ) (d : X) → i < length xs → filter_map h (take (i + 1) xs) ≡ filter_map h (take i xs) ++ option_to_list (h (get_or xs i d))
filter_map-next h xs i d within =
    ap (filter_map h) (take_more xs i d within)
    ∙ filter_map-append h (take i xs) (get_or xs i d ∷ [])
    ∙ ap (λ rest. filter_map h (take i xs) ++ rest) (single h (get_or xs i d) _ refl)

-- the same where the members are numbered
pub filter_map-more : {X Y : Type 0} (h : ℕ × X → Option Y) (xs : List X) (i : ℕ) (d : X) → i < length xs → filter_map h (enumerate_from 0 (take (i + 1) xs)) ≡ filter_map h (enumerate_from 0 (take i xs)) ++ option_to_list (h (i, get_or xs i d))
filter_map-more h xs i d within =
    ap (filter_map h) (enumerate_from-more xs i d within)
    ∙ filter_map-append h (enumerate_from 0 (take i xs)) ((i, get_or xs i d) ∷ [])
    ∙ ap (λ rest. filter_map h (enumerate_from 0 (take i xs)) ++ rest) (single h (i, get_or xs i d) _ refl)

flat_single : {X Y : Type 0} (f : X → List Y) (x : X) → flat_map f (x ∷ []) ≡ f x
flat_single f x = append-nil (f x)

pub flat_map-more : {X Y : Type 0} (f : ℕ × X → List Y) (xs : List X) (i : ℕ) (d : X) → i < length xs → flat_map f (enumerate_from 0 (take (i + 1) xs)) ≡ flat_map f (enumerate_from 0 (take i xs)) ++ f (i, get_or xs i d)
flat_map-more f xs i d within =
    ap (flat_map f) (enumerate_from-more xs i d within)
    ∙ flat_map-append f (enumerate_from 0 (take i xs)) ((i, get_or xs i d) ∷ [])
    ∙ ap (λ rest. flat_map f (enumerate_from 0 (take i xs)) ++ rest) (flat_single f (i, get_or xs i d))
