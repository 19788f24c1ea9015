-- Pieces between bytes that pass a test, joined by a text, are the text with that text in the place of each such byte.
use Rattle.std.proofs.Common.{◌≡◌, ℕ, ◌<◌, Bool, true, false, List, [], ◌∷◌, ◌++◌, length, map, cond, refl, sym, inl, inr, ap, ◌∙◌, arith, append_assoc}
use Rattle.std.proofs.lemmas.List.Folds.{flat_map-map}
use Rattle.std.proofs.lemmas.List.Splits.{length-slice_split}
use Rattle.std.proofs.lemmas.Bool.Decides.{eqb_tells}
use Rattle.pkg_exports.specs.Keys.{is_star}
use Rattle.pkg_exports.specs.Targets.{filled}
use Rattle.std.specs.List.{flat_map, join_by, onto_first, slice_split}

pub join_map : {X : Type 0} (f : X → List ℕ) (separator : List ℕ) (xs : List X) → join_by f separator xs ≡ join_by (λ x. x) separator (map f xs)
join_map f separator [] = refl
join_map f separator (x ∷ xs) = ap (λ rest. f x ++ rest) (sym (flat_map-map (λ y. separator ++ y) f xs))

join_onto : (separator : List ℕ) (x : ℕ) (parts : List (List ℕ)) → join_by (λ x. x) separator (onto_first x parts) ≡ x ∷ join_by (λ x. x) separator parts
join_onto separator x [] = refl
join_onto separator x (part ∷ parts) = refl

join_behind : (separator : List ℕ) (parts : List (List ℕ)) → 0 < length parts → join_by (λ x. x) separator ([] ∷ parts) ≡ separator ++ join_by (λ x. x) separator parts
join_behind separator [] some = absurd (omega arith)
join_behind separator (part ∷ parts) some = append_assoc separator part (flat_map (λ y. separator ++ y) parts)

step : (separator : List ℕ) (b : Bool) (x : ℕ) (parts : List (List ℕ)) → 0 < length parts →
    join_by (λ x. x) separator (cond b ([] ∷ parts) (onto_first x parts)) ≡ cond b separator (x ∷ []) ++ join_by (λ x. x) separator parts
step separator true x parts some = join_behind separator parts some
step separator false x parts some = join_onto separator x parts

pub join_split : (separator : List ℕ) (p : ℕ → Bool) (xs : List ℕ) → join_by (λ x. x) separator (slice_split p xs) ≡ flat_map (λ x. cond (p x) separator (x ∷ [])) xs
join_split separator p [] = refl
join_split separator p (x ∷ xs) =
    step separator (p x) x (slice_split p xs) (omega (arith, length-slice_split p xs))
    ∙ ap (λ rest. cond (p x) separator (x ∷ []) ++ rest) (join_split separator p xs)

own_step : (b : Bool) (x : ℕ) → (b ≡ true → x ≡ 42) → cond b (42 ∷ []) (x ∷ []) ≡ x ∷ []
own_step true x e = ap (λ y. y ∷ []) (sym (e refl))
own_step false x e = refl

star_is : (x : ℕ) → is_star x ≡ true → x ≡ 42
star_is x e = elim (eqb_tells x 42) [ inl w ↦ w.1 | inr w ↦ cc ]

pub filled_with_star : (text : List ℕ) → filled (42 ∷ []) text ≡ text
filled_with_star [] = refl
filled_with_star (x ∷ xs) = ap (λ front. front ++ filled (42 ∷ []) xs) (own_step (is_star x) x (star_is x)) ∙ ap (λ rest. x ∷ rest) (filled_with_star xs)
