-- A row of parts with commas, one part longer.
use Rattle.std.proofs.Common.{◌≡◌, ℕ, zero, suc, ◌+◌, ◌<◌, ◌==◌, ◌++◌, List, [], ◌∷◌, append_assoc, length, get_or, map, take, refl, sym, ap, ◌∙◌, arith}
use Rattle.std.proofs.lemmas.Bool.{cond-false, ne_eqb}
use Rattle.std.proofs.lemmas.List.{map_more}
use Rattle.std.specs.Prelude.{false, codes, if◌then◌else◌}
use Rattle.module_code.specs.Quoted.{with_commas}

one_more : (part : List ℕ) (parts : List (List ℕ)) (last : List ℕ) → with_commas (part ∷ parts ++ last ∷ []) ≡ with_commas (part ∷ parts) ++ (codes "," ++ last)
one_more part [] last = refl
one_more part (next ∷ parts) last =
    ap (λ rest. part ++ (codes "," ++ rest)) (one_more next parts last)
    ∙ sym (append_assoc part (codes "," ++ with_commas (next ∷ parts)) (codes "," ++ last))

pub with_commas-more : {X : Type 0} (f : X → List ℕ) (xs : List X) (i : ℕ) (d : X) → i < length xs
    → with_commas (map f (take (i + 1) xs)) ≡ with_commas (map f (take i xs)) ++ ((if i == 0 then [] else codes ",") ++ f (get_or xs i d))
with_commas-more f [] i d within = absurd (omega arith)
with_commas-more f (x ∷ xs) zero d within = refl
with_commas-more f (x ∷ xs) (suc i) d within =
    let last = f (get_or xs i d) in
    let later : (suc i == 0 ≡ false) = ne_eqb (suc i) 0 (λ e. omega arith) in
    ap with_commas (map_more f (x ∷ xs) (suc i) d within)
    ∙ one_more (f x) (map f (take i xs)) last
    ∙ ap (λ comma. with_commas (map f (take (suc i) (x ∷ xs))) ++ (comma ++ last)) (sym (cond-false _ _ _ later))

-- what a loop has added, one part later
pub added-at : {X : Type 0} (f : X → List ℕ) (xs : List X) (i : ℕ) (d : X) → i < length xs
    → (old before between after : List ℕ) → before ≡ old ++ with_commas (map f (take i xs)) → between ≡ before ++ (if i == 0 then [] else codes ",") → after ≡ between ++ f (get_or xs i d)
    → after ≡ old ++ with_commas (map f (take (i + 1) xs))
added-at f xs i d within old before between after first comma last =
    let front = with_commas (map f (take i xs)) in
    let mark = if i == 0 then [] else codes "," in
    let part = f (get_or xs i d) in
    last ∙ ap (λ text. text ++ part) (comma ∙ ap (λ text. text ++ mark) first)
    ∙ append_assoc (old ++ front) mark part ∙ append_assoc old front (mark ++ part) ∙ ap (λ rest. old ++ rest) (sym (with_commas-more f xs i d within))

pub added-more : {X : Type 0} (f : X → List ℕ) (xs : List X) (i : ℕ) (x : X) → i < length xs → x ≡ get_or xs i x
    → (old before between after : List ℕ) → before ≡ old ++ with_commas (map f (take i xs)) → between ≡ before ++ (if i == 0 then [] else codes ",") → after ≡ between ++ f x
    → after ≡ old ++ with_commas (map f (take (i + 1) xs))
added-more f xs i x within is old before between after first comma last =
    added-at f xs i x within old before between after first comma (last ∙ ap (λ part. between ++ f part) is)
