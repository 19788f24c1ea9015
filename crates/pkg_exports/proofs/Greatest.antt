-- One walk over some members finds the first that none of them beats.
use Rattle.std.proofs.Common.{◌≡◌, ◌↔◌, ℕ, Bool, true, false, not, ◌&&◌, ◌||◌, cond, eqb, ltb, List, [], ◌∷◌, Option, Some, None, length, refl, sym, ap, ◌∙◌, arith}
use Rattle.std.specs.List.{find, fold, list_any}
use Rattle.std.proofs.lemmas.Bool.Decides.{nat_tests}
use Rattle.json_order.specs.declared.tree.JsonPair.{JsonPair}
use Rattle.pkg_exports.specs.inner.Steps.{better_of, greater_of}
use Rattle.pkg_exports.specs.Exports.{greatest, matches_of}
use Rattle.pkg_exports.specs.Keys.{is_match, length_before, outranks}

find_same : {X : Type 0} (p q : X → Bool) (xs : List X) → ((x : X) → p x ≡ q x) → find p xs ≡ find q xs
find_same p q [] e = refl
find_same p q (x ∷ xs) e = ap (λ b. cond b (Some x) (find p xs)) (e x) ∙ ap (cond (q x) (Some x)) (find_same p q xs e)

either_true : (a b c d : Bool) → (a ≡ true → c ≡ true) → (b ≡ true → d ≡ true) → (a || b) ≡ true → (c || d) ≡ true
either_true true b c d f g e = rw (f refl) refl
either_true false b true d f g e = refl
either_true false b false d f g e = g e

any_more : {X : Type 0} (p q : X → Bool) (xs : List X) → ((x : X) → p x ≡ true → q x ≡ true) → list_any p xs ≡ true → list_any q xs ≡ true
any_more p q [] f e = e
any_more p q (x ∷ xs) f e = either_true (p x) (list_any p xs) (q x) (list_any q xs) (f x) (any_more p q xs f) e

-- a test that ranks: it beats as orders do in which some may tie
record Ranks {X : Type 0} (beats : X → X → Bool) : Type 0 where
  itself : (x : X) → beats x x ≡ false
  chain : (x y z : X) → beats x y ≡ true → beats y z ≡ true → beats x z ≡ true
  below : (x y z : X) → beats x y ≡ false → beats x z ≡ true → beats y z ≡ true
  above : (x y z : X) → beats x y ≡ true → beats z y ≡ false → beats x z ≡ true

drop_first : (a b c : Bool) → (a ≡ true → b ≡ true) → not (a || (b || c)) ≡ not (b || c)
drop_first true b c f = rw (f refl) refl
drop_first false b c f = refl

drop_second : (a b c : Bool) → (b ≡ true → a ≡ true) → not (a || (b || c)) ≡ not (a || c)
drop_second true b c f = refl
drop_second false true c f = let e : false ≡ true = f refl in cc
drop_second false false c f = refl

both_beaten : (a b c d : Bool) → a ≡ false → (b ≡ true → d ≡ true) → not (a || b) ≡ false → not (c || d) ≡ false
both_beaten true b c d e f h = cc
both_beaten false true true d e f h = refl
both_beaten false true false d e f h = rw (f refl) refl
both_beaten false false c d e f h = cc

pass : {X : Type 0} (a b : Bool) (x y : X) (rest : Option X) → (a ≡ false → b ≡ false) → cond a (Some x) (cond b (Some y) rest) ≡ cond a (Some x) rest
pass true b x y rest f = refl
pass false b x y rest f = rw (f refl) refl

module _ {X : Type 0} (beats : X → X → Bool) where
  abbrev is_top : List X → X → Bool
  is_top xs x = not (list_any (λ y. beats y x) xs)

  abbrev top : List X → Option X
  top xs = find (is_top xs) xs

  abbrev better : X → X → X
  better best x = cond (beats x best) x best

module _ {X : Type 0} (beats : X → X → Bool) (ranks : Ranks beats) where
  passes_taken : (a x : X) (xs : List X) → beats x a ≡ true → top beats (a ∷ x ∷ xs) ≡ top beats (x ∷ xs)
  passes_taken a x xs e =
      let beaten : is_top beats (a ∷ x ∷ xs) a ≡ false = rw (ranks.itself a, e) refl in
      ap (λ b. cond b (Some a) (find (is_top beats (a ∷ x ∷ xs)) (x ∷ xs))) beaten
      ∙ find_same (is_top beats (a ∷ x ∷ xs)) (is_top beats (x ∷ xs)) (x ∷ xs) (λ y. drop_first (beats a y) (beats x y) (list_any (λ z. beats z y) xs) (ranks.chain x a y e))

  passes_kept : (a x : X) (xs : List X) → beats x a ≡ false → top beats (a ∷ x ∷ xs) ≡ top beats (a ∷ xs)
  passes_kept a x xs e =
      find_same (is_top beats (a ∷ x ∷ xs)) (is_top beats (a ∷ xs)) (a ∷ x ∷ xs) (λ y. drop_second (beats a y) (beats x y) (list_any (λ z. beats z y) xs) (ranks.below x a y e))
      ∙ pass (is_top beats (a ∷ xs) a) (is_top beats (a ∷ xs) x) a x (find (is_top beats (a ∷ xs)) xs)
      (both_beaten (beats a a) (list_any (λ y. beats y a) xs) (beats a x) (list_any (λ y. beats y x) xs) (ranks.itself a)
      (any_more (λ y. beats y a) (λ y. beats y x) xs (λ y h. ranks.above y a x h e)))

  step : (b : Bool) (a x : X) (xs : List X) → beats x a ≡ b → top beats (cond b x a ∷ xs) ≡ top beats (a ∷ x ∷ xs)
  step true a x xs e = sym (passes_taken a x xs e)
  step false a x xs e = sym (passes_kept a x xs e)

  fold_top : (a : X) (xs : List X) → Some (fold (better beats) a xs) ≡ top beats (a ∷ xs)
  fold_top a [] = rw (ranks.itself a) refl
  fold_top a (x ∷ xs) = fold_top (better beats a x) xs ∙ step (beats x a) a x xs refl

abbrev pair_beats : JsonPair → JsonPair → Bool
pair_beats one other = outranks one.key other.key

rank_itself : (a b : ℕ) → (ltb a a || (eqb a a && ltb b b)) ≡ false
rank_itself a b = grind (arith, nat_tests)

rank_chain : (a b c d e f : ℕ) → (ltb c a || (eqb a c && ltb d b)) ≡ true → (ltb e c || (eqb c e && ltb f d)) ≡ true → (ltb e a || (eqb a e && ltb f b)) ≡ true
rank_chain a b c d e f h k = grind (arith, nat_tests)

rank_below : (a b c d e f : ℕ) → (ltb c a || (eqb a c && ltb d b)) ≡ false → (ltb e a || (eqb a e && ltb f b)) ≡ true → (ltb e c || (eqb c e && ltb f d)) ≡ true
rank_below a b c d e f h k = grind (arith, nat_tests)

rank_above : (a b c d e f : ℕ) → (ltb c a || (eqb a c && ltb d b)) ≡ true → (ltb c e || (eqb e c && ltb d f)) ≡ false → (ltb e a || (eqb a e && ltb f b)) ≡ true
rank_above a b c d e f h k = grind (arith, nat_tests)

pair_ranks : Ranks pair_beats
pair_ranks = record {
  itself = λ x. rank_itself (length_before x.key) (length x.key);
  chain = λ x y z h k. rank_chain (length_before x.key) (length x.key) (length_before y.key) (length y.key) (length_before z.key) (length z.key) h k;
  below = λ x y z h k. rank_below (length_before x.key) (length x.key) (length_before y.key) (length y.key) (length_before z.key) (length z.key) h k;
  above = λ x y z h k. rank_above (length_before x.key) (length x.key) (length_before y.key) (length y.key) (length_before z.key) (length z.key) h k;
}

-- the greatest so far with what is left
abbrev reduced : Option JsonPair → List JsonPair → Option JsonPair
reduced None [] = None
reduced None (pair ∷ rest) = Some (fold (better pair_beats) pair rest)
reduced (Some best) rest = Some (fold (better pair_beats) best rest)

took : (best : Option JsonPair) (pair : JsonPair) (rest : List JsonPair) → reduced (Some (greater_of best pair)) rest ≡ reduced best (pair ∷ rest)
took None pair rest = refl
took (Some best) pair rest = refl

match_step : (b : Bool) (best : Option JsonPair) (pair : JsonPair) (rest : List JsonPair) →
    reduced (cond b (Some (greater_of best pair)) best) rest ≡ reduced best (cond b (pair ∷ rest) rest)
match_step true best pair rest = took best pair rest
match_step false best pair rest = refl

fold_matches : (subpath : List ℕ) (best : Option JsonPair) (pairs : List JsonPair) → fold (better_of subpath) best pairs ≡ reduced best (matches_of subpath pairs)
fold_matches subpath None [] = refl
fold_matches subpath (Some best) [] = refl
fold_matches subpath best (pair ∷ rest) =
    fold_matches subpath (better_of subpath best pair) rest ∙ match_step (is_match subpath pair.key) best pair (matches_of subpath rest)

reduced_greatest : (pairs : List JsonPair) → reduced None pairs ≡ greatest pairs
reduced_greatest [] = refl
reduced_greatest (pair ∷ rest) = fold_top pair_beats pair_ranks pair rest

pub fold_greatest : (subpath : List ℕ) (pairs : List JsonPair) → fold (better_of subpath) None pairs ≡ greatest (matches_of subpath pairs)
fold_greatest subpath pairs = fold_matches subpath None pairs ∙ reduced_greatest (matches_of subpath pairs)

-- a member is taken where there is one
pub none_taken : (pairs : List JsonPair) → (greatest pairs ≡ None) ↔ (pairs ≡ [])
none_taken [] = (λ e. refl, λ e. refl)
none_taken (pair ∷ rest) = (λ e. let taken = reduced_greatest (pair ∷ rest) in cc, λ e. cc)
