-- Declarations that run into each other, and their parts.
use Rattle.std.proofs.Common.{◌≡◌, ◌≤◌, ◌<◌, ◌+◌, ◌-◌, ℕ, suc, zero, Bool, true, false, not, cond, List, [], ◌∷◌, ◌++◌, take, drop, map, length, refl, sym, ap, ◌∙◌, arith, None, Some, length-drop, length-append, inl, inr, ◌⊎◌}
use Rattle.std.specs.Prelude.{nat_lt, ◌&&◌}
use Rattle.std.specs.List.{list_all, slice_split, onto_first}
use Rattle.std.proofs.lemmas.List.{drop-append-le, drop_all, drop-drop, drop-map, take_all}
use Rattle.std.specs.Borrow.{Bor}
use Rattle.std.proofs.lemmas.List.Folds.{list_all-append, list_all-map}
use Rattle.std.proofs.lemmas.Simd.{map-map}
use borrow.Author.Tests.{tests}
use Rattle.es_tokens.specs.declared.token.Token.{Token}
use Rattle.form_shapes.specs.Declaration.{AreNamedFrom, IsDeclaration, is_named}
use Rattle.form_shapes.specs.Parts.{front, tails, long_ones}
use Rattle.form_shapes.specs.declared.declaration.Declaration.{Declaration}
use Rattle.form_shapes.specs.Variables.{behind_variables, first_text, begins_with_name, declaration, declarators, ends_between, length_from, separates}

-- one more token counted before is one more in all
shifted : (text : List ℕ) (count : ℕ) (before : Token) (tokens : List Token)
    → length_from text (suc count) before tokens ≡ suc (length_from text count before tokens)
shifted text count before [] = refl
shifted text count before (token ∷ tokens) =
    let e : suc count + 1 ≡ suc (count + 1) = omega arith in
    by (ends_between text before token) (ap (λ n. length_from text n token tokens) e ∙ shifted text (count + 1) token tokens)
  where
    by : (b : Bool) → length_from text (suc count + 1) token tokens ≡ suc (length_from text (count + 1) token tokens)
        → cond b (suc count) (length_from text (suc count + 1) token tokens) ≡ suc (cond b count (length_from text (count + 1) token tokens))
    by true more = refl
    by false more = more

-- a declaration that doesn't end behind its first token goes on as the one that begins at the next
goes_on : (text : List ℕ) (k : ℕ) (first next : Token) (tokens : List Token) (b : Bool)
    → suc k < length (first ∷ take (cond b 0 (length_from text (0 + 1) next tokens)) (next ∷ tokens))
    → (b ≡ false) × (first ∷ take (cond b 0 (length_from text (0 + 1) next tokens)) (next ∷ tokens) ≡ first ∷ declaration text (next ∷ tokens))
goes_on text k first next tokens true within = absurd (omega arith)
goes_on text k first next tokens false within =
    (refl, ap (λ n. first ∷ take n (next ∷ tokens)) (shifted text 0 next tokens))

-- from a later one of its tokens a declaration is what is left of it
pub declaration_ahead : (text : List ℕ) (k : ℕ) (tokens : List Token) → k < length (declaration text tokens)
    → declaration text (drop k tokens) ≡ drop k (declaration text tokens)
declaration_ahead text zero tokens within = refl
declaration_ahead text (suc k) [] within = absurd (omega arith)
declaration_ahead text (suc k) (first ∷ []) within = absurd (omega arith)
declaration_ahead text (suc k) (first ∷ next ∷ tokens) within =
    let on : first ∷ take (cond (ends_between text first next) 0 (length_from text (0 + 1) next tokens)) (next ∷ tokens) ≡ first ∷ declaration text (next ∷ tokens)
    = (goes_on text k first next tokens (ends_between text first next) within).1 in
    let inside : k < length (declaration text (next ∷ tokens)) = omega (arith, within, ap length on) in
    declaration_ahead text k (next ∷ tokens) inside ∙ ap (drop (suc k)) (sym on)

module _ {X : Type 0} (p : X → Bool) where
  -- all that stands behind separators is shorter than the whole
  pub no_longer : (size : ℕ) (xs : List X) → length xs ≤ size → long_ones size (tails p xs) ≡ 0
  no_longer size [] within = refl
  no_longer size (x ∷ xs) within = by (p x) (no_longer size xs (omega arith))
    where
      by : (b : Bool) → long_ones size (tails p xs) ≡ 0 → long_ones size (cond b (xs ∷ tails p xs) (tails p xs)) ≡ 0
      by true none = let e : nat_lt (length xs) size ≡ true = grind (arith, tests) in rw e refl
      by false none = none

  -- what stands behind the separators that are left
  pub tails_ahead : (k : ℕ) (xs : List X) → drop (long_ones (length (drop k xs)) (tails p xs)) (tails p xs) ≡ tails p (drop k xs)
  tails_ahead zero xs = rw (no_longer (length xs) xs (omega arith)) refl
  tails_ahead (suc k) [] = refl
  tails_ahead (suc k) (x ∷ xs) = by (p x) (tails_ahead k xs)
    where
      by : (b : Bool) → drop (long_ones (length (drop k xs)) (tails p xs)) (tails p xs) ≡ tails p (drop k xs)
          → drop (long_ones (length (drop k xs)) (cond b (xs ∷ tails p xs) (tails p xs))) (cond b (xs ∷ tails p xs) (tails p xs)) ≡ tails p (drop k xs)
      by true left =
          let e : nat_lt (length xs) (length (drop k xs)) ≡ false = grind (arith, tests, length-drop k xs) in
          rw e left
      by false left = left

  -- the parts are the fronts of the whole and of what stands behind each separator
  pub fronts : (xs : List X) → slice_split p xs ≡ map (front p) (xs ∷ tails p xs)
  fronts [] = refl
  fronts (x ∷ xs) = by (p x) (fronts xs)
    where
      by : (b : Bool) → slice_split p xs ≡ map (front p) (xs ∷ tails p xs) → cond b ([] ∷ slice_split p xs) (onto_first x (slice_split p xs))
          ≡ cond b [] (x ∷ front p xs) ∷ map (front p) (cond b (xs ∷ tails p xs) (tails p xs))
      by true e = ap (λ parts. [] ∷ parts) e
      by false e = ap (onto_first x) e

-- one list more
pub named_more : (text : List ℕ) (lists : List (List Token)) (tail : List Token) (from : ℕ) → AreNamedFrom text lists from
    → AreNamedFrom text (lists ++ tail ∷ []) (cond (is_named text tail) from (length lists + 1))
named_more text lists tail from held = record { all = λ k. by k (split k (length lists)) (is_named text tail) refl }
  where
    split : (k n : ℕ) → (k ≤ n) ⊎ (n < k)
    split k n = grind arith

    at_end : nat_lt (length lists) from ≡ false
    at_end = ends (nat_lt (length lists) from) (sym (held.all (length lists)) ∙ ap (list_all (is_named text)) (gone lists))
      where
        gone : {X : Type 0} (xs : List X) → drop (length xs) xs ≡ []
        gone [] = refl
        gone (x ∷ xs) = gone xs

        ends : (b : Bool) → not b ≡ true → b ≡ false
        ends true e = absurd (cc)
        ends false e = refl

    by : (k : ℕ) → (k ≤ length lists) ⊎ (length lists < k) → (b : Bool) → is_named text tail ≡ b
        → list_all (is_named text) (drop k (lists ++ tail ∷ [])) ≡ not (nat_lt k (cond b from (length lists + 1)))
    by k (inl within) b e =
        ap (list_all (is_named text)) (drop-append-le k lists (tail ∷ []) within)
        ∙ list_all-append (is_named text) (drop k lists) (tail ∷ [])
        ∙ ap (λ known. known && (is_named text tail && true)) (held.all k) ∙ ends b e
      where
        ends : (b : Bool) → is_named text tail ≡ b → (not (nat_lt k from) && (is_named text tail && true)) ≡ not (nat_lt k (cond b from (length lists + 1)))
        ends true e = rw e (same (not (nat_lt k from)))
          where
            same : (c : Bool) → (c && true) ≡ c
            same true = refl
            same false = refl
        ends false e = let l : nat_lt k (length lists + 1) ≡ true = grind (arith, tests) in rw (e, l) (none (not (nat_lt k from)))
          where
            none : (c : Bool) → (c && false) ≡ false
            none true = refl
            none false = refl
    by k (inr behind) b e =
        let short : length (lists ++ tail ∷ []) ≤ k = omega (arith, length-append lists (tail ∷ [])) in
        ap (list_all (is_named text)) (drop_all k (lists ++ tail ∷ []) short) ∙ ends b
      where
        ends : (b : Bool) → true ≡ not (nat_lt k (cond b from (length lists + 1)))
        ends true = let l : nat_lt k from ≡ false = grind (arith, tests, at_end) in rw l refl
        ends false = let l : nat_lt k (length lists + 1) ≡ false = grind (arith, tests) in rw l refl

-- whether all declarators have names
pub all_named : (text : List ℕ) (tokens : List Token)
    → list_all (begins_with_name text) (slice_split (separates text) tokens) ≡ (is_named text tokens && list_all (is_named text) (tails (separates text) tokens))
all_named text tokens =
    ap (list_all (begins_with_name text)) (fronts (separates text) tokens)
    ∙ list_all-map (begins_with_name text) (front (separates text)) (tokens ∷ tails (separates text) tokens)

-- what is known at a later token of a declaration
pub known_ahead : (text : List ℕ) (tokens : List Token) (known : Declaration) (at : ℕ) (rest : Bor (List Token)) (count : ℕ)
    → IsDeclaration text tokens known → known.at ≤ at → at < known.end
    → rest.now ≡ drop (at - known.at) known.rest.now
    → count ≡ long_ones (length rest.now) (map (λ tail. tail.now) (drop known.first known.tails.items))
    → IsDeclaration text tokens
    (record { at = at; end = known.end; rest = rest; tails = known.tails; first = known.first + count; named = known.named })
known_ahead text tokens known at rest count held behind within cut counted =
    let short : length rest.now ≡ length known.rest.now - (at - known.at) = ap length cut ∙ length-drop (at - known.at) known.rest.now in
    let far : known.end ≡ at + length rest.now = omega (arith, held.end, short) in
    let inside : at - known.at < length (declaration text (drop known.at tokens)) = omega (arith, held.end, ap length held.rest) in
    let place : known.at + (at - known.at) ≡ at = omega arith in
    record {
      rest = cut ∙ ap (drop (at - known.at)) held.rest ∙ sym (declaration_ahead text (at - known.at) (drop known.at tokens) inside)
          ∙ ap (declaration text) (drop-drop (at - known.at) known.at tokens ∙ ap (λ n. drop n tokens) place);
      end = far;
      tails = tails_left;
      named = held.named;
    }
  where
    tails_left : drop (known.first + count) (map (λ tail. tail.now) known.tails.items) ≡ tails (separates text) rest.now
    tails_left =
        let lists : List (List Token) = map (λ tail. tail.now) known.tails.items in
        let same : count ≡ long_ones (length (drop (at - known.at) known.rest.now)) (tails (separates text) known.rest.now)
        = counted ∙ ap (λ some. long_ones (length rest.now) some) (sym (drop-map (λ tail. tail.now) known.first known.tails.items) ∙ held.tails)
        ∙ ap (λ some. long_ones (length some) (tails (separates text) known.rest.now)) cut in
        sym (drop-drop count known.first lists) ∙ ap (drop count) held.tails
        ∙ ap (λ n. drop n (tails (separates text) known.rest.now)) same
        ∙ tails_ahead (separates text) (at - known.at) known.rest.now ∙ ap (tails (separates text)) (sym cut)

-- whether the whole declaration may stand there, and the names that it declares
pub behind_known : (text : List ℕ) (tokens : List Token) (known : Declaration) → IsDeclaration text tokens known
    → behind_variables text tokens known.at
    ≡ cond (is_named text known.rest.now && not (nat_lt known.first known.named)) (Some known.end) None
behind_known text tokens known held =
    let all : list_all (begins_with_name text) (declarators text tokens known.at) ≡ (is_named text known.rest.now && not (nat_lt known.first known.named))
    = ap (λ rest. list_all (begins_with_name text) (slice_split (separates text) rest)) (sym held.rest) ∙ all_named text known.rest.now
    ∙ ap (λ lists. is_named text known.rest.now && list_all (is_named text) lists) (sym held.tails)
    ∙ ap (λ b. is_named text known.rest.now && b) (held.named.all known.first) in
    let end : known.at + length (declaration text (drop known.at tokens)) ≡ known.end = ap (λ rest. known.at + length rest) (sym held.rest) ∙ sym held.end in
    rw (all, end) refl

names_known : (text : List ℕ) (tokens : List Token) (known : Declaration) → IsDeclaration text tokens known
    → map (first_text text) (declarators text tokens known.at)
    ≡ map (λ tail. first_text text (front (separates text) tail)) (known.rest.now ∷ map (λ tail. tail.now) (drop known.first known.tails.items))
names_known text tokens known held =
    ap (λ rest. map (first_text text) (slice_split (separates text) rest)) (sym held.rest)
    ∙ ap (map (first_text text)) (fronts (separates text) known.rest.now)
    ∙ map-map (first_text text) (front (separates text)) (known.rest.now ∷ tails (separates text) known.rest.now)
    ∙ ap (λ lists. map (λ tail. first_text text (front (separates text) tail)) (known.rest.now ∷ lists))
    (sym held.tails ∙ drop-map (λ tail. tail.now) known.first known.tails.items)

-- once all names are read
pub names_end : (text : List ℕ) (tokens : List Token) (known : Declaration) (items : List (Bor (List Token))) (n : ℕ)
    → IsDeclaration text tokens known → items ≡ drop known.first known.tails.items → length items ≤ n
    → map (λ tail. first_text text (front (separates text) tail)) (known.rest.now ∷ map (λ tail. tail.now) (take n items))
    ≡ map (first_text text) (declarators text tokens known.at)
names_end text tokens known items n held same short =
    ap (λ some. map (λ tail. first_text text (front (separates text) tail)) (known.rest.now ∷ map (λ tail. tail.now) some))
    (take_all n items short ∙ same)
    ∙ sym (names_known text tokens known held)
