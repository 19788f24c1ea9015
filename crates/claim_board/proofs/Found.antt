-- Lists of files with one member more.
use Rattle.std.proofs.Common.{◌≡◌, ◌≢◌, ◌⊎◌, ℕ, Bool, true, false, true≢false, cond, ◌&&◌, ◌||◌, ◌==◌, eq-eqb, ne_eqb, eqb-true, List, [], ◌∷◌, ◌++◌, refl, sym, ap, ◌∙◌, inl, inr, ⊎_elim}
use Rattle.std.specs.Prelude.{Option, Some, None}
use Rattle.std.specs.List.{list_any}
use Rattle.std.proofs.lemmas.List.Folds.{list_any-append}
use Rattle.claim_board.specs.Lists.{is_in, is_seen, record_in}

pub false≢true : false ≡ true → ⊥
false≢true e = true≢false (sym e)

pub or-cases : (a b : Bool) → (a || b) ≡ true → (a ≡ true) ⊎ (b ≡ true)
or-cases true b e = inl refl
or-cases false b e = inr e

or-false : (a : Bool) → (a || false) ≡ a
or-false true = refl
or-false false = refl

or-true : (a : Bool) → (a || true) ≡ true
or-true true = refl
or-true false = refl

pub and-both : (a b : Bool) → (a && b) ≡ true → (a ≡ true) × (b ≡ true)
and-both true b e = (refl, e)
and-both false b e = absurd (false≢true e)

module _ {X : Type 0} (test : X → Bool) (xs : List X) (x : X) where
  pub any-push : list_any test (xs ++ x ∷ []) ≡ (list_any test xs || test x)
  any-push = list_any-append test xs (x ∷ []) ∙ ap (λ (b : Bool). list_any test xs || b) (or-false (test x))

  pub any-miss : test x ≡ false → list_any test (xs ++ x ∷ []) ≡ list_any test xs
  any-miss e = any-push ∙ ap (λ (b : Bool). list_any test xs || b) e ∙ or-false (list_any test xs)

  pub any-hit : test x ≡ true → list_any test (xs ++ x ∷ []) ≡ true
  any-hit e = any-push ∙ ap (λ (b : Bool). list_any test xs || b) e ∙ or-true (list_any test xs)

  pub any-last : list_any test (xs ++ x ∷ []) ≡ true → (list_any test xs ≡ true) ⊎ (test x ≡ true)
  any-last e = or-cases (list_any test xs) (test x) (sym any-push ∙ e)

-- ---- files

pub other_file : (file other : ℕ) → other ≢ file → (file == other) ≡ false
other_file file other ne = ne_eqb file other (λ e. ne (sym e))

pub same_file : (file : ℕ) → (file == file) ≡ true
same_file file = eq-eqb file file refl

pub in_other : (file other : ℕ) (files : List ℕ) → other ≢ file → is_in other (files ++ file ∷ []) ≡ is_in other files
in_other file other files ne = any-miss (λ (k : ℕ). k == other) files file (other_file file other ne)

pub in_last : (file : ℕ) (files : List ℕ) → is_in file (files ++ file ∷ []) ≡ true
in_last file files = any-hit (λ (k : ℕ). k == file) files file (same_file file)

pub seen_other : (file owner other : ℕ) (p : ℕ) (pairs : List (ℕ × ℕ)) → other ≢ file → is_seen other p (pairs ++ (file, owner) ∷ []) ≡ is_seen other p pairs
seen_other file owner other p pairs ne = any-miss (λ (pair : ℕ × ℕ). (pair.0 == other) && (pair.1 == p)) pairs (file, owner) (ap (λ (b : Bool). b && (owner == p)) (other_file file other ne))

pub seen_last : (file owner p : ℕ) (pairs : List (ℕ × ℕ)) → is_seen file p (pairs ++ (file, owner) ∷ []) ≡ true → (is_seen file p pairs ≡ true) ⊎ (owner ≡ p)
seen_last file owner p pairs e = ⊎_elim
    (λ (old : is_seen file p pairs ≡ true). inl old)
    (λ (new : ((file == file) && (owner == p)) ≡ true). inr (eqb-true owner p (and-both (file == file) (owner == p) new).1))
    (any-last (λ (pair : ℕ × ℕ). (pair.0 == file) && (pair.1 == p)) pairs (file, owner) e)

module _ {T : Type 0} where
  pub record_other : (file other : ℕ) (rec : T) (pairs : List (ℕ × T)) → other ≢ file → record_in other (pairs ++ (file, rec) ∷ []) ≡ record_in other pairs
  record_other file other rec [] ne = ap (λ (b : Bool). cond b (Some rec) None) (other_file file other ne)
  record_other file other rec (x ∷ xs) ne = ap (λ (r : Option T). cond (x.0 == other) (Some x.1) r) (record_other file other rec xs ne)

  pub record_last : (file : ℕ) (rec : T) (pairs : List (ℕ × T)) → record_in file pairs ≡ None → record_in file (pairs ++ (file, rec) ∷ []) ≡ Some rec
  record_last file rec [] e = ap (λ (b : Bool). cond b (Some rec) None) (same_file file)
  record_last file rec (x ∷ xs) e = head (x.0 == file) e (record_last file rec xs)
    where
      head : (b : Bool) → cond b (Some x.1) (record_in file xs) ≡ None → (record_in file xs ≡ None → record_in file (xs ++ (file, rec) ∷ []) ≡ Some rec)
          → cond b (Some x.1) (record_in file (xs ++ (file, rec) ∷ [])) ≡ Some rec
      head true e next = absurd (cc)
      head false e next = next e
