-- What a closed board tells.
use Rattle.std.proofs.Common.{◌≡◌, ◌≢◌, ℕ, zero, suc, ◌+◌, ◌<◌, ◌≤◌, Bool, true, false, List, [], ◌∷◌, ◌++◌, length, take, get_or, refl, sym, ap, subst, ◌∙◌, arith, get_or-set_same, get_or-set_other}
use Rattle.std.specs.Prelude.{Option, slice_set}
use mathlib.Core.Option.{some, some-injective, some-ne-none}
use lib.ListN.{get_elem?}
use Rattle.atomic_table.proofs.Lists.{at_longer, at_last}
use Rattle.claim_board.specs.Shown.{owner_shown}

-- ---- lists that grow

pub length_push : {X : Type 0} (xs : List X) (x : X) → length (xs ++ x ∷ []) ≡ length xs + 1
length_push [] x = refl
length_push (y ∷ ys) x = let h : length (ys ++ x ∷ []) ≡ length ys + 1 = length_push ys x in omega arith

pub owners_push : (words : List ℕ) (owners now : List (Option ℕ)) (count word : ℕ) → length owners ≡ count
    → ((file w : ℕ) → file < count → get_elem? words (file + 1) ≡ some w → get_elem? owners file ≡ some (owner_shown w))
    → get_elem? words (count + 1) ≡ some word → now ≡ owners ++ owner_shown word ∷ []
    → (file w : ℕ) → file < count + 1 → get_elem? words (file + 1) ≡ some w → get_elem? now file ≡ some (owner_shown w)
owners_push words owners now count word len before at is file w below there = subst (λ (l : List (Option ℕ)). get_elem? l file ≡ some (owner_shown w)) (sym is) (each (native.Mathlib.Decide.ℕ_discrete file count))
  where
    each : Dec (file ≡ count) → get_elem? (owners ++ owner_shown word ∷ []) file ≡ some (owner_shown w)
    each (yes e) =
        let same : word ≡ w = some-injective word w (sym at ∙ ap (λ (k : ℕ). get_elem? words (k + 1)) (sym e) ∙ there) in
        at_last owners (owner_shown word) file (len ∙ sym e) ∙ ap (λ (k : ℕ). some (owner_shown k)) same
    each (no ne) = at_longer owners (owner_shown word ∷ []) file (owner_shown w) (before file w (omega arith) there)

pub emptied : (filled now : List Bool) (count : ℕ) → now ≡ slice_set filled count false → count < length filled
    → ((file : ℕ) → file < count → get_or filled file false ≡ false) → (file : ℕ) → file < count + 1 → get_or now file false ≡ false
emptied filled now count is wide before file below = ap (λ (l : List Bool). get_or l file false) is ∙ each (native.Mathlib.Decide.ℕ_discrete file count)
  where
    each : Dec (file ≡ count) → get_or (slice_set filled count false) file false ≡ false
    each (yes e) = ap (λ (k : ℕ). get_or (slice_set filled count false) k false) e ∙ get_or-set_same filled count false false wide
    each (no ne) = get_or-set_other filled count file false false ne ∙ before file (omega arith)

pub still_full : (filled now : List Bool) (count files : ℕ) → now ≡ slice_set filled count false
    → ((file : ℕ) → count ≤ file → file < files → get_or filled file false ≡ true) → (file : ℕ) → count + 1 ≤ file → file < files → get_or now file false ≡ true
still_full filled now count files is before file above below =
    let ne : file ≢ count = λ (e : file ≡ count). omega arith in
    ap (λ (l : List Bool). get_or l file false) is ∙ get_or-set_other filled count file false false ne ∙ before file (omega arith) below

pub take_push : {X : Type 0} (xs : List X) (k : ℕ) (x : X) → get_elem? xs k ≡ some x → take (k + 1) xs ≡ take k xs ++ x ∷ []
take_push xs k x e = ap (λ (n : ℕ). take n xs) one ∙ grown xs k x e
  where
    one : k + 1 ≡ suc k
    one = omega arith

    grown : {X : Type 0} (xs : List X) (k : ℕ) (x : X) → get_elem? xs k ≡ some x → take (suc k) xs ≡ take k xs ++ x ∷ []
    grown [] k x e = absurd (some-ne-none x (sym e))
    grown (y ∷ ys) zero x e = λ i. some-injective y x e i ∷ []
    grown (y ∷ ys) (suc k) x e = λ i. y ∷ grown ys k x e i

pub take_all : {X : Type 0} (xs : List X) (n : ℕ) → length xs ≤ n → take n xs ≡ xs
take_all [] zero h = refl
take_all [] (suc n) h = refl
take_all (x ∷ xs) zero h = absurd (omega arith)
take_all (x ∷ xs) (suc n) h = λ i. x ∷ take_all xs n (omega arith) i
