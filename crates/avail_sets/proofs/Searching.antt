-- One more layer, and where the search ends.
use Rattle.std.proofs.Common.{◌≡◌, ℕ, zero, suc, ◌+◌, ◌-◌, ◌<◌, ◌≤◌, inl, inr, Bool, true, false, not, ◌&&◌, cond, List, [], ◌∷◌, ◌++◌, length, get_or, sym, ap, subst, ◌∙◌, arith}
use Rattle.std.specs.Prelude.{IsTrue, Option, Some, None, is_some, MatchOption}
use Rattle.std.proofs.lemmas.Bool.{cases_lt, cases_Bool, false≢true, true≢false}
use Rattle.std.proofs.lemmas.List.{get_or_default, length_push}
use Rattle.std.proofs.lemmas.List.Sums.{sum_by-cons}
use Rattle.std.proofs.lemmas.Simd.{length-zip2}
use Rattle.std.proofs.Math.ListN.{get_or-append}
use Rattle.std.proofs.Math.Seq.{get_or-append_seam}
use Rattle.bit_rows.specs.Places.{meet, minus, IsNext, NoneTrue}
use Rattle.bit_rows.specs.Table.{Table}
use Rattle.chunk_groups.specs.Net.{Net}
use Rattle.chunk_groups.specs.Rows.{bit, bit_in}
use Rattle.chunk_groups.proofs.Marks.{bit-within}
use Rattle.avail_sets.specs.inner.Falling.{AreOpened, SaysWhich, trues}
use Rattle.avail_sets.specs.inner.Layers.{AreEven, AreLayers, HasPath, IsFirst, IsNextLayer}
use Rattle.avail_sets.proofs.Commons.{both-true, true-both, none-both}
use Rattle.avail_sets.proofs.Layered.{layers-more, no-entry-way}

pub last-is : (layers : List (List Bool)) (last : List Bool) (k : ℕ) → k ≡ length layers - 1 → 0 < length layers → last ≡ get_or layers k last → last ≡ get_or layers (length layers - 1) []
last-is layers last k e some is = is ∙ get_or_default layers k last [] (omega arith) ∙ ap (λ i. get_or layers i []) e

-- by what `is_none` answers
pub next-none : (P : Type 0) (Q : ℕ → Type 0) (found : Option ℕ) (test : Bool) → is_some found ≡ not test → test ≡ true → MatchOption found P Q → P
next-none P Q None test is holds all = all
next-none P Q (Some k) test is holds all = absurd (true≢false (is ∙ ap not holds))

pub next-some : (P : Type 0) (Q : ℕ → Type 0) (found : Option ℕ) (test : Bool) → is_some found ≡ not test → test ≡ false → MatchOption found P Q → (k : ℕ) × Q k
next-some P Q None test is fails all = absurd (false≢true (is ∙ ap not fails))
next-some P Q (Some k) test is fails all = (k, all)

tally : (x : Bool) (xs : List Bool) → trues (x ∷ xs) ≡ cond {A = ℕ} x 1 0 + trues xs
tally x xs = sum_by-cons (λ b. cond {A = ℕ} b 1 0) x xs

minus-no-more : (xs ys : List Bool) → trues (minus xs ys) ≤ trues xs
minus-no-more [] ys = omega arith
minus-no-more (x ∷ xs) [] = omega arith
minus-no-more (true ∷ xs) (true ∷ ys) = omega (arith, minus-no-more xs ys, tally true xs, tally false (minus xs ys))
minus-no-more (true ∷ xs) (false ∷ ys) = omega (arith, minus-no-more xs ys, tally true xs, tally true (minus xs ys))
minus-no-more (false ∷ xs) (y ∷ ys) = omega (arith, minus-no-more xs ys, tally false xs, tally false (minus xs ys))

-- what takes a true place away leaves fewer
pub minus-fewer : (xs ys : List Bool) (k : ℕ) → IsTrue (bit xs k) → IsTrue (bit ys k) → trues (minus xs ys) < trues xs
minus-fewer [] ys k a b = absurd (false≢true a)
minus-fewer (x ∷ xs) [] k a b = absurd (false≢true b)
minus-fewer (true ∷ xs) (true ∷ ys) k a b = omega (arith, minus-no-more xs ys, tally true xs, tally false (minus xs ys))
minus-fewer (true ∷ xs) (false ∷ ys) zero a b = absurd (false≢true b)
minus-fewer (true ∷ xs) (false ∷ ys) (suc k) a b = omega (arith, minus-fewer xs ys k a b, tally true xs, tally true (minus xs ys))
minus-fewer (false ∷ xs) (y ∷ ys) zero a b = absurd (false≢true a)
minus-fewer (false ∷ xs) (y ∷ ys) (suc k) a b = omega (arith, minus-fewer xs ys k a b, tally false xs, tally false (minus xs ys))

pub even-more : (opened : Table) (entries left next : List Bool) (layers : List (List Bool)) → AreEven opened entries left layers → length next ≡ length left → AreEven opened entries (minus left next) (layers ++ next ∷ [])
even-more opened entries left next layers sized long =
    let same : length (minus left next) ≡ length left = length-zip2 (λ x y. x && not y) left next (sym long) in
    let count = length_push layers next in
    record {
      some = omega (arith, count);
      opened_rows = sized.opened_rows ∙ sym same;
      opened_width = sized.opened_width ∙ sym same;
      entries_len = sized.entries_len ∙ sym same;
      layers_len = λ i l. elim (cases_lt i (length layers)) [
        | inl low ↦ ap length (get_or-append layers (next ∷ []) [] i low) ∙ sized.layers_len i low ∙ sym same
        | inr high ↦ let e : i ≡ length layers = omega (arith, count) in rw e (ap length (get_or-append_seam layers next [] []) ∙ long ∙ sym same)
      ];
    }

module _ (net : Net) (g m : ℕ) (opened : Table) (entries left last : List Bool) (layers : List (List Bool)) (are : AreOpened net opened.rows) (count : length entries ≡ net.groups)
    (which : SaysWhich (λ p. IsTrue (net.is_entry p)) entries net.groups) (a : AreLayers net g m layers left) (is_last : last ≡ get_or layers (length layers - 1) []) (even : length last ≡ length entries) where
  back : (p : ℕ) → IsTrue (bit_in layers (length layers - 1) p) → IsTrue (bit last p)
  back p is = subst (λ (r : List Bool). IsTrue (bit r p)) (sym is_last) is

  pub first-found : (first : ℕ) → IsNext (meet last entries) 0 first → ((l : List Bool) × AreLayers net g m layers l) × IsFirst net layers first
  first-found first next =
      let both = both-true last entries even first next.is_true in (
        (left, a),
        record {
          in_last = subst (λ (r : List Bool). IsTrue (bit r first)) is_last both.0;
          is_entry = (which.says first (omega (arith, bit-within entries first both.1, count))).0 both.1;
          least = λ p is is_entry.
              let there : IsTrue (bit last p) = back p is in
              let within : p < net.groups = omega (arith, bit-within last p there, even, count) in
              elim (cases_lt p first) [
                | inr high ↦ high
                | inl low ↦ absurd (true≢false (sym (true-both last entries even p there ((which.says p within).1 is_entry)) ∙ next.least p (omega arith) low))
              ];
        },
      )

  no-entry : NoneTrue (meet last entries) 0 (length last) → (p : ℕ) → IsTrue (bit_in layers (length layers - 1) p) → net.is_entry p ≡ false
  no-entry none p is =
      let there : IsTrue (bit last p) = back p is in
      let within : p < net.groups = omega (arith, bit-within last p there, even, count) in
      elim (cases_Bool (net.is_entry p)) [
        | inr lazy ↦ lazy
        | inl is_entry ↦ absurd (none-both last entries even none p there ((which.says p within).1 is_entry))
      ]

  module _ (next : List Bool) (long : length next ≡ length left) (says : SaysWhich (λ p. IsTrue (bit left p) × ((q : ℕ) × IsTrue (bit last q) × IsTrue (bit_in opened.rows p q))) next (length left)) where
    next-is : IsNextLayer net left (get_or layers (length layers - 1) []) next
    next-is = record {
      len = long ∙ a.places;
      sound = λ p is.
          let (waits, (q, inside, leads)) = (says.says p (omega (arith, bit-within next p is, long))).0 is in
          (waits, (q, subst (λ (r : List Bool). IsTrue (bit r q)) is_last inside, (are p q).0 leads));
      complete = λ p q waits inside opens. (says.says p (bit-within left p waits)).1 (waits, (q, back q inside, (are p q).1 opens));
    }

    pub more-layers : NoneTrue (meet last entries) 0 (length last) → AreLayers net g m (layers ++ next ∷ []) (minus left next)
    more-layers none = layers-more net g m layers left a next next-is (no-entry none)

    pub none-found : NoneTrue (meet last entries) 0 (length last) → NoneTrue next 0 (length next) → (p steps : ℕ) → IsTrue (net.is_entry p) → HasPath net g m p steps → ⊥
    none-found none empty = no-entry-way net g m layers left a next next-is (no-entry none) (λ p is. true≢false (sym is ∙ empty p (omega arith) (bit-within next p is)))
