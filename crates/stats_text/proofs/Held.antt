-- The places of a row that are true, and how many there may be.
use Rattle.std.proofs.Common.{◌≡◌, ℕ, ◌+◌, ◌-◌, ◌<◌, ◌≤◌, zero, suc, Bool, true, false, cond, List, [], ◌∷◌, ◌++◌, map, length, ap, sym, inl, inr, ◌∙◌, append-nil, arith}
use Rattle.std.specs.List.{All, filter, range_with_len}
use Rattle.std.proofs.lemmas.Bool.{cases_lt, cond-true, cond-false, false≢true}
use Rattle.std.proofs.lemmas.List.{map-append, map-id, length-map, get_or_past}
use Rattle.std.proofs.lemmas.List.Elements.{filter-append, All-filter, All-map}
use Rattle.std.proofs.lemmas.List.Sums.{count_by-le-length, length-filter}
use Rattle.std.proofs.lemmas.List.FromFn.{map-range_with_len_more, get_or-range_with_len, length-range_with_len}
use Rattle.bit_rows.specs.Places.{NoneTrue, IsNext}
use Rattle.chunk_graph.specs.Chunks.{is_in}
use Rattle.graph_types.specs.Modules.{module_no}

pub below_end : (row : List Bool) (i : ℕ) → is_in row i ≡ true → i < length row
below_end row i h = elim (cases_lt i (length row)) [ inl lt ↦ lt | inr ge ↦ absurd (false≢true (sym (get_or_past row i false ge) ∙ h)) ]

pub range-more : (n : ℕ) → range_with_len 0 (n + 1) ≡ range_with_len 0 n ++ n ∷ []
range-more n = sym (map-id (range_with_len 0 (n + 1))) ∙ map-range_with_len_more (λ k. k) 0 n n (omega arith) ∙ ap (λ front. front ++ n ∷ []) (map-id (range_with_len 0 n))

filter-more : (p : ℕ → Bool) (n : ℕ) → filter p (range_with_len 0 (n + 1)) ≡ filter p (range_with_len 0 n) ++ cond (p n) (n ∷ []) []
filter-more p n = ap (filter p) (range-more n) ∙ filter-append p (range_with_len 0 n) (n ∷ [])

filter-none : (p : ℕ → Bool) (low more : ℕ) → ((k : ℕ) → low ≤ k → k < low + more → p k ≡ false) → filter p (range_with_len 0 (low + more)) ≡ filter p (range_with_len 0 low)
filter-none p low zero none = let e : low + 0 ≡ low = omega arith in ap (λ n. filter p (range_with_len 0 n)) e
filter-none p low (suc more) none =
    let e : low + suc more ≡ low + more + 1 = omega arith in
    let front = filter p (range_with_len 0 (low + more)) in
    ap (λ n. filter p (range_with_len 0 n)) e ∙ filter-more p (low + more)
    ∙ ap (λ last. front ++ last) (cond-false (p (low + more)) ((low + more) ∷ []) [] (none (low + more) (omega arith) (omega arith)))
    ∙ append-nil front ∙ filter-none p low more (λ k l h. none k l (omega arith))

none_up_to : (row : List Bool) (low high : ℕ) → low ≤ high → NoneTrue row low high → filter (is_in row) (range_with_len 0 high) ≡ filter (is_in row) (range_with_len 0 low)
none_up_to row low high le none =
    let e : high ≡ low + (high - low) = omega arith in
    ap (λ n. filter (is_in row) (range_with_len 0 n)) e ∙ filter-none (is_in row) low (high - low) (λ k l h. none k l (omega arith))

-- one more place, with none between
pub next-held : (row : List Bool) (low place : ℕ) → IsNext row low place
    → map module_no (filter (is_in row) (range_with_len 0 (place + 1))) ≡ map module_no (filter (is_in row) (range_with_len 0 low)) ++ module_no place ∷ []
next-held row low place next =
    let front = filter (is_in row) (range_with_len 0 low) in
    ap (map module_no) (filter-more (is_in row) place
    ∙ ap (λ last. filter (is_in row) (range_with_len 0 place) ++ last) (cond-true (is_in row place) (place ∷ []) [] next.is_true)
    ∙ ap (λ first. first ++ place ∷ []) (none_up_to row low place next.not_below next.least))
    ∙ map-append module_no front (place ∷ [])

pub no-more-held : (row : List Bool) (low : ℕ) → low ≤ length row → NoneTrue row low (length row)
    → map module_no (filter (is_in row) (range_with_len 0 low)) ≡ map module_no (filter (is_in row) (range_with_len 0 (length row)))
no-more-held row low le none = ap (map module_no) (sym (none_up_to row low (length row) le none))

-- there are no more modules than places
pub few-held : (row : List Bool) → length (map module_no (filter (is_in row) (range_with_len 0 (length row)))) ≤ length row
few-held row =
    let places = range_with_len 0 (length row) in
    omega (arith, length-map (filter (is_in row) places) module_no, length-filter (is_in row) places, count_by-le-length (is_in row) places, length-range_with_len 0 (length row))

-- each is one of the places
pub held-within : (row : List Bool) → All (λ m. m.0 < length row) (map module_no (filter (is_in row) (range_with_len 0 (length row))))
held-within row =
    let n = length row in
    let places = range_with_len 0 n in
    All-map (λ m. m.0 < n) module_no (filter (is_in row) places)
    (All-filter (is_in row) (λ k. k < n) places (λ i d lt. omega (arith, get_or-range_with_len 0 n i d (omega (arith, lt, length-range_with_len 0 n)), lt, length-range_with_len 0 n)))
