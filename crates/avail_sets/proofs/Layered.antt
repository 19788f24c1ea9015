-- What the layers keep, and what they say in the end.
use Rattle.std.proofs.Common.{◌≡◌, ℕ, zero, suc, ◌+◌, ◌-◌, ◌<◌, ◌≤◌, ◌⊎◌, inl, inr, Bool, true, false, not, ◌&&◌, List, [], ◌∷◌, ◌++◌, length, get_or, set, refl, sym, ap, subst, ◌∙◌, arith}
use Rattle.std.specs.Prelude.{◌↔◌, IsTrue}
use Rattle.std.proofs.lemmas.Bool.{cases_lt, cases_eq, cases_Bool, true≢false}
use Rattle.std.proofs.lemmas.List.{length_push, length-set, length-replicate, get_or-set_same, get_or_past}
use Rattle.std.proofs.Math.ListN.{get_or-append}
use Rattle.std.proofs.Math.Seq.{get_or-append_seam}
use Rattle.std.proofs.lemmas.Simd.{length-zip2, get_or-zip2}
use Rattle.bit_rows.specs.Places.{minus}
use Rattle.bit_rows.specs.Table.{blank}
use Rattle.chunk_groups.specs.Net.{Net, Reaches}
use Rattle.chunk_groups.specs.Rows.{bit, bit_in}
use Rattle.chunk_groups.specs.Serving.{Opens}
use Rattle.chunk_groups.proofs.Marks.{bit-within, bit-set_cases, blank-bit}
use Rattle.avail_sets.specs.inner.Layers.{IsPath, HasPath, NoneShorter, AreLayers, IsNextLayer, IsFirst, IsBest}
use Rattle.avail_sets.specs.Reasons.{IsLeastReason, IsNotGreater, IsNotAfter}
use Rattle.avail_sets.proofs.Bits.{and-left, and-right, and-both}
use Rattle.avail_sets.proofs.Paths.{path-reason, reason-way}

pub bit-minus : (xs ys : List Bool) (k : ℕ) → length xs ≡ length ys → bit (minus xs ys) k ≡ (bit xs k && not (bit ys k))
bit-minus xs ys k e = elim (cases_lt k (length xs)) [
  | inl l ↦ get_or-zip2 (λ x y. x && not y) xs ys k false false false l (omega arith)
  | inr g ↦
      let none : bit xs k ≡ false = get_or_past xs k false g in
      get_or_past (minus xs ys) k false (omega (arith, length-zip2 (λ x y. x && not y) xs ys e)) ∙ sym (ap (λ b. b && not (bit ys k)) none)
]

not-false : (b : Bool) → b ≡ false → IsTrue (not b)
not-false true e = absurd (true≢false e)
not-false false e = refl

not-true : (b : Bool) → IsTrue (not b) → b ≡ false
not-true true e = sym e
not-true false e = refl

module _ (net : Net) (g m : ℕ) where
  one-step : (p q k : ℕ) → Opens net p q → (Reaches net p m → ⊥) → HasPath net g m q k → HasPath net g m p (k + 1)
  one-step p q k opens not (rest, path, long) = (q ∷ rest, (opens, not, path), omega arith)

  pub first-layer : (left : List Bool) → g < net.groups → Reaches net g m → length left ≡ net.groups → ((p : ℕ) → p < net.groups → IsTrue (bit left p) ↔ (Reaches net p m → ⊥))
      → AreLayers net g m (set (blank net.groups) g true ∷ []) left
  first-layer left within reaches places lacks =
      let row = set (blank net.groups) g true in
      let wide : length (blank net.groups) ≡ net.groups = length-replicate net.groups false in
      let here : (i p : ℕ) → i < 1 → IsTrue (bit_in (row ∷ []) i p) → p ≡ g = λ i p l is.
      let first : i ≡ 0 = omega arith in
      elim (bit-set_cases (blank net.groups) g p (subst (λ (k : ℕ). IsTrue (bit_in (row ∷ []) k p)) first is)) [ inl before ↦ absurd (blank-bit net.groups p before) | inr e ↦ e ] in
      record {
        some = omega arith;
        even = λ i l. let first : i ≡ 0 = omega arith in rw first (length-set (blank net.groups) g true ∙ wide);
        places = places;
        sound = λ i p l is. let first : i ≡ 0 = omega arith in (([], here i p l is, sym first), λ k less. absurd (omega arith));
        complete = λ i p l path none. let first : i ≡ 0 = omega arith in rw first (at-goal row i p first path (get_or-set_same (blank net.groups) g true false (omega (arith, wide))));
        remains = λ p is.
            let not = (lacks p (omega (arith, bit-within left p is, places))).0 is in
            (not, λ k less path. none-at-goal p k less not reaches path);
        covers = λ p inside not gone. absurd (true≢false (sym ((lacks p inside).1 not) ∙ gone));
        no_entry = λ i p l is. absurd (omega arith);
      }
    where
      at-goal : (row : List Bool) (i p : ℕ) → i ≡ 0 → HasPath net g m p i → IsTrue (bit row g) → IsTrue (bit row p)
      at-goal row i p first ([], is, long) held = subst (λ (k : ℕ). IsTrue (bit row k)) (sym is) held
      at-goal row i p first (q ∷ rest, path, long) held = absurd (omega arith)

      none-at-goal : (p k : ℕ) → k < 1 → (Reaches net p m → ⊥) → Reaches net g m → HasPath net g m p k → ⊥
      none-at-goal p k less not reaches ([], is, long) = not (subst (λ (i : ℕ). Reaches net i m) (sym is) reaches)
      none-at-goal p k less not reaches (q ∷ rest, path, long) = omega arith

  module _ (layers : List (List Bool)) (left : List Bool) (a : AreLayers net g m layers left) where
    -- a way to a layer, or to none so far
    tried : (p j : ℕ) → j ≤ length layers → ((i : ℕ) × (i < j) × IsTrue (bit_in layers i p)) ⊎ NoneShorter net g m p j
    tried p zero l = inr (λ k less. absurd (omega arith))
    tried p (suc j) l = at (tried p j (omega arith))
      where
        more : NoneShorter net g m p j → bit_in layers j p ≡ false → NoneShorter net g m p (suc j)
        more none gone k less path = elim (cases_eq k j) [
          | inl e ↦ true≢false (sym (a.complete j p (omega arith) (subst (HasPath net g m p) e path) none) ∙ gone)
          | inr n ↦ none k (omega arith) path
        ]

        at : ((i : ℕ) × (i < j) × IsTrue (bit_in layers i p)) ⊎ NoneShorter net g m p j → ((i : ℕ) × (i < suc j) × IsTrue (bit_in layers i p)) ⊎ NoneShorter net g m p (suc j)
        at (inl (i, less, is)) = inl (i, omega arith, is)
        at (inr none) = elim (cases_Bool (bit_in layers j p)) [ inl is ↦ inl (j, omega arith, is) | inr gone ↦ inr (more none gone) ]

    pub settle : (p k : ℕ) → k < length layers → HasPath net g m p k → (i : ℕ) × (i ≤ k) × IsTrue (bit_in layers i p)
    settle p k l path = elim (tried p (k + 1) (omega arith)) [
      | inl (i, less, is) ↦ (i, omega arith, is)
      | inr none ↦ absurd (none k (omega arith) path)
    ]

    module _ (next : List Bool) (n : IsNextLayer net left (get_or layers (length layers - 1) []) next) where
      next-sound : (p : ℕ) → IsTrue (bit next p) → HasPath net g m p (length layers) × NoneShorter net g m p (length layers)
      next-sound p is =
          let (waits, (q, inside, opens)) = n.sound p is in
          let (not, none) = a.remains p waits in
          let path = (a.sound (length layers - 1) q (omega (arith, a.some)) inside).0 in
          let places : length layers - 1 + 1 ≡ length layers = omega (arith, a.some) in
          (subst (HasPath net g m p) places (one-step p q (length layers - 1) opens not path), none)

      next-complete : (p : ℕ) → HasPath net g m p (length layers) → NoneShorter net g m p (length layers) → IsTrue (bit next p)
      next-complete p ([], is, long) none = absurd (omega (arith, a.some))
      next-complete p (q ∷ rest, (opens, not, path), long) none =
          let last : length rest ≡ length layers - 1 = omega (arith, a.some) in
          let fewest : NoneShorter net g m q (length layers - 1) = λ k less shorter. none (k + 1) (omega arith) (one-step p q k opens not shorter) in
          let inside = a.complete (length layers - 1) q (omega (arith, a.some)) (rest, path, last) fewest in
          let waits : IsTrue (bit left p) = elim (cases_Bool (bit left p)) [
            | inl is ↦ is
            | inr gone ↦ let (i, l, is) = a.covers p opens.from not gone in absurd (none i l (a.sound i p l is).0)
          ] in
          n.complete p q waits inside opens

      no-way : ((p : ℕ) → IsTrue (bit next p) → ⊥) → (p : ℕ) (rest : List ℕ) → IsPath net g m p rest → (i : ℕ) × (i < length layers) × IsTrue (bit_in layers i p)
      no-way none p [] is = (0, a.some, a.complete 0 p a.some ([], is, refl) (λ k less. absurd (omega arith)))
      no-way none p (q ∷ rest) (opens, not, path) =
          let (j, l, inside) = no-way none q rest path in
          elim (cases_Bool (bit left p)) [
            | inr gone ↦ a.covers p opens.from not gone
            | inl waits ↦ elim (cases_eq j (length layers - 1)) [
              | inl e ↦ absurd (none p (n.complete p q waits (subst (λ (k : ℕ). IsTrue (bit_in layers k q)) e inside) opens))
              | inr d ↦ absurd ((a.remains p waits).1 (j + 1) (omega arith) (one-step p q j opens not (a.sound j q l inside).0))
            ]
          ]

      module _ (no_entry : (p : ℕ) → IsTrue (bit_in layers (length layers - 1) p) → net.is_entry p ≡ false) where
        pub no-entry-way : ((p : ℕ) → IsTrue (bit next p) → ⊥) → (p steps : ℕ) → IsTrue (net.is_entry p) → HasPath net g m p steps → ⊥
        no-entry-way none p steps is_entry (rest, path, long) =
            let (i, l, inside) = no-way none p rest path in
            let lazy : net.is_entry p ≡ false = elim (cases_eq i (length layers - 1)) [
              | inl e ↦ no_entry p (subst (λ (k : ℕ). IsTrue (bit_in layers k p)) e inside)
              | inr d ↦ a.no_entry i p (omega arith) inside
            ] in
            true≢false (sym is_entry ∙ lazy)

        pub layers-more : AreLayers net g m (layers ++ next ∷ []) (minus left next)
        layers-more =
            let count = length_push layers next in
            let even : length left ≡ length next = a.places ∙ sym n.len in
            let front : (i : ℕ) → i < length layers → get_or (layers ++ next ∷ []) i [] ≡ get_or layers i [] = λ i l. get_or-append layers (next ∷ []) [] i l in
            let back : get_or (layers ++ next ∷ []) (length layers) [] ≡ next = get_or-append_seam layers next [] [] in
            record {
              some = omega (arith, count);
              even = λ i l. elim (cases_lt i (length layers)) [
                | inl low ↦ ap length (front i low) ∙ a.even i low
                | inr high ↦ let e : i ≡ length layers = omega (arith, count) in rw e (ap length back ∙ n.len)
              ];
              places = length-zip2 (λ x y. x && not y) left next even ∙ a.places;
              sound = λ i p l is. elim (cases_lt i (length layers)) [
                | inl low ↦ a.sound i p low (sym (ap (λ (r : List Bool). bit r p) (front i low)) ∙ is)
                | inr high ↦
                    let e : i ≡ length layers = omega (arith, count) in
                    let both = next-sound p (sym (ap (λ (r : List Bool). bit r p) back) ∙ subst (λ (k : ℕ). IsTrue (bit_in (layers ++ next ∷ []) k p)) e is) in
                    (subst (HasPath net g m p) (sym e) both.0, subst (NoneShorter net g m p) (sym e) both.1)
              ];
              complete = λ i p l path none. elim (cases_lt i (length layers)) [
                | inl low ↦ ap (λ (r : List Bool). bit r p) (front i low) ∙ a.complete i p low path none
                | inr high ↦
                    let e : i ≡ length layers = omega (arith, count) in
                    subst (λ (k : ℕ). IsTrue (bit_in (layers ++ next ∷ []) k p)) (sym e)
                    (ap (λ (r : List Bool). bit r p) back ∙ next-complete p (subst (HasPath net g m p) e path) (subst (NoneShorter net g m p) e none))
              ];
              remains = λ p is.
                  let both = sym (bit-minus left next p even) ∙ is in
                  let (avoids, none) = a.remains p (and-left (bit left p) (not (bit next p)) both) in
                  let gone = not-true (bit next p) (and-right (bit left p) (not (bit next p)) both) in (
                    avoids,
                    λ k less path. elim (cases_lt k (length layers)) [
                      | inl low ↦ none k low path
                      | inr high ↦
                          let e : k ≡ length layers = omega (arith, count) in
                          true≢false (sym (next-complete p (subst (HasPath net g m p) e path) none) ∙ gone)
                    ],
                  );
              covers = λ p inside avoids gone. elim (cases_Bool (bit left p)) [
                | inr before ↦ let (i, l, is) = a.covers p inside avoids before in (i, omega (arith, count), ap (λ (r : List Bool). bit r p) (front i l) ∙ is)
                | inl waits ↦ elim (cases_Bool (bit next p)) [
                  | inl is ↦ (length layers, omega (arith, count), ap (λ (r : List Bool). bit r p) back ∙ is)
                  | inr lacks ↦ absurd (true≢false (sym (bit-minus left next p even ∙ and-both (bit left p) (not (bit next p)) waits (not-false (bit next p) lacks)) ∙ gone))
                ]
              ];
              no_entry = λ i p l is. elim (cases_eq i (length layers - 1)) [
                | inl e ↦ no_entry p (subst (λ (k : ℕ). IsTrue (bit_in layers k p)) e (sym (ap (λ (r : List Bool). bit r p) (front i (omega (arith, count)))) ∙ is))
                | inr d ↦ a.no_entry i p (omega (arith, count)) (sym (ap (λ (r : List Bool). bit r p) (front i (omega (arith, count)))) ∙ is)
              ];
            }

    -- the least of the next layer is best where its rest is
    pub best-step : (i v c : ℕ) (tail : List ℕ) → i + 1 < length layers → IsTrue (bit_in layers (i + 1) v) → Opens net v c
        → ((q : ℕ) → IsTrue (bit_in layers i q) → Opens net v q → c ≤ q) → IsBest net g m c i tail → IsBest net g m v (i + 1) (c ∷ tail)
    best-step i v c tail l here opens low best =
        let (way, none) = a.sound (i + 1) v l here in
        record {
          path = (opens, not-reached way, best.path);
          long = omega (arith, best.long);
          least = λ other path long. least-at none other path long;
        }
      where
        not-reached : HasPath net g m v (i + 1) → Reaches net v m → ⊥
        not-reached ([], is, long) = absurd (omega arith)
        not-reached (q ∷ rest, (leads, not, path), long) = not

        least-at : NoneShorter net g m v (i + 1) → (other : List ℕ) → IsPath net g m v other → length other ≡ i + 1 → IsNotGreater (c ∷ tail) other
        least-at none [] path long = absurd (omega arith)
        least-at none (q ∷ rest) (leads, not, path) long =
            let fewest : NoneShorter net g m q i = λ k less shorter. none (k + 1) (omega arith) (one-step v q k leads not shorter) in
            let many : length rest ≡ i = omega arith in
            let at : c ≤ q = low q (a.complete i q (omega arith) (rest, path, many) fewest) leads in
            elim (cases_eq c q) [
              | inl e ↦ inr (e, best.least rest (subst (λ (k : ℕ). IsPath net g m k rest) (sym e) path) many)
              | inr d ↦ inl (omega arith)
            ]

    pub best-end : (v : ℕ) → IsTrue (bit_in layers 0 v) → IsBest net g m v 0 []
    best-end v here = record {
      path = at-end (a.sound 0 v a.some here).0;
      long = refl;
      least = λ other path long. tt;
    }
      where
        at-end : HasPath net g m v 0 → v ≡ g
        at-end ([], is, long) = is
        at-end (q ∷ rest, path, long) = absurd (omega arith)

    module _ (v : ℕ) (first : IsFirst net layers v) (rest : List ℕ) (best : IsBest net g m v (length layers - 1) rest) where
      fewest : (p k : ℕ) → IsTrue (net.is_entry p) → HasPath net g m p k → length layers - 1 ≤ k
      fewest p k is_entry path = elim (cases_lt k (length layers - 1)) [
        | inr low ↦ low
        | inl less ↦
            let (i, l, inside) = settle p k (omega arith) path in
            absurd (true≢false (sym is_entry ∙ a.no_entry i p (omega arith) inside))
      ]

      not-after : (p : ℕ) (other : List ℕ) → IsTrue (net.is_entry p) → IsPath net g m p other → IsNotAfter (v ∷ rest) (p ∷ other)
      not-after p other is_entry path =
          let low = fewest p (length other) is_entry (other, path, refl) in
          elim (cases_eq (length other) (length layers - 1)) [
            | inr d ↦ inl (omega (arith, best.long))
            | inl e ↦
                let none : NoneShorter net g m p (length layers - 1) = λ k less shorter. absurd (omega (arith, fewest p k is_entry shorter)) in
                let inside = a.complete (length layers - 1) p (omega (arith, a.some)) (other, path, e) none in
                let least = first.least p inside is_entry in
                inr (
                  omega (arith, best.long),
                  elim (cases_eq v p) [
                    | inl same ↦ inr (same, best.least other (subst (λ (k : ℕ). IsPath net g m k other) (sym same) path) e)
                    | inr d ↦ inl (omega arith)
                  ],
                )
          ]

      pub least-reason : v < net.groups → IsLeastReason net g m (v ∷ rest)
      least-reason within = record {
        reason = path-reason net m g v rest within first.is_entry best.path;
        least = λ other reason.
            let (p, (way, is_entry, path, same)) = reason-way net m g other reason in
            elim same [
              | inl e ↦ subst (IsNotAfter (v ∷ rest)) e (not-after p way is_entry path)
              | inr less ↦ inl (omega (arith, fewest p (length way) is_entry (way, path, refl), best.long))
            ];
      }
