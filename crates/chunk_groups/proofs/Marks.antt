-- What is marked, one module after another, and what is marked in the end.
use Rattle.std.proofs.Common.{◌≡◌, ℕ, zero, suc, ◌+◌, ◌-◌, ◌<◌, ◌⊎◌, inl, inr, Bool, true, false, not, cond, List, [], ◌∷◌, ◌++◌, length, set, take, replicate, refl, sym, ap, subst, ◌∙◌, arith}
use Rattle.std.specs.Prelude.{IsTrue, Contains}
use Rattle.std.specs.List.{count_by}
use Rattle.std.proofs.lemmas.Bool.{cases_eq, cases_lt, false≢true}
use Rattle.std.proofs.lemmas.List.{get_or_past, get_or-set_same, get_or-set_other, get_or-map, length-map, length-set, length-append, get_or-replicate, length-replicate}
use Rattle.std.proofs.lemmas.List.Elements.{Contains-append_left, Contains-append_right, Contains-append_cases, Contains-push, Contains-push_cases}
use Rattle.std.proofs.lemmas.List.Sums.{sum_by-set}
use Rattle.pack_util.specs.declared.number.ModuleNo.{ModuleNo}
use Rattle.graph_types.specs.Modules.{module_no}
use Rattle.graph_types.specs.Reached.{Walk}
use Rattle.chunk_groups.specs.Grouped.{numbers}
use Rattle.chunk_groups.specs.Rows.{bit}
use Rattle.chunk_groups.specs.inner.Marking.{IsMarked, HasReached}

pub contains-none : {X : Type 0} (x : X) → Contains [] x → ⊥
contains-none x (k, l, e) = omega arith

pub contains-one : {X : Type 0} (y x : X) → Contains (y ∷ []) x → y ≡ x
contains-one y x (zero, l, e) = e
contains-one y x (suc k, l, e) = absurd (omega arith)

pub number-in : (ms : List ModuleNo) (m : ModuleNo) → Contains ms m → Contains (numbers ms) m.0
number-in ms m (k, l, e) = (k, omega (arith, length-map ms (λ m. m.0)), get_or-map (λ m. m.0) ms k m m.0 l ∙ ap (λ m. m.0) e)

pub module-in : (ms : List ModuleNo) (m : ℕ) → Contains (numbers ms) m → Contains ms (module_no m)
module-in ms m (k, l, e) =
    let within : k < length ms = omega (arith, length-map ms (λ m. m.0)) in
    (k, within, ap module_no (sym (get_or-map (λ m. m.0) ms k (module_no m) m within) ∙ e))

pub bit-within : (row : List Bool) (m : ℕ) → IsTrue (bit row m) → m < length row
bit-within row m held = elim (cases_lt m (length row)) [ inl l ↦ l | inr g ↦ absurd (false≢true (sym (get_or_past row m false g) ∙ held)) ]

pub bit-set_cases : (row : List Bool) (k m : ℕ) → IsTrue (bit (set row k true) m) → IsTrue (bit row m) ⊎ (m ≡ k)
bit-set_cases row k m held = elim (cases_eq m k) [ inl e ↦ inr e | inr n ↦ inl (sym (get_or-set_other row k m true false n) ∙ held) ]

pub bit-set_keeps : (row : List Bool) (k m : ℕ) → k < length row → IsTrue (bit row m) → IsTrue (bit (set row k true) m)
bit-set_keeps row k m l held = elim (cases_eq m k) [ inl e ↦ rw (e, get_or-set_same row k true false l) refl | inr n ↦ get_or-set_other row k m true false n ∙ held ]

pub marked-none : (row : List Bool) (waiting : List ModuleNo) → IsMarked row row waiting waiting []
marked-none row waiting = record {
  len = refl;
  grows = λ m held. held;
  marked = λ m found. absurd (contains-none m found);
  only = λ m held. inl held;
  still = λ m found. found;
  fresh = λ m held. inl held;
  waiting = λ m found. inl found;
  weight = refl;
}

pub marked-before : (row : List Bool) (waiting : List ModuleNo) (m : ModuleNo) → IsTrue (bit row m.0) → IsMarked row row waiting waiting (m ∷ [])
marked-before row waiting m is = record {
  len = refl;
  grows = λ m held. held;
  marked = λ n found. subst (λ (x : ModuleNo). IsTrue (bit row x.0)) (contains-one m n found) is;
  only = λ m held. inl held;
  still = λ m found. found;
  fresh = λ m held. inl held;
  waiting = λ m found. inl found;
  weight = refl;
}

pub marked-now : (row : List Bool) (waiting : List ModuleNo) (m : ModuleNo) → m.0 < length row → bit row m.0 ≡ false → IsMarked row (set row m.0 true) waiting (waiting ++ m ∷ []) (m ∷ [])
marked-now row waiting m within was =
    let now : IsTrue (bit (set row m.0 true) m.0) = get_or-set_same row m.0 true false within in
    let here : (n : ℕ) → n ≡ m.0 → m ≡ module_no n = λ n e. ap module_no (sym e) in
    let counts : count_by not (set row m.0 true) + cond (not (bit row m.0)) 1 0 ≡ count_by not row + 0 = sum_by-set (λ b. cond (not b) 1 0) row m.0 true false within in
    let lost : cond {A = ℕ} (not (bit row m.0)) 1 0 ≡ 1 = ap (λ b. cond {A = ℕ} (not b) 1 0) was in
    record {
      len = length-set row m.0 true;
      grows = λ n held. bit-set_keeps row m.0 n within held;
      marked = λ n found. subst (λ (x : ModuleNo). IsTrue (bit (set row m.0 true) x.0)) (contains-one m n found) now;
      only = λ n held. elim (bit-set_cases row m.0 n held) [ inl before ↦ inl before | inr e ↦ inr (0, omega arith, here n e) ];
      still = λ n found. Contains-append_left waiting (m ∷ []) n found;
      fresh = λ n held. elim (bit-set_cases row m.0 n held) [ inl before ↦ inl before | inr e ↦ inr (Contains-append_right waiting (m ∷ []) (module_no n) (0, omega arith, here n e)) ];
      waiting = λ n found. elim (Contains-push_cases waiting m n found) [ inl before ↦ inl before | inr e ↦ inr (subst (λ (x : ModuleNo). IsTrue (bit (set row m.0 true) x.0)) e now) ];
      weight = omega (arith, length-append waiting (m ∷ []));
    }

pub marked-more : (old mid new : List Bool) (before between after front back : List ModuleNo) → IsMarked old mid before between front → IsMarked mid new between after back
    → IsMarked old new before after (front ++ back)
marked-more old mid new before between after front back p q = record {
  len = q.len ∙ p.len;
  grows = λ m held. q.grows m (p.grows m held);
  marked = λ m found. elim (Contains-append_cases front back m found) [ inl a ↦ q.grows m.0 (p.marked m a) | inr b ↦ q.marked m b ];
  only = λ m held. elim (q.only m held) [
    | inl mid ↦ elim (p.only m mid) [ inl old ↦ inl old | inr a ↦ inr (Contains-append_left front back (module_no m) a) ]
    | inr b ↦ inr (Contains-append_right front back (module_no m) b)
  ];
  still = λ m found. q.still m (p.still m found);
  fresh = λ m held. elim (q.fresh m held) [
    | inl mid ↦ elim (p.fresh m mid) [ inl old ↦ inl old | inr a ↦ inr (q.still (module_no m) a) ]
    | inr b ↦ inr b
  ];
  waiting = λ m found. elim (q.waiting m found) [
    | inl mid ↦ elim (p.waiting m mid) [ inl old ↦ inl old | inr held ↦ inr (q.grows m.0 held) ]
    | inr held ↦ inr held
  ];
  weight = omega (arith, p.weight, q.weight);
}

-- an empty list has nothing to take from it
pub none-left : {X : Type 0} (xs ys : List X) (n : ℕ) → xs ≡ ys ++ [] → ys ≡ take (n - 1) xs → n ≡ 0 → xs ≡ []
none-left xs ys n all rest none =
    let places : n - 1 ≡ 0 = omega arith in
    all ∙ ap (λ l. l ++ []) (rest ∙ ap (λ k. take k xs) places)

-- what the row and those who wait keep
module _ (targets : ℕ → List ℕ) (roots : List ℕ) where
  pub record IsMarking (row : List Bool) (waiting : List ModuleNo) : Type 0 where
    pub sound : (m : ℕ) → IsTrue (bit row m) → (steps : ℕ) × Walk targets roots m steps
    pub started : (m : ℕ) → Contains roots m → IsTrue (bit row m)
    pub closed : (m t : ℕ) → IsTrue (bit row m) → Contains (targets m) t → Contains waiting (module_no m) ⊎ IsTrue (bit row t)
    pub waiting_is : (m : ModuleNo) → Contains waiting m → IsTrue (bit row m.0)

  pub waiting-within : (row : List Bool) (all rest : List ModuleNo) (m : ModuleNo) → IsMarking row all → all ≡ rest ++ m ∷ [] → m.0 < length row
  waiting-within row all rest m before popped = bit-within row m.0 (before.waiting_is m (subst (λ (l : List ModuleNo). Contains l m) (sym popped) (Contains-push rest m)))

  pub visited : (old new : List Bool) (all rest after modules : List ModuleNo) (m : ModuleNo) → IsMarking old all → all ≡ rest ++ m ∷ [] → targets m.0 ≡ numbers modules
      → IsMarked old new rest after modules → IsMarking new after
  visited old new all rest after modules m before popped leads now = record {
    sound = λ n held. elim (now.only n held) [
      | inl was ↦ before.sound n was
      | inr found ↦
          let walk = before.sound m.0 (before.waiting_is m (subst (λ (l : List ModuleNo). Contains l m) (sym popped) (Contains-push rest m))) in
          (suc walk.0, (m.0, walk.1, subst (λ (l : List ℕ). Contains l n) (sym leads) (number-in modules (module_no n) found)))
    ];
    started = λ n found. now.grows n (before.started n found);
    closed = λ n t held leading. elim (now.fresh n held) [
      | inl was ↦ elim (before.closed n t was leading) [
        | inl waits ↦ elim (Contains-push_cases rest m (module_no n) (subst (λ (l : List ModuleNo). Contains l (module_no n)) popped waits)) [
          | inl still ↦ inl (now.still (module_no n) still)
          | inr is ↦
              let same : m.0 ≡ n = ap (λ x. x.0) is in
              let there : Contains (numbers modules) t = subst (λ (l : List ℕ). Contains l t) (ap targets (sym same) ∙ leads) leading in
              inr (now.marked (module_no t) (module-in modules t there))
        ]
        | inr done ↦ inr (now.grows t done)
      ]
      | inr waits ↦ inl waits
    ];
    waiting_is = λ n found. elim (now.waiting n found) [ inl was ↦ now.grows n.0 (before.waiting_is n (subst (λ (l : List ModuleNo). Contains l n) (sym popped) (Contains-append_left rest (m ∷ []) n was))) | inr held ↦ held ];
  }

  done : (row : List Bool) → IsMarking row [] → (steps m : ℕ) → Walk targets roots m steps → IsTrue (bit row m)
  done row all zero m walk = all.started m walk
  done row all (suc steps) m (from, walk, leads) =
      elim (all.closed from m (done row all steps from walk) leads) [ inl waits ↦ absurd (contains-none _ waits) | inr held ↦ held ]

  pub all-marked : (row : List Bool) (waiting : List ModuleNo) → waiting ≡ [] → IsMarking row waiting → HasReached targets roots row
  all-marked row waiting none all m =
      let all : IsMarking row [] = subst (λ (l : List ModuleNo). IsMarking row l) none all in
      (all.sound m, λ walk. done row all walk.0 m walk.1)

pub blank-bit : (n m : ℕ) → IsTrue (bit (replicate n false) m) → ⊥
blank-bit n m held =
    let within : m < n = omega (arith, bit-within (replicate n false) m held, length-replicate n false) in
    false≢true (sym (get_or-replicate n m false false within) ∙ held)

pub marking-starts : (targets : ℕ → List ℕ) (n : ℕ) (old new : List Bool) (after roots : List ModuleNo) → old ≡ replicate n false → IsMarked old new [] after roots → IsMarking targets (numbers roots) new after
marking-starts targets n old new after roots blank now =
    let none : (m : ℕ) → IsTrue (bit old m) → ⊥ = λ m held. blank-bit n m (subst (λ (l : List Bool). IsTrue (bit l m)) blank held) in
    record {
      sound = λ m held. elim (now.only m held) [ inl was ↦ absurd (none m was) | inr found ↦ (0, number-in roots (module_no m) found) ];
      started = λ m found. now.marked (module_no m) (module-in roots m found);
      closed = λ m t held leading. elim (now.fresh m held) [ inl was ↦ absurd (none m was) | inr waits ↦ inl waits ];
      waiting_is = λ m found. elim (now.waiting m found) [ inl was ↦ absurd (contains-none m was) | inr held ↦ held ];
    }
