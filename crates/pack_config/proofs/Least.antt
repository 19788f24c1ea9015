-- What is left after all faults is the least of them.
use Rattle.std.proofs.Common.{◌≡◌, ℕ, ◌+◌, ◌<◌, Bool, true, false, not, cond, ◌&&◌, ◌||◌, eqb, ltb, suc, List, [], ◌∷◌, ◌++◌, length, get_or, Some, None, refl, sym, ap, ◌∙◌, ◌⊎◌, inl, inr, arith, Contains}
use Rattle.std.specs.List.{list_all}
use Rattle.std.proofs.lemmas.Bool.Decides.{nat_tests}
use Rattle.pack_config.specs.declared.fault.ConfigFault.{ConfigFault}
use Rattle.pack_config.specs.Faults.{IsLeast, precedes, rank}
use Rattle.pack_config.specs.inner.Found.{after}

-- by place, and at one place by rank
abbrev below : ℕ → ℕ → ℕ → ℕ → Bool
below a r b s = ltb a b || (eqb a b && ltb r s)

never : (a r : ℕ) → below a r a r ≡ false
never a r = grind (arith, nat_tests)

onward : (x xr l lr f fr : ℕ) → below x xr l lr ≡ true → below x xr f fr ≡ false → below l lr f fr ≡ false
onward x xr l lr f fr before not_before = grind (arith, nat_tests)

backward : (x xr l lr f fr : ℕ) → below x xr l lr ≡ false → below l lr f fr ≡ false → below x xr f fr ≡ false
backward x xr l lr f fr one other = grind (arith, nat_tests)

-- the fault was there before, or is one of those since; and nothing precedes it
pub record IsLeft (first : ConfigFault) (faults : List ConfigFault) (fault : ConfigFault) : Type 0 where
  pub from : (fault ≡ first) ⊎ Contains faults fault
  pub not_first : precedes first fault ≡ false
  pub not_others : list_all (λ other. not (precedes other fault)) faults ≡ true

behind : (x : ConfigFault) (faults : List ConfigFault) (fault : ConfigFault) → Contains faults fault → Contains (x ∷ faults) fault
behind x faults fault there =
    let within : there.0 + 1 < length (x ∷ faults) = omega (arith, there.1) in
    let next : there.0 + 1 ≡ suc there.0 = omega arith in
    (there.0 + 1, within, ap (λ k. get_or (x ∷ faults) k fault) next ∙ there.2)

at_front : (x : ConfigFault) (faults : List ConfigFault) (fault : ConfigFault) → fault ≡ x → Contains (x ∷ faults) fault
at_front x faults fault e = (0, omega arith, sym e)

from_front : (x : ConfigFault) (faults : List ConfigFault) (fault : ConfigFault) → (fault ≡ x) ⊎ Contains faults fault → Contains (x ∷ faults) fault
from_front x faults fault (inl e) = at_front x faults fault e
from_front x faults fault (inr there) = behind x faults fault there

from_behind : (l x : ConfigFault) (faults : List ConfigFault) (fault : ConfigFault) → (fault ≡ l) ⊎ Contains faults fault → (fault ≡ l) ⊎ Contains (x ∷ faults) fault
from_behind l x faults fault (inl e) = inl e
from_behind l x faults fault (inr there) = inr (behind x faults fault there)

both : (b c : Bool) → b ≡ false → c ≡ true → (not b && c) ≡ true
both b c e f = cc

taken : (l x : ConfigFault) (faults : List ConfigFault) (fault : ConfigFault) → precedes x l ≡ true → IsLeft x faults fault → IsLeft l (x ∷ faults) fault
taken l x faults fault before left = record {
  from = inr (from_front x faults fault left.from);
  not_first = onward x.offset (rank x.kind) l.offset (rank l.kind) fault.offset (rank fault.kind) before left.not_first;
  not_others = both (precedes x fault) (list_all (λ other. not (precedes other fault)) faults) left.not_first left.not_others;
}

kept : (l x : ConfigFault) (faults : List ConfigFault) (fault : ConfigFault) → precedes x l ≡ false → IsLeft l faults fault → IsLeft l (x ∷ faults) fault
kept l x faults fault behind_l left = record {
  from = from_behind l x faults fault left.from;
  not_first = left.not_first;
  not_others = both (precedes x fault) (list_all (λ other. not (precedes other fault)) faults)
      (backward x.offset (rank x.kind) l.offset (rank l.kind) fault.offset (rank fault.kind) behind_l left.not_first) left.not_others;
}

module _ (x : ConfigFault) (faults : List ConfigFault) (fault : ConfigFault) (rest : (l : ConfigFault) → after (Some l) faults ≡ Some fault → IsLeft l faults fault) where
  by_test : (l : ConfigFault) (b : Bool) → precedes x l ≡ b → after (cond b (Some x) (Some l)) faults ≡ Some fault → IsLeft l (x ∷ faults) fault
  by_test l true is e = taken l x faults fault is (rest x e)
  by_test l false is e = kept l x faults fault is (rest l e)

some_left : (l : ConfigFault) (faults : List ConfigFault) (fault : ConfigFault) → after (Some l) faults ≡ Some fault → IsLeft l faults fault
some_left l [] fault e =
    let same : fault ≡ l = cc in
    record { from = inl same; not_first = ap (precedes l) same ∙ never l.offset (rank l.kind); not_others = refl }
some_left l (x ∷ faults) fault e = by_test x faults fault (λ m. some_left m faults fault) l (precedes x l) refl e

pub least_left : (faults : List ConfigFault) (fault : ConfigFault) → after None faults ≡ Some fault → IsLeast fault faults
least_left [] fault e = cc
least_left (x ∷ faults) fault e =
    let left = some_left x faults fault e in
    record { among = from_front x faults fault left.from; first = both (precedes x fault) (list_all (λ other. not (precedes other fault)) faults) left.not_first left.not_others }

by_sooner : (l x : ConfigFault) (faults : List ConfigFault) (b : Bool) → ((m : ConfigFault) → after (Some m) faults ≡ None → ⊥) → after (cond b (Some x) (Some l)) faults ≡ None → ⊥
by_sooner l x faults true rest e = rest x e
by_sooner l x faults false rest e = rest l e

some_stays : (l : ConfigFault) (faults : List ConfigFault) → after (Some l) faults ≡ None → ⊥
some_stays l [] e = cc
some_stays l (x ∷ faults) e = by_sooner l x faults (precedes x l) (λ m. some_stays m faults) e

pub none_left : (faults : List ConfigFault) → after None faults ≡ None → faults ≡ []
none_left [] e = refl
none_left (x ∷ faults) e = absurd (some_stays x faults e)

-- ---- one least fault

pub empty_parts : (one other : List ConfigFault) → one ++ other ≡ [] → (one ≡ []) × (other ≡ [])
empty_parts [] other e = (refl, e)
empty_parts (x ∷ one) other e = cc
