-- What the reader answers for a text is the answer by the grammar.
use Rattle.std.proofs.Common.{◌≡◌, ◌∙◌, ℕ, suc, ◌+◌, ◌-◌, ◌≤◌, ◌<◌, Bool, true, false, cond, inl, inr, List, [], ◌∷◌, ◌++◌, length, take, Option, Some, None, Result, Ok, Err, refl, ap, sym, subst, arith, nat_le, add-one}
use Rattle.std.proofs.lemmas.Bool.Decides.{nat_tests}
use Rattle.json_order.specs.declared.tree.JsonTree.{JsonTree}
use Rattle.json_order.specs.declared.reader.Reader.{Reader}
use Rattle.json_order.specs.declared.fault.JsonFault.{JsonFault}
use Rattle.json_order.specs.declared.fault.JsonKind.{JsonKind}
use Rattle.json_order.specs.declared.fault.JsonKind.TheVariants as kind
use Rattle.json_order.specs.Grammar.{IsText}
use Rattle.json_order.specs.Answer.{depth_limit, GoesOn, CanGoOn, IsFaultOf, IsAnswerFrom}
use Rattle.json_order.specs.inner.Steps.{step, finished, run, ends_by, goes_by, fault_at, fresh}
use Rattle.json_order.proofs.Rest.{Rest, Lands}
use Rattle.json_order.proofs.Tests.{tested}
use Rattle.json_order.proofs.Valid.{Valid, AllValid}
use Rattle.json_order.proofs.StepLaws.{step_on, step_back, valid_step}
use Rattle.json_order.proofs.EndLaws.{finished_on, finished_back}
use Rattle.json_order.proofs.GoesOnLaws.{goes_on, GoesOnFrom}

le_from_test : (a b : ℕ) → nat_le a b ≡ true → a ≤ b
le_from_test a b e = grind (arith, nat_tests)

test_from_le : (a b : ℕ) → a ≤ b → nat_le a b ≡ true
test_from_le a b h = grind (arith, nat_tests)

gt_from_test : (a b : ℕ) → nat_le a b ≡ false → b < a
gt_from_test a b e = grind (arith, nat_tests)

-- the answer of a run whose step is known
chosen : ℕ → ℕ → List ℕ → Option Reader → Result JsonTree JsonFault
chosen limit at rest o = goes_by limit at o (λ next. run limit next (at + 1) rest)

run_chosen : (limit : ℕ) (r : Reader) (at b : ℕ) (rest : List ℕ) (o : Option Reader) → step r at b ≡ o → run limit r at (b ∷ rest) ≡ chosen limit at rest o
unfolding chosen
run_chosen limit r at b rest o e = ap (λ (x : Option Reader). goes_by limit at x (λ next. run limit next (at + 1) rest)) e

run_some : (limit : ℕ) (r s : Reader) (at b : ℕ) (rest : List ℕ) → step r at b ≡ Some s → length s.stack ≤ limit → run limit r at (b ∷ rest) ≡ run limit s (at + 1) rest
unfolding chosen
run_some limit r s at b rest e h =
    run_chosen limit r at b rest (Some s) e
    ∙ ap (λ (v : Bool). cond v (run limit s (at + 1) rest) (Err (fault_at at kind.Depth))) (test_from_le (length s.stack) limit h)

-- an Ok came by a step
some_ok : (limit : ℕ) (r s : Reader) (at b : ℕ) (rest : List ℕ) (t : JsonTree) → step r at b ≡ Some s → run limit r at (b ∷ rest) ≡ Ok t
    → (length s.stack ≤ limit) × (run limit s (at + 1) rest ≡ Ok t)
unfolding chosen
some_ok limit r s at b rest t e h =
    elim (tested (λ (x : Result JsonTree JsonFault). x ≡ Ok t) (nat_le (length s.stack) limit) (run limit s (at + 1) rest) (Err (fault_at at kind.Depth)) (sym (run_chosen limit r at b rest (Some s) e) ∙ h)) [
      | inl g ↦ (le_from_test (length s.stack) limit g.0, g.1)
      | inr g ↦ cc
    ]

none_ok : (limit : ℕ) (r : Reader) (at b : ℕ) (rest : List ℕ) (t : JsonTree) → step r at b ≡ None → run limit r at (b ∷ rest) ≡ Ok t → ⊥
unfolding chosen
none_ok limit r at b rest t e h = let k : Err (fault_at at kind.Byte) ≡ Ok t = sym (run_chosen limit r at b rest None e) ∙ h in cc

ended_ok : (at : ℕ) (o : Option JsonTree) (t : JsonTree) → ends_by at o ≡ Ok t → o ≡ Some t
ended_ok at None t e = cc
ended_ok at (Some x) t e = cc

pub run_rest : (text : List ℕ) (limit deep : ℕ) (r : Reader) (at : ℕ) (t : JsonTree) → Valid r → deep + length r.stack ≡ limit → run limit r at text ≡ Ok t → Rest deep r t at text
run_rest [] limit deep r at t valid same e = finished_back r deep t at (ended_ok at (finished r) t e)
run_rest (b ∷ rest) limit deep r at t valid same e =
    step_back r deep t at b rest valid (go (λ d s. run_rest rest limit d s (at + 1) t) (step r at b) refl (valid_step r at b valid))
  where
    next : ((d : ℕ) (s : Reader) → Valid s → d + length s.stack ≡ limit → run limit s (at + 1) rest ≡ Ok t → Rest d s t (at + 1) rest) → (s : Reader) → step r at b ≡ Some s → Valid s → (length s.stack ≤ limit) × (run limit s (at + 1) rest ≡ Ok t) → Lands (deep + length r.stack) (Some s) t (at + 1) rest
    next again s is ok h =
        let h0 : length s.stack ≤ limit = h.0 in
        let left : (limit - length s.stack) + length s.stack ≡ limit = omega arith in
        (limit - length s.stack, left ∙ sym same, again (limit - length s.stack) s ok left h.1)

    go : ((d : ℕ) (s : Reader) → Valid s → d + length s.stack ≡ limit → run limit s (at + 1) rest ≡ Ok t → Rest d s t (at + 1) rest) → (o : Option Reader) → step r at b ≡ o → AllValid o → Lands (deep + length r.stack) o t (at + 1) rest
    go again None is ok = none_ok limit r at b rest t is e
    go again (Some s) is ok = next again s is ok (some_ok limit r s at b rest t is e)

pub rest_run : (text : List ℕ) (limit deep : ℕ) (r : Reader) (at : ℕ) (t : JsonTree) → Valid r → deep + length r.stack ≡ limit → Rest deep r t at text → run limit r at text ≡ Ok t
rest_run [] limit deep r at t valid same h = ap (λ (o : Option JsonTree). ends_by at o) (finished_on r deep t at valid h)
rest_run (b ∷ rest) limit deep r at t valid same h =
    go (λ d s. rest_run rest limit d s (at + 1) t) (step r at b) refl (valid_step r at b valid) (step_on r deep t at b rest valid h)
  where
    go : ((d : ℕ) (s : Reader) → Valid s → d + length s.stack ≡ limit → Rest d s t (at + 1) rest → run limit s (at + 1) rest ≡ Ok t) → (o : Option Reader) → step r at b ≡ o → AllValid o → Lands (deep + length r.stack) o t (at + 1) rest → run limit r at (b ∷ rest) ≡ Ok t
    go again None is ok never = absurd never
    go again (Some s) is ok (d, total, k) =
        run_some limit r s at b rest is (omega arith) ∙ again d s ok (total ∙ same) k

-- this front can go on to an Ok
abbrev Begins : ℕ → Reader → ℕ → List ℕ → Type 0
Begins limit r at front = (more : List ℕ) × (t : JsonTree) × (run limit r at (front ++ more) ≡ Ok t)

abbrev RunFault : JsonKind → ℕ → Reader → ℕ → List ℕ → ℕ → Type 0
RunFault kind.Byte limit r at text n = (n < length text) × Begins limit r at (take n text)
    × ((other : ℕ) → Begins other r at (take (suc n) text) → ⊥)
RunFault kind.Depth limit r at text n = (n < length text) × Begins limit r at (take n text)
    × (Begins limit r at (take (suc n) text) → ⊥) × ((other : ℕ) × (limit ≤ other) × Begins other r at (take (suc n) text))
RunFault kind.End limit r at text n = (n ≡ length text) × Begins limit r at text × ((t : JsonTree) → run limit r at text ≡ Ok t → ⊥)

abbrev FoundFault : JsonFault → ℕ → Reader → ℕ → List ℕ → Type 0
FoundFault f limit r at text = (n : ℕ) × (f.offset ≡ at + n) × RunFault f.kind limit r at text n

begins_now : (limit deep : ℕ) (r : Reader) (at : ℕ) → Valid r → deep + length r.stack ≡ limit → Begins limit r at []
begins_now limit deep r at valid same =
    let k : GoesOnFrom deep r at = goes_on r deep at valid in
    (k.0, k.1, rest_run k.0 limit deep r at k.1 valid same k.2)

begins_step : (limit : ℕ) (r s : Reader) (at b : ℕ) (front : List ℕ) → step r at b ≡ Some s → length s.stack ≤ limit → Begins limit s (at + 1) front → Begins limit r at (b ∷ front)
begins_step limit r s at b front is h (more, t, e) = (more, t, run_some limit r s at b (front ++ more) is h ∙ e)

step_begins : (limit : ℕ) (r s : Reader) (at b : ℕ) (front : List ℕ) → step r at b ≡ Some s → Begins limit r at (b ∷ front) → Begins limit s (at + 1) front
step_begins limit r s at b front is (more, t, e) = (more, t, (some_ok limit r s at b (front ++ more) t is e).1)

lifted : (k : JsonKind) (limit : ℕ) (r s : Reader) (at b : ℕ) (rest : List ℕ) (n : ℕ) → step r at b ≡ Some s → length s.stack ≤ limit
    → RunFault k limit s (at + 1) rest n → RunFault k limit r at (b ∷ rest) (suc n)
lifted kind.Byte limit r s at b rest n is h (within, before, never) =
    (omega arith, begins_step limit r s at b (take n rest) is h before, λ other begins. never other (step_begins other r s at b (take (suc n) rest) is begins))
lifted kind.Depth limit r s at b rest n is h (within, before, never, (other, more, begins)) = (
  omega arith,
  begins_step limit r s at b (take n rest) is h before,
  (λ begun. never (step_begins limit r s at b (take (suc n) rest) is begun)),
  (other, more, begins_step other r s at b (take (suc n) rest) is (omega arith) begins),
)
lifted kind.End limit r s at b rest n is h (same, begins, never) =
    (omega arith, begins_step limit r s at b rest is h begins, λ t e. never t (some_ok limit r s at b rest t is e).1)

pub fault_found : (text : List ℕ) (limit deep : ℕ) (r : Reader) (at : ℕ) (f : JsonFault) → Valid r → deep + length r.stack ≡ limit → run limit r at text ≡ Err f → FoundFault f limit r at text
fault_found [] limit deep r at f valid same e = go (finished r) refl e
  where
    go : (o : Option JsonTree) → finished r ≡ o → ends_by at o ≡ Err f → FoundFault f limit r at []
    go (Some t) is e = cc
    go None is e =
        let fault : fault_at at kind.End ≡ f = cc in
        subst (λ (g : JsonFault). FoundFault g limit r at []) fault
        (0, omega arith, (refl, begins_now limit deep r at valid same, λ t ok. let k : finished r ≡ Some t = ended_ok at (finished r) t ok in cc))
fault_found (b ∷ rest) limit deep r at f valid same e = go (λ d s. fault_found rest limit d s (at + 1) f) (step r at b) refl (valid_step r at b valid)
  where
    deeper : (s : Reader) → step r at b ≡ Some s → Valid s → limit < length s.stack → fault_at at kind.Depth ≡ f → FoundFault f limit r at (b ∷ rest)
    deeper s is ok more fault =
        subst (λ (g : JsonFault). FoundFault g limit r at (b ∷ rest)) fault (
          0,
          omega arith,
          (
            omega arith,
            begins_now limit deep r at valid same,
            (λ begun. let k : length s.stack ≤ limit = (some_ok limit r s at b begun.0 begun.1 is begun.2).0 in absurd (omega arith)),
            (length s.stack, omega arith, begins_step (length s.stack) r s at b [] is (omega arith) (begins_now (length s.stack) 0 s (at + 1) ok (omega arith))),
          ),
        )

    on : ((d : ℕ) (s : Reader) → Valid s → d + length s.stack ≡ limit → run limit s (at + 1) rest ≡ Err f → FoundFault f limit s (at + 1) rest) → (s : Reader) → step r at b ≡ Some s → Valid s → length s.stack ≤ limit → run limit s (at + 1) rest ≡ Err f → FoundFault f limit r at (b ∷ rest)
    on again s is ok h e' =
        let left : (limit - length s.stack) + length s.stack ≡ limit = omega arith in
        let k : FoundFault f limit s (at + 1) rest = again (limit - length s.stack) s ok left e' in
        let place : f.offset ≡ (at + 1) + k.0 = k.1 in
        (suc k.0, omega arith, lifted f.kind limit r s at b rest k.0 is h k.2)

    run_chosen_byte : step r at b ≡ None → run limit r at (b ∷ rest) ≡ Err (fault_at at kind.Byte)
    run_chosen_byte is = ap (λ (x : Option Reader). goes_by limit at x (λ next. run limit next (at + 1) rest)) is

    go : ((d : ℕ) (s : Reader) → Valid s → d + length s.stack ≡ limit → run limit s (at + 1) rest ≡ Err f → FoundFault f limit s (at + 1) rest) → (o : Option Reader) → step r at b ≡ o → AllValid o → FoundFault f limit r at (b ∷ rest)
    go again None is ok =
        let k : Err (fault_at at kind.Byte) ≡ Err f = sym (run_chosen_byte is) ∙ e in
        let fault : fault_at at kind.Byte ≡ f = cc in
        subst (λ (g : JsonFault). FoundFault g limit r at (b ∷ rest)) fault
        (0, omega arith, (omega arith, begins_now limit deep r at valid same, λ other begun. none_ok other r at b begun.0 begun.1 is begun.2))
    go again (Some s) is ok =
        elim (tested (λ (x : Result JsonTree JsonFault). x ≡ Err f) (nat_le (length s.stack) limit) (run limit s (at + 1) rest) (Err (fault_at at kind.Depth)) (sym (ap (λ (x : Option Reader). goes_by limit at x (λ next. run limit next (at + 1) rest)) is) ∙ e)) [
          | inl g ↦ on again s is ok (le_from_test (length s.stack) limit g.0) g.1
          | inr g ↦ deeper s is ok (gt_from_test (length s.stack) limit g.0) cc
        ]

-- the rest of a fresh reader is a text
text_rest : (deep : ℕ) (t : JsonTree) (at : ℕ) (text : List ℕ) → IsText deep t at text → Rest deep fresh t at text
text_rest deep t at text h = (t, tt, refl, h)

rest_text : (deep : ℕ) (t : JsonTree) (at : ℕ) (text : List ℕ) → Rest deep fresh t at text → IsText deep t at text
rest_text deep t at text (x, plan, e, h) = subst (λ (y : JsonTree). IsText deep y at text) e h

all_left : (deep : ℕ) → deep + 0 ≡ deep
all_left deep = omega arith

begins_goes : (deep at : ℕ) (front : List ℕ) → Begins deep fresh at front → GoesOn at deep front
begins_goes deep at front (more, t, e) = (more, t, rest_text deep t at (front ++ more) (run_rest (front ++ more) deep deep fresh at t tt (all_left deep) e))

goes_begins : (deep at : ℕ) (front : List ℕ) → GoesOn at deep front → Begins deep fresh at front
goes_begins deep at front (more, t, h) = (more, t, rest_run (front ++ more) deep deep fresh at t tt (all_left deep) (text_rest deep t at (front ++ more) h))

fault_answer : (k : JsonKind) (at : ℕ) (text : List ℕ) (n : ℕ) → RunFault k depth_limit fresh at text n → IsFaultOf k at text n
fault_answer kind.Byte at text n (within, before, never) =
    let never' : CanGoOn at (take (n + 1) text) → ⊥ = λ can. never can.0 (goes_begins can.0 at (take (suc n) text) (subst (λ (m : ℕ). GoesOn at can.0 (take m text)) (add-one n) can.1)) in
    (record { within = within; before = begins_goes depth_limit at (take n text) before; here = λ h. never' (depth_limit, h) }, never')
fault_answer kind.Depth at text n (within, before, never, (other, more, begins)) = (
  record {
    within = within;
    before = begins_goes depth_limit at (take n text) before;
    here = λ h. never (goes_begins depth_limit at (take (suc n) text) (subst (λ (m : ℕ). GoesOn at depth_limit (take m text)) (add-one n) h));
  },
  (other, subst (λ (m : ℕ). GoesOn at other (take m text)) (sym (add-one n)) (begins_goes other at (take (suc n) text) begins)),
)
fault_answer kind.End at text n (same, begins, never) =
    (same, begins_goes depth_limit at text begins, λ t h. never t (rest_run text depth_limit depth_limit fresh at t tt (all_left depth_limit) (text_rest depth_limit t at text h)))

pub run_answers : (at : ℕ) (text : List ℕ) (answer : Result JsonTree JsonFault) → run 128 fresh at text ≡ answer → IsAnswerFrom at text answer
run_answers at text (Ok t) e = rest_text 128 t at text (run_rest text 128 128 fresh at t tt (all_left 128) e)
run_answers at text (Err f) e =
    let k : FoundFault f 128 fresh at text = fault_found text 128 128 fresh at f tt (all_left 128) e in
    (k.0, k.1, fault_answer f.kind at text k.0 k.2)

-- a text has one answer
pub answer_runs : (at : ℕ) (text : List ℕ) (t : JsonTree) → IsText depth_limit t at text → run 128 fresh at text ≡ Ok t
answer_runs at text t h = rest_run text 128 128 fresh at t tt (all_left 128) (text_rest 128 t at text h)
