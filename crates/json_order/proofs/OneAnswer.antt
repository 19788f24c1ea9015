-- A text has one answer.
use Rattle.std.proofs.Common.{◌≡◌, ◌∙◌, ℕ, zero, suc, ◌+◌, ◌≤◌, ◌<◌, ◌⊎◌, inl, inr, List, [], ◌∷◌, ◌++◌, length, take, Result, Ok, Err, refl, ap, sym, subst, arith, append_assoc}
use Rattle.std.proofs.lemmas.Bool.{cases_lt}
use Rattle.json_order.specs.declared.tree.JsonTree.{JsonTree}
use Rattle.json_order.specs.declared.fault.JsonFault.{JsonFault}
use Rattle.json_order.specs.declared.fault.JsonKind.{JsonKind}
use Rattle.json_order.specs.declared.fault.JsonKind.TheVariants as kind
use Rattle.json_order.specs.Grammar.{IsText}
use Rattle.json_order.specs.Answer.{depth_limit, GoesOn, IsFaultOf, IsAnswerFrom}
use Rattle.json_order.proofs.RunLaws.{answer_runs}

-- a front of a front, and what is left of it
front_of : (k n : ℕ) (text : List ℕ) → k ≤ n → (more : List ℕ) × (take n text ≡ take k text ++ more)
front_of zero n text h = (take n text, refl)
front_of (suc k) zero text h = absurd (omega arith)
front_of (suc k) (suc n) [] h = ([], refl)
front_of (suc k) (suc n) (b ∷ text) h =
    let le : k ≤ n = omega arith in
    let r : (more : List ℕ) × (take n text ≡ take k text ++ more) = front_of k n text le in
    (r.0, ap (λ (w : List ℕ). b ∷ w) r.1)

whole_front : (text : List ℕ) → take (length text) text ≡ text
whole_front [] = refl
whole_front (b ∷ text) = ap (λ (w : List ℕ). b ∷ w) (whole_front text)

goes_on_sooner : (at deep k n : ℕ) (text : List ℕ) → k ≤ n → GoesOn at deep (take n text) → GoesOn at deep (take k text)
goes_on_sooner at deep k n text h (more, t, is) =
    let r : (rest : List ℕ) × (take n text ≡ take k text ++ rest) = front_of k n text h in
    (r.0 ++ more, t, subst (λ (w : List ℕ). IsText deep t at w) (ap (λ (w : List ℕ). w ++ more) r.1 ∙ append_assoc (take k text) r.0 more) is)

-- what stands before a fault goes on
pub fault_before : (k : JsonKind) (at : ℕ) (text : List ℕ) (n : ℕ) → IsFaultOf k at text n → GoesOn at depth_limit (take n text) × (n ≤ length text)
fault_before kind.Byte at text n (stops, never) = (stops.before, let h : n < length text = stops.within in omega arith)
fault_before kind.Depth at text n (stops, can) = (stops.before, let h : n < length text = stops.within in omega arith)
fault_before kind.End at text n (same, goes, never) =
    (subst (λ (w : List ℕ). GoesOn at depth_limit w) (sym (ap (λ (m : ℕ). take m text) same ∙ whole_front text)) goes, omega arith)

-- nothing that begins with the fault goes on
fault_stops : (k : JsonKind) (at : ℕ) (text : List ℕ) (n m : ℕ) → IsFaultOf k at text n → n < m → m ≤ length text → GoesOn at depth_limit (take m text) → ⊥
fault_stops kind.Byte at text n m (stops, never) h le goes = stops.here (goes_on_sooner at depth_limit (n + 1) m text (omega arith) goes)
fault_stops kind.Depth at text n m (stops, can) h le goes = stops.here (goes_on_sooner at depth_limit (n + 1) m text (omega arith) goes)
fault_stops kind.End at text n m (same, goes', never) h le goes = absurd (omega arith)

same_kind : (j k : JsonKind) (at : ℕ) (text : List ℕ) (n : ℕ) → IsFaultOf j at text n → IsFaultOf k at text n → j ≡ k
same_kind kind.Byte kind.Byte at text n f g = refl
same_kind kind.Byte kind.Depth at text n f g = absurd (f.1 g.1)
same_kind kind.Byte kind.End at text n f g = absurd (let h : n < length text = f.0.within in let e : n ≡ length text = g.0 in omega arith)
same_kind kind.Depth kind.Byte at text n f g = absurd (g.1 f.1)
same_kind kind.Depth kind.Depth at text n f g = refl
same_kind kind.Depth kind.End at text n f g = absurd (let h : n < length text = f.0.within in let e : n ≡ length text = g.0 in omega arith)
same_kind kind.End kind.Byte at text n f g = absurd (let h : n < length text = g.0.within in let e : n ≡ length text = f.0 in omega arith)
same_kind kind.End kind.Depth at text n f g = absurd (let h : n < length text = g.0.within in let e : n ≡ length text = f.0 in omega arith)
same_kind kind.End kind.End at text n f g = refl

-- a text is no tree and a fault
tree_no_fault : (k : JsonKind) (at : ℕ) (text : List ℕ) (n : ℕ) (t : JsonTree) → IsText depth_limit t at text → IsFaultOf k at text n → ⊥
tree_no_fault kind.End at text n t is (same, goes, never) = never t is
tree_no_fault kind.Byte at text n t is f =
    let whole : GoesOn at depth_limit (take (length text) text) = ([], t, subst (λ (w : List ℕ). IsText depth_limit t at w) (sym (nil_right (take (length text) text) ∙ whole_front text)) is) in
    fault_stops kind.Byte at text n (length text) f f.0.within (omega arith) whole
  where
    nil_right : (w : List ℕ) → w ++ [] ≡ w
    nil_right [] = refl
    nil_right (b ∷ w) = ap (λ (v : List ℕ). b ∷ v) (nil_right w)
tree_no_fault kind.Depth at text n t is f =
    let whole : GoesOn at depth_limit (take (length text) text) = ([], t, subst (λ (w : List ℕ). IsText depth_limit t at w) (sym (nil_right (take (length text) text) ∙ whole_front text)) is) in
    fault_stops kind.Depth at text n (length text) f f.0.within (omega arith) whole
  where
    nil_right : (w : List ℕ) → w ++ [] ≡ w
    nil_right [] = refl
    nil_right (b ∷ w) = ap (λ (v : List ℕ). b ∷ v) (nil_right w)

same_fault : (f g : JsonFault) → f.offset ≡ g.offset → f.kind ≡ g.kind → f ≡ g
same_fault f g e h = λ i. record { offset = e i; kind = h i }

pub one_answer_from : (at : ℕ) (text : List ℕ) (a b : Result JsonTree JsonFault) → IsAnswerFrom at text a → IsAnswerFrom at text b → a ≡ b
one_answer_from at text (Ok t) (Ok u) a b = sym (answer_runs at text t a) ∙ answer_runs at text u b
one_answer_from at text (Ok t) (Err g) a (n, place, fault) = absurd (tree_no_fault g.kind at text n t a fault)
one_answer_from at text (Err f) (Ok u) (n, place, fault) b = absurd (tree_no_fault f.kind at text n u b fault)
one_answer_from at text (Err f) (Err g) (n, place, fault) (m, place', fault') = ap Err (go (cases_lt n m) (cases_lt m n))
  where
    go : (n < m) ⊎ (m ≤ n) → (m < n) ⊎ (n ≤ m) → f ≡ g
    go (inl h) k = absurd (fault_stops f.kind at text n m fault h (fault_before g.kind at text m fault').1 (fault_before g.kind at text m fault').0)
    go (inr h) (inl k) = absurd (fault_stops g.kind at text m n fault' k (fault_before f.kind at text n fault).1 (fault_before f.kind at text n fault).0)
    go (inr h) (inr k) =
        let same : n ≡ m = omega arith in
        same_fault f g (omega arith) (same_kind f.kind g.kind at text n fault (subst (λ (i : ℕ). IsFaultOf g.kind at text i) (sym same) fault'))
