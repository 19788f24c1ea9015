-- Where faults stand in a text.
use Rattle.std.proofs.Common.{◌≡◌, ℕ, ◌≤◌, Bool, true, false, List, ◌++◌, length, drop, length-append, length-drop, Err, refl, ap, arith}
use Rattle.std.specs.Prelude.{nat_eq, if◌then◌else◌}
use Rattle.std.specs.List.{starts_with}
use Rattle.std.proofs.lemmas.Slice.Eq.{starts_is}
use Rattle.std.proofs.lemmas.Bool.Decides.{Decides-eqb}
use Rattle.json_order.specs.declared.fault.JsonFault.{JsonFault}
use Rattle.json_order.specs.Answer.{IsAnswer, mark, start_of}
use Rattle.json_order.proofs.OneAnswer.{fault_before}

start_by : (text : List ℕ) (marked : Bool) → starts_with nat_eq text mark ≡ marked → (if marked then 3 else 0) ≤ length text
start_by text true e =
    let parts : text ≡ mark ++ drop 3 text = (starts_is Decides-eqb text mark (starts_with nat_eq text mark) refl).0 e in
    omega (arith, ap length parts, length-append mark (drop 3 text))
start_by text false e = omega arith

start_within : (text : List ℕ) → start_of text ≤ length text
start_within text = start_by text (starts_with nat_eq text mark) refl

pub fault_within : (text : List ℕ) (fault : JsonFault) → IsAnswer text (Err fault) → fault.offset ≤ length text
fault_within text fault (index, place, is) =
    let start = start_within text in
    let short = (fault_before fault.kind (start_of text) (drop (start_of text) text) index is).1 in
    omega (arith, place, start, short, length-drop (start_of text) text)
