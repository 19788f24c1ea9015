-- The order of faults (this project) is a total order: its parts are, in turn by path, offset, kind number and line.
use Rattle.std.specs.Cmp.{IsTotalOrder, then_total, on_total, nat_cmp_total}
use Rattle.std.specs.Cmp.Lexicographic.{on_texts}
use Rattle.fault_place.specs.Fault.{number_of, line_of, fault_cmp}

pub fault_cmp-total : IsTotalOrder fault_cmp
fault_cmp-total =
    then_total (on_texts (λ fault. fault.place.path))
    (then_total (on_total (λ fault. fault.place.offset) nat_cmp_total)
    (then_total (on_total (λ fault. number_of fault.kind) nat_cmp_total)
    (on_texts line_of)))
