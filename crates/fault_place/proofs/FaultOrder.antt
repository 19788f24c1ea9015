-- What a stable sort of lined faults leaves is `in_order` of the faults, which is sorted and only moves them.
use Rattle.std.proofs.Common.{◌≡◌, Bool, cond, is_lt, List, [], ◌∷◌, map, refl, ap, ◌∙◌, subst}
use Rattle.std.proofs.lemmas.List.Sorted.{ranks_by}
use Rattle.std.specs.Cmp.{IsStrictWeakOrder}
use Rattle.std.specs.List.Sorted.{IsPermutation, IsSorted, IsStable}
use Rattle.std.specs.Ordering.{on}
use Rattle.fault_place.specs.Fault.{line_of, fault_cmp, placed, in_order}
use Rattle.fault_place.specs.Order.{fault_cmp-total}
use Rattle.fault_place.specs.declared.fault.Fault.{Fault}
use Rattle.fault_place.specs.declared.order.LinedFault.{LinedFault}
use Rattle.fault_place.proofs.StableSort.{put, put_all, IsPermutation-put_all, IsSortedBy-put_all, put_all-from_sort}

abbrev below : Fault → Fault → Bool
below x y = is_lt (fault_cmp x y)

below-order : IsStrictWeakOrder below
below-order = ranks_by fault_cmp-total (λ fault. fault)

put-placed : (fault : Fault) (faults : List Fault) → put below fault faults ≡ placed fault faults
put-placed fault [] = refl
put-placed fault (first ∷ rest) = ap (λ l. cond (below first fault) (first ∷ l) (fault ∷ first ∷ rest)) (put-placed fault rest)

put_all-in_order : (faults : List Fault) → put_all below faults ≡ in_order faults
put_all-in_order [] = refl
put_all-in_order (fault ∷ faults) = ap (put below fault) (put_all-in_order faults) ∙ put-placed fault (in_order faults)

pub IsSorted-in_order : (faults : List Fault) → IsSorted fault_cmp (in_order faults)
IsSorted-in_order faults = subst (IsSorted fault_cmp) (put_all-in_order faults) (IsSortedBy-put_all below below-order faults)

pub IsPermutation-in_order : (faults : List Fault) → IsPermutation faults (in_order faults)
IsPermutation-in_order faults = subst (IsPermutation faults) (put_all-in_order faults) (IsPermutation-put_all below faults)

pub in_order-from_sort : (old new : List LinedFault) → IsSorted (on (λ lined. lined.fault) fault_cmp) new → IsStable (on (λ lined. lined.fault) fault_cmp) old new
    → map (λ lined. lined.fault) new ≡ in_order (map (λ lined. lined.fault) old)
in_order-from_sort old new sorted stable =
    put_all-from_sort below below-order (λ lined. lined.fault) (λ fault. record { fault = fault; line = line_of fault; own_line = refl }) (λ fault. refl) old new sorted stable
    ∙ put_all-in_order (map (λ lined. lined.fault) old)
