-- Facts of lists, by cases on the list, and one more member of a list.
use Rattle.std.proofs.Common.{◌≡◌, ℕ, zero, suc, ◌+◌, ◌<◌, List, [], ◌∷◌, ◌++◌, length, get_or, take, refl, ap, ◌∙◌, arith}
use Rattle.std.proofs.lemmas.List.{take_more}
use Rattle.std.proofs.lemmas.List.Elements.{filter_map-append}
use Rattle.std.specs.List.{AllByRecursion}
use Rattle.std.specs.Prelude.{Option, Some, None, option_to_list, filter_map}

pub all-push : {X : Type 0} (P : X → Type 0) (xs : List X) (x : X) → AllByRecursion P xs → P x → AllByRecursion P (xs ++ x ∷ [])
all-push P [] x all one = (one, tt)
all-push P (y ∷ ys) x all one = (all.0, all-push P ys x all.1 one)

pub all-at : {X : Type 0} (P : X → Type 0) (xs : List X) (i : ℕ) (d : X) → i < length xs → AllByRecursion P xs → P (get_or xs i d)
all-at P [] i d within all = absurd (omega arith)
all-at P (x ∷ xs) zero d within all = all.0
all-at P (x ∷ xs) (suc i) d within all = all-at P xs i d (omega arith) all.1

single : {X Y : Type 0} (h : X → Option Y) (x : X) (o : Option Y) → o ≡ h x → filter_map h (x ∷ []) ≡ option_to_list o
single h x None is = rw (← is)
single h x (Some y) is = rw (← is)

-- one more member, with what h gives of it
pub filter_map-next : {X Y : Type 0} (h : X → Option Y) (xs : List X) (i : ℕ) (d : X) → i < length xs → filter_map h (take (i + 1) xs) ≡ filter_map h (take i xs) ++ option_to_list (h (get_or xs i d))
filter_map-next h xs i d within =
    ap (filter_map h) (take_more xs i d within)
    ∙ filter_map-append h (take i xs) (get_or xs i d ∷ [])
    ∙ ap (λ rest. filter_map h (take i xs) ++ rest) (single h (get_or xs i d) _ refl)
