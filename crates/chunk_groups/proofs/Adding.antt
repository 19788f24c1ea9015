-- Lists to which one more member is added where there is one.
use Rattle.std.proofs.Common.{◌≡◌, ℕ, ◌+◌, ◌<◌, List, [], ◌∷◌, ◌++◌, append_assoc, length, get_or, map, take, sym, ap, ◌∙◌, arith}
use Rattle.std.specs.Prelude.{Option, option_to_list, filter_map}
use Rattle.std.specs.List.{enumerate_from}
use Rattle.std.proofs.lemmas.List.{map-append, take_more}
use Rattle.std.proofs.lemmas.List.FromFn.{get_or-enumerate_from}
use Rattle.graph_types.proofs.Numbering.{filter_map-next}

module _ {X Y : Type 0} (h : X → Option Y) (xs : List X) (i : ℕ) (d : X) (within : i < length xs) where
  pub added : (old new : List Y) (o : Option Y) → new ≡ old ++ option_to_list o → old ≡ filter_map h (take i xs) → o ≡ h (get_or xs i d) → new ≡ filter_map h (take (i + 1) xs)
  added old new o new_is old_is is =
      new_is ∙ ap (λ l. l ++ option_to_list o) old_is ∙ ap (λ p. filter_map h (take i xs) ++ option_to_list p) is ∙ sym (filter_map-next h xs i d within)

  pub added-behind : (front old new : List Y) (o : Option Y) → new ≡ old ++ option_to_list o → old ≡ front ++ filter_map h (take i xs) → o ≡ h (get_or xs i d) → new ≡ front ++ filter_map h (take (i + 1) xs)
  added-behind front old new o new_is old_is is =
      new_is ∙ ap (λ l. l ++ option_to_list o) old_is ∙ append_assoc front (filter_map h (take i xs)) (option_to_list o)
      ∙ ap (λ p. front ++ (filter_map h (take i xs) ++ option_to_list p)) is ∙ ap (λ l. front ++ l) (sym (filter_map-next h xs i d within))

pub mapped : {X Y : Type 0} (f : X → Y) (xs : List X) (i : ℕ) (d : X) → i < length xs → (old new : List Y) (y : Y) → new ≡ old ++ y ∷ [] → old ≡ map f (take i xs) → y ≡ f (get_or xs i d) → new ≡ map f (take (i + 1) xs)
mapped f xs i d within old new y new_is old_is is =
    new_is ∙ (λ j. old_is j ++ is j ∷ []) ∙ sym (ap (map f) (take_more xs i d within) ∙ map-append f (take i xs) (get_or xs i d ∷ []))

-- the first numbers and one more
pub numbered-at : {X : Type 0} (xs : List X) (i : ℕ) (x : X) → i < length xs → x ≡ get_or xs i x → (i, x) ≡ get_or (enumerate_from 0 xs) i (0, x)
numbered-at xs i x within is =
    let at : 0 + i ≡ i = omega arith in
    (λ j. (sym at j, is j)) ∙ sym (get_or-enumerate_from 0 xs i (0, x) within)
