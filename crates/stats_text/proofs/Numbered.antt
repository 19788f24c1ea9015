-- One more of the members that a loop goes over by their numbers.
use Rattle.std.proofs.Common.{◌≡◌, ℕ, ◌+◌, ◌<◌, List, [], ◌∷◌, ◌++◌, length, map, get_or, take, refl, sym, ap, ◌∙◌}
use Rattle.std.proofs.lemmas.List.{map-append}
use Rattle.std.proofs.lemmas.List.Elements.{filter_map-append}
use Rattle.std.specs.List.{enumerate_from, range_with_len}
use Rattle.std.specs.Prelude.{Option, Some, None, option_to_list, filter_map}
use Rattle.graph_types.proofs.Numbering.{enumerate_from-more}
use Rattle.stats_text.proofs.Held.{range-more}

pub map-more : {X Y : Type 0} (f : ℕ × X → Y) (xs : List X) (i : ℕ) (x : X) → i < length xs → x ≡ get_or xs i x → map f (enumerate_from 0 (take (i + 1) xs)) ≡ map f (enumerate_from 0 (take i xs)) ++ f (i, x) ∷ []
map-more f xs i x within is =
    let front = enumerate_from 0 (take i xs) in
    ap (map f) (enumerate_from-more xs i x within)
    ∙ map-append f front ((i, get_or xs i x) ∷ [])
    ∙ ap (λ y. map f front ++ f (i, y) ∷ []) (sym is)

single : {Y : Type 0} (h : ℕ → Option Y) (i : ℕ) (o : Option Y) → o ≡ h i → filter_map h (i ∷ []) ≡ option_to_list o
single h i None is = rw (← is)
single h i (Some y) is = rw (← is)

-- one more number, with what h gives of it
pub filter_map_range-more : {Y : Type 0} (h : ℕ → Option Y) (n : ℕ) → filter_map h (range_with_len 0 (n + 1)) ≡ filter_map h (range_with_len 0 n) ++ option_to_list (h n)
filter_map_range-more h n =
    ap (filter_map h) (range-more n)
    ∙ filter_map-append h (range_with_len 0 n) (n ∷ [])
    ∙ ap (λ last. filter_map h (range_with_len 0 n) ++ last) (single h n (h n) refl)
