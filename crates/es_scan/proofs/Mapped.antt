-- A list that a loop has mapped to its end.
use Rattle.std.proofs.Common.{◌≡◌, ◌≤◌, ℕ, List, [], ◌∷◌, map, length, take, refl}
use Rattle.std.proofs.lemmas.List.{take_all}
use Rattle.std.specs.Borrow.{Bor}

pub map_both : {X Y : Type 0} (f : X → Y) (items : List (Bor X)) → map (λ item. f item.now) items ≡ map f (map (λ item. item.now) items)
map_both f [] = refl
map_both f (item ∷ items) = let e : map (λ item. f item.now) items ≡ map f (map (λ item. item.now) items) = map_both f items in cc

-- all of what stands behind some references
pub mapped : {X Y : Type 0} (f : X → Y) (items : List (Bor X)) (all : List X) (n : ℕ) → length items ≤ n
    → map (λ item. item.now) items ≡ all → map (λ item. f item.now) (take n items) ≡ map f all
mapped f items all n short same =
    let whole : take n items ≡ items = take_all n items short in
    let both : map (λ item. f item.now) items ≡ map f (map (λ item. item.now) items) = map_both f items in
    rw whole (cc)
