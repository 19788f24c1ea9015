-- One level of a condition.
use Rattle.std.proofs.Common.{◌≡◌, ℕ, Bool, ◌||◌, List, [], ◌∷◌, map, refl, sym, ap, ◌∙◌, rules}
use Rattle.std.specs.List.{list_all, list_any}
use Rattle.std.proofs.lemmas.List.Folds.{list_all-map}
use Rattle.graph_types.specs.declared.condition.Condition.{Condition}
use Rattle.graph_types.specs.declared.condition.Condition.TheVariants as condition
use Rattle.graph_types.specs.declared.condition.Condition.TheFolds.{fold_out-Condition}
use Rattle.graph_types.specs.declared.condition.Condition.TheViews.{the_lemmas}
use Rattle.graph_types.specs.Condition.{holds}

any_map : {X Y : Type 0} (p : Y → Bool) (f : X → Y) (xs : List X) → list_any p (map f xs) ≡ list_any (λ x. p (f x)) xs
any_map p f [] = refl
any_map p f (x ∷ xs) = ap (λ rest. p (f x) || rest) (any_map p f xs)

and_fold : (path : List ℕ) (members : List Condition) → holds path (condition.And members) ≡ list_all (λ member. member) (map (holds path) members)
and_fold path members = search (rules, the_lemmas, fold_out-Condition)

or_fold : (path : List ℕ) (members : List Condition) → holds path (condition.Or members) ≡ list_any (λ member. member) (map (holds path) members)
or_fold path members = search (rules, the_lemmas, fold_out-Condition)

pub all_members : (path : List ℕ) (members : List Condition) → list_all (holds path) members ≡ holds path (condition.And members)
all_members path members = sym (and_fold path members ∙ list_all-map (λ member. member) (holds path) members)

pub some_member : (path : List ℕ) (members : List Condition) → list_any (holds path) members ≡ holds path (condition.Or members)
some_member path members = sym (or_fold path members ∙ any_map (λ member. member) (holds path) members)
