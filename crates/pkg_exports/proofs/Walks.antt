-- What the values left decide, after those passed.
use Rattle.std.proofs.Common.{◌≡◌, ℕ, Bool, true, false, List, [], ◌∷◌, map, cond, reverse, get_or, take, drop, length, ◌-◌, suc, ◌+◌, ◌<◌, ◌≤◌, ◌||◌, add-one, drop-cons, Option, Some, None, refl, sym, ap, ◌∙◌, arith, rules}
use Rattle.std.specs.List.{filter, find, list_any}
use Rattle.std.specs.Option.{option_or, unwrap_or}
use Rattle.std.proofs.lemmas.List.{drop-drop, get_or-drop, length-drop, reverse-append, take_all}
use Rattle.std.proofs.lemmas.List.Folds.{find-append}
use Rattle.json_order.specs.declared.tree.JsonPair.{JsonPair}
use Rattle.json_order.specs.declared.tree.JsonTree.{JsonTree}
use Rattle.json_order.specs.declared.tree.JsonNode.{JsonNode}
use Rattle.json_order.specs.declared.tree.JsonNode.TheVariants as node
use Rattle.json_order.specs.declared.tree.JsonNode.TheFolds.{fold_out-JsonTree, fold_out-JsonPair, fold_out-JsonNode, fold-JsonNode, fold-JsonPair}
use Rattle.json_order.specs.declared.tree.JsonNode.TheViews.{the_lemmas}
use Rattle.pkg_exports.specs.declared.outcome.Outcome.{Outcome}
use Rattle.pkg_exports.specs.declared.outcome.Outcome.TheVariants.{Undefined, Null, BadKey}
use Rattle.pkg_exports.specs.inner.Steps.{later_of}
use Rattle.pkg_exports.specs.Keys.{is_array_index, is_met}
use Rattle.pkg_exports.specs.Targets.{ends_list, is_defined, is_null_or_bad, list_outcome, node_outcome, object_outcome, outcome_of}

-- a list where `last` is what those passed leave
abbrev pub list_from : Outcome → List Outcome → Outcome
list_from last [] = last
list_from last (outcome ∷ rest) = cond (ends_list outcome) outcome (list_from (later_of last outcome) rest)

-- an object with no array index, where those passed have no say
abbrev pub object_from : List ℕ → List (List ℕ) → List JsonPair → Outcome
object_from star conditions [] = Undefined
object_from star conditions (pair ∷ rest) =
    cond (is_met conditions pair.key) (cond (is_defined (outcome_of star conditions pair.value)) (outcome_of star conditions pair.value) (object_from star conditions rest)) (object_from star conditions rest)

chosen : (b : Bool) (first last : Outcome) → unwrap_or (cond b (Some first) None) last ≡ cond b first last
chosen true first last = refl
chosen false first last = refl

behind : (found : Option Outcome) (first last : Outcome) →
    unwrap_or (option_or found (cond (is_null_or_bad first) (Some first) None)) last ≡ unwrap_or found (cond (is_null_or_bad first) first last)
behind None first last = chosen (is_null_or_bad first) first last
behind (Some outcome) first last = refl

-- one more member in front is one more at the end of the reverse
last_behind : (last first : Outcome) (rest : List Outcome) →
    unwrap_or (find is_null_or_bad (reverse (first ∷ rest))) last ≡ unwrap_or (find is_null_or_bad (reverse rest)) (cond (is_null_or_bad first) first last)
last_behind last first rest =
    rw (reverse-append (first ∷ []) rest, find-append is_null_or_bad (reverse rest) (first ∷ [])) (behind (find is_null_or_bad (reverse rest)) first last)

ended_step : (b : Bool) (outcome later : Outcome) (found : Option Outcome) (other : Outcome) → later ≡ other → cond b outcome (unwrap_or found later) ≡ unwrap_or (cond b (Some outcome) found) other
ended_step true outcome later found other e = refl
ended_step false outcome later found other e = ap (unwrap_or found) e

list_rule : (last : Outcome) (outcomes : List Outcome) →
    list_from last outcomes ≡ unwrap_or (find ends_list outcomes) (unwrap_or (find is_null_or_bad (reverse outcomes)) last)
list_rule last [] = refl
list_rule last (outcome ∷ rest) =
    ap (cond (ends_list outcome) outcome) (list_rule (later_of last outcome) rest)
    ∙ ended_step (ends_list outcome) outcome (unwrap_or (find is_null_or_bad (reverse rest)) (later_of last outcome)) (find ends_list rest)
    (unwrap_or (find is_null_or_bad (reverse (outcome ∷ rest))) last) (sym (last_behind last outcome rest))

pub list_whole : (outcomes : List Outcome) → list_from Null outcomes ≡ list_outcome outcomes
list_whole outcomes = list_rule Null outcomes

pub next : {X : Type 0} (xs : List X) (i : ℕ) (x : X) → i < length xs → x ≡ get_or xs i x → drop i xs ≡ x ∷ drop (i + 1) xs
next xs i x l e = rw add-one (drop-cons xs i x l ∙ ap (λ y. y ∷ drop (suc i) xs) (sym e))

-- the member at a place, and those behind it
module _ (star : List ℕ) (conditions : List (List ℕ)) (members : List JsonTree) (i : ℕ) (last : Outcome)
    (kept : list_from last (map (outcome_of star conditions) (drop i members)) ≡ list_outcome (map (outcome_of star conditions) members))
    (member : JsonTree) (within : i < length members) (is : member ≡ get_or members i member) (outcome : Outcome) (outcome_is : outcome ≡ outcome_of star conditions member) where
  here : list_from last (outcome ∷ map (outcome_of star conditions) (drop (i + 1) members)) ≡ list_outcome (map (outcome_of star conditions) members)
  here = rw outcome_is (rw (next members i member within is) at kept)

  pub list_ends : ends_list outcome ≡ true → outcome ≡ list_outcome (map (outcome_of star conditions) members)
  list_ends ends = let e = rw ends at here in e

  pub list_goes_on : ends_list outcome ≡ false → list_from (later_of last outcome) (map (outcome_of star conditions) (drop (i + 1) members)) ≡ list_outcome (map (outcome_of star conditions) members)
  list_goes_on goes = let e = rw goes at here in e

any_map : {X Y : Type 0} (f : X → Y) (p : Y → Bool) (xs : List X) → list_any p (map f xs) ≡ list_any (λ x. p (f x)) xs
any_map f p [] = refl
any_map f p (x ∷ xs) = ap (λ rest. p (f x) || rest) (any_map f p xs)

defined_step : (b : Bool) (outcome : Outcome) (found : Option Outcome) → cond b outcome (unwrap_or found Undefined) ≡ unwrap_or (cond b (Some outcome) found) Undefined
defined_step true outcome found = refl
defined_step false outcome found = refl

met_step : (met : Bool) (key : List ℕ) (outcome rest : Outcome) (members : List (List ℕ × Outcome)) → rest ≡ unwrap_or (find is_defined (map (λ member. member.1) members)) Undefined →
    cond met (cond (is_defined outcome) outcome rest) rest ≡ unwrap_or (find is_defined (map (λ member. member.1) (cond met ((key, outcome) ∷ members) members))) Undefined
met_step false key outcome rest members e = e
met_step true key outcome rest members e =
    ap (cond (is_defined outcome) outcome) e ∙ defined_step (is_defined outcome) outcome (find is_defined (map (λ member. member.1) members))

abbrev member_of : List ℕ → List (List ℕ) → JsonPair → List ℕ × Outcome
member_of star conditions pair = (pair.key, outcome_of star conditions pair.value)

found_rule : (star : List ℕ) (conditions : List (List ℕ)) (pairs : List JsonPair) →
    object_from star conditions pairs ≡ unwrap_or (find is_defined (map (λ member. member.1) (filter (λ member. is_met conditions member.0) (map (member_of star conditions) pairs)))) Undefined
found_rule star conditions [] = refl
found_rule star conditions (pair ∷ rest) =
    met_step (is_met conditions pair.key) pair.key (outcome_of star conditions pair.value) (object_from star conditions rest)
    (filter (λ member. is_met conditions member.0) (map (member_of star conditions) rest)) (found_rule star conditions rest)

pub object_rule : (star : List ℕ) (conditions : List (List ℕ)) (pairs : List JsonPair) → list_any (λ pair. is_array_index pair.key) pairs ≡ false →
    object_from star conditions pairs ≡ object_outcome conditions (map (λ pair. (pair.key, outcome_of star conditions pair.value)) pairs)
object_rule star conditions pairs e =
    rw (any_map (member_of star conditions) (λ member. is_array_index member.0) pairs, e) (found_rule star conditions pairs)

pub bad_key_rule : (star : List ℕ) (conditions : List (List ℕ)) (pairs : List JsonPair) → list_any (λ pair. is_array_index pair.key) pairs ≡ true →
    BadKey ≡ object_outcome conditions (map (λ pair. (pair.key, outcome_of star conditions pair.value)) pairs)
bad_key_rule star conditions pairs e =
    rw (any_map (member_of star conditions) (λ member. is_array_index member.0) pairs, e) refl

none_left : {X : Type 0} (xs : List X) → length xs < 1 → xs ≡ []
none_left [] few = refl
none_left (x ∷ xs) few = absurd (omega arith)

pub rest_is : {X : Type 0} (xs : List X) → take (length xs - 1) (drop 1 xs) ≡ drop 1 xs
rest_is xs = take_all (length xs - 1) (drop 1 xs) (omega (arith, length-drop 1 xs))

left_length : {X : Type 0} (xs left : List X) → left ≡ drop (length xs - length left) xs → length left ≡ length xs - (length xs - length left)
left_length xs left e = ap length e ∙ length-drop (length xs - length left) xs

-- what is left of a list is behind what was passed
pub behind_next : {X : Type 0} (xs left : List X) → left ≡ drop (length xs - length left) xs → 1 ≤ length left → drop 1 left ≡ drop (length xs - length (drop 1 left)) xs
behind_next xs left e some =
    let long = left_length xs left e in
    let place : length xs - length left + 1 ≡ length xs - length (drop 1 left) = omega (arith, length-drop 1 left) in
    ap (drop 1) e ∙ drop-drop 1 (length xs - length left) xs ∙ ap (λ i. drop i xs) place

pub from_left : {X : Type 0} (xs left : List X) (x : X) (i : ℕ) → left ≡ drop (length xs - length left) xs → x ≡ get_or left i x → x ≡ get_or xs (length xs - length left + i) x
from_left xs left x i e is = is ∙ ap (λ ys. get_or ys i x) e ∙ get_or-drop (length xs - length left) xs i x

pub from_left_within : {X : Type 0} (xs left : List X) (x : X) (i : ℕ) → left ≡ drop (length xs - length left) xs → x ≡ get_or left i x → i < length left → length xs - length left + i < length xs
from_left_within xs left x i e is l = omega (arith, left_length xs left e)

-- the members of an object that are left
module _ (star : List ℕ) (conditions : List (List ℕ)) (pairs left : List JsonPair) (kept : object_from star conditions left ≡ object_from star conditions pairs) where
  pub object_end : length left < 1 → list_any (λ pair. is_array_index pair.key) pairs ≡ false →
      Undefined ≡ object_outcome conditions (map (λ pair. (pair.key, outcome_of star conditions pair.value)) pairs)
  object_end few unindexed = let e = rw (none_left left few) at kept in e ∙ object_rule star conditions pairs unindexed

  module _ (pair : JsonPair) (some : 1 ≤ length left) (is : pair ≡ get_or left 0 pair) (met : is_met conditions pair.key ≡ true) (outcome : Outcome) (outcome_is : outcome ≡ outcome_of star conditions pair.value) where
    found : cond (is_defined outcome) outcome (object_from star conditions (drop 1 left)) ≡ object_from star conditions pairs
    found = rw outcome_is (let e = rw (next left 0 pair some is, met) at kept in e)

    pub object_found : is_defined outcome ≡ true → list_any (λ pair. is_array_index pair.key) pairs ≡ false →
        outcome ≡ object_outcome conditions (map (λ pair. (pair.key, outcome_of star conditions pair.value)) pairs)
    object_found defined unindexed = let e = rw defined at found in e ∙ object_rule star conditions pairs unindexed

    pub object_goes_on : is_defined outcome ≡ false → object_from star conditions (drop 1 left) ≡ object_from star conditions pairs
    object_goes_on undefined = let e = rw undefined at found in e

map_same : {X Y : Type 0} (f g : X → Y) (xs : List X) → ((x : X) → f x ≡ g x) → map f xs ≡ map g xs
map_same f g [] e = refl
map_same f g (x ∷ xs) e = ap (λ y. y ∷ map f xs) (e x) ∙ ap (λ ys. g x ∷ ys) (map_same f g xs e)

-- one level of the tree
module _ (star : List ℕ) (conditions : List (List ℕ)) where
  abbrev node_outcomes : JsonNode → Outcome
  node_outcomes = fold-JsonNode Outcome (List ℕ × Outcome) Outcome (node_outcome star conditions) (λ pair. (pair.key, pair.value)) (λ tree. tree.node)

  abbrev pair_outcomes : JsonPair → List ℕ × Outcome
  pair_outcomes = fold-JsonPair Outcome (List ℕ × Outcome) Outcome (node_outcome star conditions) (λ pair. (pair.key, pair.value)) (λ tree. tree.node)

  tree_fold : (tree : JsonTree) → outcome_of star conditions tree ≡ node_outcomes tree.node
  tree_fold tree = fold_out-JsonTree Outcome (List ℕ × Outcome) Outcome (node_outcome star conditions) (λ pair. (pair.key, pair.value)) (λ tree. tree.node) tree

  pair_fold : (pair : JsonPair) → pair_outcomes pair ≡ member_of star conditions pair
  pair_fold pair = fold_out-JsonPair Outcome (List ℕ × Outcome) Outcome (node_outcome star conditions) (λ pair. (pair.key, pair.value)) (λ tree. tree.node) pair

  object_fold : (pairs : List JsonPair) → node_outcomes (node.Object pairs) ≡ object_outcome conditions (map pair_outcomes pairs)
  object_fold pairs = search (rules, the_lemmas, fold_out-JsonNode)

  pub outcome_object : (tree : JsonTree) (pairs : List JsonPair) → tree.node ≡ node.Object pairs →
      outcome_of star conditions tree ≡ object_outcome conditions (map (λ pair. (pair.key, outcome_of star conditions pair.value)) pairs)
  outcome_object tree pairs e =
      tree_fold tree ∙ ap node_outcomes e ∙ object_fold pairs
      ∙ ap (object_outcome conditions) (map_same pair_outcomes (member_of star conditions) pairs pair_fold)
