-- Names of groups seen one after another, and the set of them.
use Rattle.std.proofs.Common.{◌≡◌, ℕ, Bool, true, false, cond, List, [], ◌∷◌, ◌++◌, Option, Some, refl, sym, ap, ◌∙◌}
use Rattle.std.specs.Prelude.{◌||◌}
use Rattle.std.specs.BTreeSet.{BTreeSet, contains}
use Rattle.std.specs.Cmp.Lexicographic.{slice_cmp}
use Rattle.std.specs.List.{list_any}
use Rattle.std.specs.Ordering.{nat_cmp, is_eq}
use Rattle.std.specs.Str.{bytes_eq}
use Rattle.std.proofs.lemmas.List.Folds.{list_any-append}
use Rattle.std.proofs.lemmas.Map.Text.{is_eq-slice_cmp}
use Rattle.json_order.specs.declared.tree.JsonPair.{JsonPair}
use Rattle.pack_config.specs.Splits.{has_name, is_text, name_value}
use Rattle.pack_config.specs.Values.{text_value}
use Rattle.pack_config.specs.inner.Seen.{HasNamesOf}

or_false : (a b : Bool) → (a || (b || false)) ≡ cond b true a
or_false true true = refl
or_false true false = refl
or_false false true = refl
or_false false false = refl

-- whether one of the groups, or the one behind them, has a name
any_more : (name : List ℕ) (earlier : List JsonPair) (pair : JsonPair) (found : Option (List ℕ)) → text_value (name_value pair) ≡ found →
    list_any (has_name name) (earlier ++ pair ∷ []) ≡ cond (is_text name found) true (list_any (has_name name) earlier)
any_more name earlier pair found e =
    list_any-append (has_name name) earlier (pair ∷ [])
    ∙ or_false (list_any (has_name name) earlier) (has_name name pair)
    ∙ ap (λ value. cond (is_text name value) true (list_any (has_name name) earlier)) e

-- a group with a name adds it to the set
pub names_more : (old new : BTreeSet (List ℕ)) (earlier : List JsonPair) (pair : JsonPair) (key : List ℕ) → text_value (name_value pair) ≡ Some key →
    ((name : List ℕ) → contains (slice_cmp nat_cmp) new name ≡ cond (is_eq (slice_cmp nat_cmp key name)) true (contains (slice_cmp nat_cmp) old name)) →
    HasNamesOf old earlier → HasNamesOf new (earlier ++ pair ∷ [])
names_more old new earlier pair key e changed held = record {
  has = λ name.
      changed name
      ∙ ap (λ b. cond b true (contains (slice_cmp nat_cmp) old name)) (is_eq-slice_cmp key name)
      ∙ ap (λ b. cond (bytes_eq key name) true b) (held.has name)
      ∙ sym (any_more name earlier pair (Some key) e);
}
