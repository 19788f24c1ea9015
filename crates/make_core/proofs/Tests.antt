-- What the tests of a quiet state tell.
use Rattle.std.proofs.Common.{◌≡◌, ◌↔◌, ℕ, zero, suc, Bool, true, List, [], ◌∷◌, Option, Some, None, IsTrue, is_some, refl, sym, ◌∙◌, subst}
use Rattle.std.specs.List.{AllByRecursion, list_all}
use Rattle.std.specs.Option.{option_map_or}
use Rattle.std.proofs.lemmas.Bool.{and_from, and_parts}
use Rattle.std.proofs.lemmas.Option.{none-some, same_Some}
use Rattle.graph_types.specs.declared.record.ModRecord.{ModRecord}
use Rattle.graph_types.specs.Targets.{targets_of}
use Rattle.make_core.specs.Core.{Core, IsOwned, done_of, entries_of, names_owned, value_of}
use Rattle.make_core.specs.declared.plan.CorePlan.{CorePlan}
use Rattle.make_core.proofs.Members.{list_all-AllByRecursion}

module _ {X : Type 0} (test : X → Bool) where
  -- a test of the values of a map
  each_value : (places : List (Option X)) → list_all (λ o. option_map_or test o true) places ≡ true → (k : ℕ) (x : X) → value_of places k ≡ Some x → test x ≡ true
  each_value [] t k x e = absurd (none-some x e)
  each_value (None ∷ places) t zero x e = absurd (none-some x e)
  each_value (Some y ∷ places) t zero x e = subst (λ z. test z ≡ true) (same_Some y x e) (and_parts _ _ t).0
  each_value (o ∷ places) t (suc k) x e = each_value places (and_parts _ _ t).1 k x e

  all_values : (places : List (Option X)) → ((k : ℕ) (x : X) → value_of places k ≡ Some x → test x ≡ true) → list_all (λ o. option_map_or test o true) places ≡ true
  all_values [] each = refl
  all_values (None ∷ places) each = all_values places (λ k. each (suc k))
  all_values (Some y ∷ places) each = and_from _ _ (each zero y refl) (all_values places (λ k. each (suc k)))

module _ (plan : CorePlan) (state : Core) where
  pub entries_told : (r : Bool) → r ≡ list_all (λ entry. is_some (value_of state.owner entry)) (entries_of plan) → IsTrue r ↔ AllByRecursion (IsOwned state) (entries_of plan)
  entries_told r e = list_all-AllByRecursion (λ entry. is_some (value_of state.owner entry)) (entries_of plan) r e

  pub targets_told : (r : Bool) → r ≡ list_all (λ o. option_map_or (names_owned state.owner) o true) state.done
      → IsTrue r ↔ ((file : ℕ) (rec : ModRecord) → done_of state file ≡ Some rec → AllByRecursion (IsOwned state) (targets_of rec))
  targets_told r e =
      let each = λ (rec : ModRecord). list_all-AllByRecursion (λ target. is_some (value_of state.owner target)) (targets_of rec) (names_owned state.owner rec) refl in (
        λ t file rec is. (each rec).0 (each_value (names_owned state.owner) state.done (sym e ∙ t) file rec is),
        λ all. e ∙ all_values (names_owned state.owner) state.done (λ file rec is. (each rec).1 (all file rec is)),
      )
