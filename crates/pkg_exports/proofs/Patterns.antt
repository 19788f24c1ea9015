-- The member of a map that decides matches, so its `*` stands for something.
use Rattle.std.proofs.Common.{◌≡◌, ℕ, Bool, true, false, not, ◌&&◌, cond, List, [], ◌∷◌, Some, None, refl, sym, ap, ◌∙◌}
use Rattle.std.specs.List.{filter, find, list_any}
use Rattle.json_order.specs.declared.tree.JsonPair.{JsonPair}
use Rattle.pkg_exports.specs.declared.outcome.Outcome.TheVariants.{Undefined}
use Rattle.pkg_exports.specs.Exports.{greatest, matches_of, pattern_outcome}
use Rattle.pkg_exports.specs.Keys.{is_match, matched_part, outranks}
use Rattle.pkg_exports.specs.Segments.{has_refused_segment}
use Rattle.pkg_exports.specs.Targets.{outcome_of}

passed : {X : Type 0} (p q : X → Bool) (y x : X) (rest : List X) (found : Bool) → p y ≡ true → (find q rest ≡ Some x → p x ≡ true) → cond found (Some y) (find q rest) ≡ Some x → p x ≡ true
passed p q y x rest true py more e = let same : y ≡ x = cc in sym (ap p same) ∙ py
passed p q y x rest false py more e = more e

step : {X : Type 0} (p q : X → Bool) (y x : X) (rest : List X) (b : Bool) → p y ≡ b → (find q rest ≡ Some x → p x ≡ true) → find q (cond b (y ∷ rest) rest) ≡ Some x → p x ≡ true
step p q y x rest true py more e = passed p q y x rest (q y) py more e
step p q y x rest false py more e = more e

found_passes : {X : Type 0} (p q : X → Bool) (x : X) (xs : List X) → find q (filter p xs) ≡ Some x → p x ≡ true
found_passes p q x [] e = cc
found_passes p q x (y ∷ xs) e = step p q y x (filter p xs) (p y) refl (found_passes p q x xs) e

allowed : (match refused : Bool) (part whole : List ℕ) → match ≡ true → Some part ≡ cond (match && not refused) (Some whole) None → (part ≡ whole) × (refused ≡ false)
allowed true true part whole e is = cc
allowed true false part whole e is = (cc, refl)
allowed false refused part whole e is = cc

denied : (match refused : Bool) (whole : List ℕ) → match ≡ true → None ≡ cond (match && not refused) (Some whole) None → refused ≡ true
denied true true whole e is = refl
denied true false whole e is = cc
denied false refused whole e is = cc

module _ (subpath : List ℕ) (conditions : List (List ℕ)) (pairs : List JsonPair) (pair : JsonPair) (decides : Some pair ≡ greatest (matches_of subpath pairs)) where
  matches : is_match subpath pair.key ≡ true
  matches = found_passes (λ other. is_match subpath other.key) (λ one. not (list_any (λ other. outranks other.key one.key) (matches_of subpath pairs))) pair pairs (sym decides)

  pub pattern_some : (part : List ℕ) → Some part ≡ cond (is_match subpath pair.key && not (has_refused_segment (matched_part subpath pair.key))) (Some (matched_part subpath pair.key)) None →
      outcome_of part conditions pair.value ≡ pattern_outcome subpath conditions (greatest (matches_of subpath pairs))
  pattern_some part is =
      let w = allowed (is_match subpath pair.key) (has_refused_segment (matched_part subpath pair.key)) part (matched_part subpath pair.key) matches is in
      ap (λ text. outcome_of text conditions pair.value) w.0
      ∙ ap (λ b. cond b Undefined (outcome_of (matched_part subpath pair.key) conditions pair.value)) (sym w.1)
      ∙ ap (pattern_outcome subpath conditions) decides

  pub pattern_none : None ≡ cond (is_match subpath pair.key && not (has_refused_segment (matched_part subpath pair.key))) (Some (matched_part subpath pair.key)) None →
      Undefined ≡ pattern_outcome subpath conditions (greatest (matches_of subpath pairs))
  pattern_none is =
      let w = denied (is_match subpath pair.key) (has_refused_segment (matched_part subpath pair.key)) (matched_part subpath pair.key) matches is in
      ap (λ b. cond b Undefined (outcome_of (matched_part subpath pair.key) conditions pair.value)) (sym w)
      ∙ ap (pattern_outcome subpath conditions) decides
