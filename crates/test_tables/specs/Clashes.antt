-- The clashes among the names of six assets, and none among four.
use Rattle.std.specs.Prelude.{◌≡◌, ℕ, List, [], ◌∷◌, codes, Option, Some, None}
use Rattle.fault_place.specs.declared.fault.Fault.{Fault}
use Rattle.fault_place.specs.declared.fault.FaultKind.TheVariants.{AssetClash}
use Rattle.asset_names.specs.Clashes.{clashes_of}

abbrev pub clashing : List (ℕ × List ℕ)
clashing =
    (0, codes "a.js") ∷ (1, codes "a.js") ∷ (2, codes "b.js") ∷ (4, codes "stats.json") ∷ (5, codes "a.js") ∷ (6, codes "stats.json") ∷ []

abbrev pub distinct : List (ℕ × List ℕ)
distinct = (0, codes "a.js") ∷ (1, codes "A.js") ∷ (2, codes "stats.jso") ∷ (3, codes "js/stats.json") ∷ []

-- a clash at the first place of c.json
abbrev pub clash : List ℕ → ℕ → Option ℕ → Fault
clash name first other = record {
  place = record { path = codes "c.json"; offset = 0; line = 1; column = 1 };
  kind = AssetClash first other;
  detail = name;
}

pub record ClashesAreFound : Type 0 where
  pub five : clashes_of (codes "c.json") clashing
      ≡ clash (codes "a.js") 0 (Some 1) ∷ clash (codes "stats.json") 4 None ∷ clash (codes "a.js") 0 (Some 5)
      ∷ clash (codes "stats.json") 4 (Some 6) ∷ clash (codes "stats.json") 6 None ∷ []
  pub none : clashes_of (codes "c.json") distinct ≡ []
