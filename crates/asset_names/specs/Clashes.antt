-- Names that clash: an asset's with an earlier asset's, or with that of the stats (this project). A member is a chunk's id
-- with the name of its asset.
use Rattle.std.specs.Prelude.{◌≢◌, ℕ, List, [], ◌∷◌, ◌++◌, take, find, codes, bytes_eq, Option, Some, None, option_map, if◌then◌else◌}
use Rattle.std.specs.List.{All, AllPairs, flat_map, enumerate_from}
use Rattle.fault_place.specs.Place.{place_in}
use Rattle.fault_place.specs.declared.fault.Fault.{Fault}
use Rattle.fault_place.specs.declared.fault.FaultKind.TheVariants.{AssetClash}

-- the chunk of the first member with a name
abbrev pub first_named : List (ℕ × List ℕ) → List ℕ → Option ℕ
first_named members name = option_map (λ member. member.0) (find (λ member. bytes_eq name member.1) members)

-- a fault at the start of the configuration
abbrev pub clash_fault : List ℕ → ℕ → Option ℕ → List ℕ → Fault
clash_fault path first other name = record { place = place_in path [] 0; kind = AssetClash first other; detail = name }

-- the clash with an earlier member, if one has the name
abbrev pub first_clash : List ℕ → Option ℕ → ℕ → List ℕ → List Fault
first_clash path None id name = []
first_clash path (Some first) id name = clash_fault path first (Some id) name ∷ []

-- the clash with the stats
abbrev pub stats_clash : List ℕ → ℕ → List ℕ → List Fault
stats_clash path id name = if bytes_eq name (codes "stats.json") then clash_fault path id None name ∷ [] else []

-- the clashes at a member behind others
abbrev pub clashes_at : List ℕ → List (ℕ × List ℕ) → ℕ × List ℕ → List Fault
clashes_at path earlier member =
    first_clash path (first_named earlier member.1) member.0 member.1 ++ stats_clash path member.0 member.1

-- the clashes at each member, in the members' order
abbrev pub clashes_of : List ℕ → List (ℕ × List ℕ) → List Fault
clashes_of path members =
    flat_map (λ placed. clashes_at path (take placed.0 members) placed.1) (enumerate_from 0 members)

-- no two members have one name, and none has that of the stats
pub record HaveOwnNames (members : List (ℕ × List ℕ)) : Type 0 where
  pub apart : AllPairs (λ one other. one.1 ≢ other.1) members
  pub no_stats : All (λ member. member.1 ≢ codes "stats.json") members
