-- What the answer on groups says.
use Rattle.std.proofs.Common.{◌≡◌, ℕ, ◌≤◌, Bool, true, false, List, [], ◌∷◌, length, refl, sym, ap, arith}
use Rattle.std.specs.Prelude.{Result, Ok, Err, if◌then◌else◌, nat_lt}
use Rattle.chunk_groups.specs.Answer.{groups_or_end, unless_faults}
use Rattle.chunk_groups.specs.ChunkGroups.{groups_of, numbered_blocks}
use Rattle.chunk_groups.specs.NameFaults.{name_faults}
use Rattle.chunk_groups.specs.declared.groups_end.GroupsEnd.{GroupsEnd}
use Rattle.chunk_groups.specs.declared.groups_end.GroupsEnd.TheVariants as of_groups
use Rattle.chunk_groups.proofs.Counted.{not-above}
use Rattle.chunk_groups.proofs.Filed.{groups-count}
use Rattle.fault_place.specs.declared.fault.Fault.{Fault}
use Rattle.graph_types.specs.declared.config.Config.{Config}
use Rattle.graph_types.specs.declared.groups.GroupInfo.{GroupInfo}
use Rattle.graph_types.specs.Modules.{Graph}

-- ---- the groups, where there are some

abbrev value : List GroupInfo → Result (List GroupInfo) GroupsEnd → List GroupInfo
value default (Ok groups) = groups
value default (Err end) = default

under_limit : (above : Bool) (answer : Result (List GroupInfo) GroupsEnd) (infos : List GroupInfo) → (if above then Err of_groups.Limit else answer) ≡ Ok infos
    → (above ≡ false) × (answer ≡ Ok infos)
under_limit true answer infos e = cc
under_limit false answer infos e = (refl, e)

no_fault : (faults : List Fault) (groups infos : List GroupInfo) → unless_faults faults groups ≡ Ok infos → groups ≡ infos
no_fault [] groups infos e = ap (value infos) e
no_fault (fault ∷ faults) groups infos e = cc

pub told-groups : (graph : Graph) (config : Config) (path : List ℕ) (infos : List GroupInfo) → groups_or_end graph config.entries config.cache_groups path ≡ Ok infos
    → (length config.entries ≤ length infos) × (length infos ≤ 4096)
told-groups graph config path infos e =
    let all = groups_of graph config.entries in
    let within = under_limit (nat_lt 4096 (length all)) _ infos e in
    let is = no_fault (name_faults graph.records config.entries config.cache_groups path) all infos within.1 in
    let count = groups-count graph config.entries (numbered_blocks graph.records) in
    (omega (arith, ap length is, count), omega (arith, ap length is, not-above 4096 (length all) (sym within.0)))
