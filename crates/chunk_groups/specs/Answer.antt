-- The answer of `groups` (this project): the limit on groups comes before names that are taken.
use Rattle.std.specs.Prelude.{ℕ, nat_lt, List, [], ◌∷◌, length, Result, Ok, Err, if◌then◌else◌}
use Rattle.fault_place.specs.declared.fault.Fault.{Fault}
use Rattle.fault_place.specs.declared.limit.Limit.TheVariants.{Groups}
use Rattle.fault_place.specs.Fault.{in_order}
use Rattle.fault_place.specs.Limit.{number_of}
use Rattle.graph_types.specs.declared.cache_group.CacheGroup.{CacheGroup}
use Rattle.graph_types.specs.declared.entry.EntrySpec.{EntrySpec}
use Rattle.graph_types.specs.declared.groups.GroupInfo.{GroupInfo}
use Rattle.graph_types.specs.Modules.{Graph}
use Rattle.chunk_groups.specs.declared.groups_end.GroupsEnd.{GroupsEnd}
use Rattle.chunk_groups.specs.declared.groups_end.GroupsEnd.TheVariants as ends
use Rattle.chunk_groups.specs.ChunkGroups.{groups_of}
use Rattle.chunk_groups.specs.NameFaults.{name_faults}

-- the faults in their order, or these groups where there are none
abbrev pub unless_faults : List Fault → List GroupInfo → Result (List GroupInfo) GroupsEnd
unless_faults [] groups = Ok groups
unless_faults (fault ∷ faults) groups = Err (ends.Faults (in_order (fault ∷ faults)))

abbrev pub within_limit : List GroupInfo → Result (List GroupInfo) GroupsEnd → Result (List GroupInfo) GroupsEnd
within_limit groups answer = if nat_lt (number_of Groups) (length groups) then Err ends.Limit else answer

abbrev pub groups_or_end : Graph → List EntrySpec → List CacheGroup → List ℕ → Result (List GroupInfo) GroupsEnd
groups_or_end graph entries cache_groups path =
    within_limit (groups_of graph entries) (unless_faults (name_faults graph.records entries cache_groups path) (groups_of graph entries))
