-- An Ok answer is written from chunks that serve.
use Rattle.std.proofs.Common.{◌≡◌, ℕ, Bool, true, false, List, [], ◌∷◌, refl, ap, inl, inr}
use Rattle.std.specs.Prelude.{Result, Ok, Err, if◌then◌else◌}
use Rattle.chunk_groups.specs.Answer.{groups_or_end}
use Rattle.chunk_groups.specs.declared.groups_end.GroupsEnd.{GroupsEnd}
use Rattle.chunk_groups.specs.declared.groups_end.GroupsEnd.TheVariants as of_groups
use Rattle.fault_place.specs.declared.fault.Fault.{Fault}
use Rattle.fault_place.specs.declared.limit.Limit.TheVariants.{OutputBytes}
use Rattle.graph_types.specs.declared.config.Config.{Config}
use Rattle.graph_types.specs.declared.groups.GroupInfo.{GroupInfo}
use Rattle.graph_types.specs.Modules.{Graph}
use Rattle.seal_build.specs.Seal.{SealsGroups, SealsTo, unless_clash}
use Rattle.seal_build.specs.Served.{IsServed}
use Rattle.seal_build.specs.declared.seal_end.SealEnd.{SealEnd}
use Rattle.seal_build.specs.declared.seal_end.SealEnd.TheVariants.{Limit}
use Rattle.seal_build.specs.declared.sealed.Sealed.{Sealed}
use Rattle.seal_build.proofs.FinalServing.{final-serves}

abbrev value : Sealed → Result Sealed SealEnd → Sealed
value default (Ok sealed) = sealed
value default (Err end) = default

written : (above : Bool) (faults : List Fault) (all sealed : Sealed) → Ok sealed ≡ (if above then Err (Limit OutputBytes) else unless_clash faults all) → sealed ≡ all
written true faults all sealed e = cc
written false [] all sealed e = ap (value sealed) e
written false (fault ∷ faults) all sealed e = cc

from_groups : (graph : Graph) (config : Config) (path : List ℕ) (sealed : Sealed) (groups : Result (List GroupInfo) GroupsEnd) → groups_or_end graph config.entries config.cache_groups path ≡ groups
    → SealsGroups graph config path groups (Ok sealed) → IsServed graph config path sealed
from_groups graph config path sealed (Err of_groups.Limit) told seals = cc
from_groups graph config path sealed (Err (of_groups.Faults faults)) told seals = cc
from_groups graph config path sealed (Err of_groups.NoMemory) told seals = absurd seals
from_groups graph config path sealed (Ok infos) told (inl (need, is)) = cc
from_groups graph config path sealed (Ok infos) told (inr done) = record {
  infos = infos;
  are_groups = told;
  of_block = done.of_block;
  tells = done.tells;
  splits = done.splits;
  final = done.final;
  is_final = done.is_final;
  serves = final-serves graph config infos done.splits done.final done.is_final;
  is = written _ _ _ sealed done.is;
}

pub sealed-serves : (graph : Graph) (config : Config) (path : List ℕ) (sealed : Sealed) → SealsTo graph config path (Ok sealed) → IsServed graph config path sealed
sealed-serves graph config path sealed seals = from_groups graph config path sealed (groups_or_end graph config.entries config.cache_groups path) refl seals
