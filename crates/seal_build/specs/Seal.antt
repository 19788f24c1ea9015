-- What a module graph is sealed to (this project). Of the limits and faults that may stand together, the first that is asked
-- of here is answered: groups, names of groups, chunks, bytes, names of assets.
use Rattle.std.specs.Prelude.{◌≡◌, ℕ, ◌+◌, ◌≤◌, ◌⊎◌, not, nat_lt, List, [], ◌∷◌, length, Result, Ok, Err, MatchResult, if◌then◌else◌}
use Rattle.std.specs.List.{count_by}
use Rattle.asset_names.specs.Clashes.{clashes_of}
use Rattle.bit_rows.specs.Table.{Table}
use Rattle.chunk_graph.specs.Chunks.{State}
use Rattle.chunk_graph.specs.declared.split.Split.{Split}
use Rattle.chunk_groups.specs.Answer.{groups_or_end}
use Rattle.chunk_groups.specs.ChunkGroups.{TellsGroups}
use Rattle.chunk_groups.specs.declared.groups_end.GroupsEnd.{GroupsEnd}
use Rattle.chunk_groups.specs.declared.groups_end.GroupsEnd.TheVariants as groups_ends
use Rattle.fault_place.specs.declared.fault.Fault.{Fault}
use Rattle.fault_place.specs.declared.limit.Limit.TheVariants as limits
use Rattle.pack_util.specs.declared.number.GroupNo.{GroupNo}
use Rattle.fault_place.specs.Fault.{in_order}
use Rattle.fault_place.specs.Limit.{number_of}
use Rattle.graph_types.specs.declared.config.Config.{Config}
use Rattle.graph_types.specs.declared.groups.GroupInfo.{GroupInfo}
use Rattle.graph_types.specs.Edges.{blocks_of}
use Rattle.graph_types.specs.Modules.{Graph}
use Rattle.module_code.specs.View.{Sealing}
use Rattle.split_plan.specs.Plan.{plan_of}
use Rattle.split_plan.specs.Step.{NeedTooMany}
use Rattle.seal_build.specs.Assets.{asset_bytes, chunk_assets, named_assets, stats_bytes}
use Rattle.seal_build.specs.Final.{ArePlaced, IsFinal, before_splits}
use Rattle.seal_build.specs.declared.seal_end.SealEnd.{SealEnd}
use Rattle.seal_build.specs.declared.seal_end.SealEnd.TheVariants.{Faults, Limit, NoMemory}
use Rattle.seal_build.specs.declared.sealed.Sealed.{Sealed}

-- the bytes of all assets, those of the stats among them
abbrev pub output_bytes : Sealing → List Split → ℕ
output_bytes view splits = asset_bytes (chunk_assets view) + length (stats_bytes view splits)

-- how many chunks aren't gone
abbrev pub count_there : State → ℕ
count_there state = count_by (λ chunk. not chunk.gone) state.chunks

abbrev pub sealed_of : Sealing → List Split → Sealed
sealed_of view splits = record {
  assets = chunk_assets view;
  stats = stats_bytes view splits;
  groups = length view.groups.infos;
  chunks = count_there view.chunks;
  splits = length splits;
}

abbrev pub unless_clash : List Fault → Sealed → Result Sealed SealEnd
unless_clash [] sealed = Ok sealed
unless_clash (fault ∷ faults) sealed = Err (Faults (in_order (fault ∷ faults)))

-- what these chunks give, with the configuration at the path
abbrev pub finished : List ℕ → Sealing → List Split → Result Sealed SealEnd
finished path view splits =
    if nat_lt (number_of limits.OutputBytes) (output_bytes view splits)
    then Err (Limit limits.OutputBytes)
    else unless_clash (clashes_of path (named_assets view)) (sealed_of view splits)

-- the splits need more numbers of chunks than there are
pub record NeedMoreChunks (graph : Graph) (config : Config) (infos : List GroupInfo) : Type 0 where
  pub table : Table
  pub placed : ArePlaced graph infos table
  pub last : State
  pub too_many : NeedTooMany (plan_of graph config) (before_splits config infos table) last

abbrev pub sealing : Graph → Config → List GroupInfo → List GroupNo → State → Sealing
sealing graph config infos of_block final =
    record { graph = graph; groups = record { infos = infos; of_block = of_block }; chunks = final; config = config }

-- what the final chunks of the groups give
pub record IsFinished (graph : Graph) (config : Config) (path : List ℕ) (infos : List GroupInfo) (result : Result Sealed SealEnd) : Type 0 where
  pub of_block : List GroupNo
  pub tells : TellsGroups (length (blocks_of graph.records)) (record { infos = infos; of_block = of_block })
  pub splits : List Split
  pub final : State
  pub is_final : IsFinal graph config infos splits final
  pub few : length final.chunks ≤ number_of limits.Chunks
  pub is : result ≡ finished path (sealing graph config infos of_block final) splits

-- what the groups give, where they can be told
abbrev pub SealsGroups : Graph → Config → List ℕ → Result (List GroupInfo) GroupsEnd → Result Sealed SealEnd → Type 0
SealsGroups graph config path (Err groups_ends.Limit) result = result ≡ Err (Limit limits.Groups)
SealsGroups graph config path (Err (groups_ends.Faults faults)) result = result ≡ Err (Faults faults)
SealsGroups graph config path (Err groups_ends.NoMemory) result = ⊥
SealsGroups graph config path (Ok infos) result =
    (NeedMoreChunks graph config infos × (result ≡ Err (Limit limits.Chunks))) ⊎ IsFinished graph config path infos result

-- what the graph is sealed to by the configuration at the path
abbrev pub SealsTo : Graph → Config → List ℕ → Result Sealed SealEnd → Type 0
SealsTo graph config path result = SealsGroups graph config path (groups_or_end graph config.entries config.cache_groups path) result

-- the answer of `seal`: what the graph is sealed to, or memory ran out
abbrev pub Seals : Graph → Config → List ℕ → Result Sealed SealEnd → Type 0
Seals graph config path result =
    MatchResult result (λ sealed. SealsTo graph config path (Ok sealed)) (λ end. (end ≡ NoMemory) ⊎ SealsTo graph config path (Err end))
