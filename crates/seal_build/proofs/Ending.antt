-- What the final chunks give is what the graph is sealed to.
use Rattle.std.proofs.Common.{◌≡◌, ℕ, ◌≤◌, ◌⊎◌, List, length, sym, subst, inl, inr}
use Rattle.std.specs.Prelude.{Result, Ok, Err}
use Rattle.chunk_graph.specs.declared.split.Split.{Split}
use Rattle.chunk_graph.specs.Chunks.{State}
use Rattle.chunk_groups.specs.Answer.{groups_or_end}
use Rattle.chunk_groups.specs.ChunkGroups.{TellsGroups}
use Rattle.chunk_groups.specs.declared.groups_end.GroupsEnd.{GroupsEnd}
use Rattle.fault_place.specs.declared.limit.Limit.TheVariants.{Chunks}
use Rattle.pack_util.specs.declared.number.GroupNo.{GroupNo}
use Rattle.graph_types.specs.declared.config.Config.{Config}
use Rattle.graph_types.specs.declared.groups.GroupInfo.{GroupInfo}
use Rattle.graph_types.specs.Edges.{blocks_of}
use Rattle.graph_types.specs.Modules.{Graph}
use Rattle.pack_util.specs.Answers.{Answers}
use Rattle.seal_build.specs.Final.{IsFinal}
use Rattle.seal_build.specs.Seal.{IsFinished, NeedMoreChunks, Seals, SealsGroups, SealsTo, finished, sealing}
use Rattle.seal_build.specs.declared.seal_end.SealEnd.{SealEnd}
use Rattle.seal_build.specs.declared.seal_end.SealEnd.TheVariants.{Limit, NoMemory}
use Rattle.seal_build.specs.declared.sealed.Sealed.{Sealed}

seals_groups : (graph : Graph) (config : Config) (path : List ℕ) (infos : List GroupInfo) (result : Result Sealed SealEnd) → groups_or_end graph config.entries config.cache_groups path ≡ Ok infos
    → (NeedMoreChunks graph config infos × (result ≡ Err (Limit Chunks))) ⊎ IsFinished graph config path infos result → SealsTo graph config path result
seals_groups graph config path infos result told seals =
    let P : Result (List GroupInfo) GroupsEnd → Type 0 = λ r. SealsGroups graph config path r result in
    subst P (sym told) seals

pub sealed-by : (graph : Graph) (config : Config) (path : List ℕ) (infos : List GroupInfo) (of_block : List GroupNo) (splits : List Split) (final : State) (result : Result Sealed SealEnd)
    → groups_or_end graph config.entries config.cache_groups path ≡ Ok infos → TellsGroups (length (blocks_of graph.records)) (record { infos = infos; of_block = of_block })
    → IsFinal graph config infos splits final → length final.chunks ≤ 8192
    → Answers NoMemory (λ (sealed : Sealed). sealed) (finished path (sealing graph config infos of_block final) splits) result → Seals graph config path result
sealed-by graph config path infos of_block splits final (Ok sealed) told tells is few answer =
    seals_groups graph config path infos (Ok sealed) told (inr (record { of_block = of_block; tells = tells; splits = splits; final = final; is_final = is; few = few; is = sym answer }))
sealed-by graph config path infos of_block splits final (Err end) told tells is few (inl none) = inl none
sealed-by graph config path infos of_block splits final (Err end) told tells is few (inr answer) =
    inr (seals_groups graph config path infos (Err end) told (inr (record { of_block = of_block; tells = tells; splits = splits; final = final; is_final = is; few = few; is = sym answer })))
