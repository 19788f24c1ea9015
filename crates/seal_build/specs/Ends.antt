-- The ends of the calls below as ends of sealing (this project).
use Rattle.chunk_groups.specs.declared.groups_end.GroupsEnd.{GroupsEnd}
use Rattle.chunk_groups.specs.declared.groups_end.GroupsEnd.TheVariants as of_groups
use Rattle.fault_place.specs.declared.limit.Limit.TheVariants as limits
use Rattle.split_chunks.specs.declared.split_end.SplitEnd.{SplitEnd}
use Rattle.split_chunks.specs.declared.split_end.SplitEnd.TheVariants as of_splits
use Rattle.seal_build.specs.declared.seal_end.SealEnd.{SealEnd}
use Rattle.seal_build.specs.declared.seal_end.SealEnd.TheVariants as of_seal

abbrev pub end_of_groups : GroupsEnd → SealEnd
end_of_groups (of_groups.Faults faults) = of_seal.Faults faults
end_of_groups of_groups.Limit = of_seal.Limit limits.Groups
end_of_groups of_groups.NoMemory = of_seal.NoMemory

abbrev pub end_of_splits : SplitEnd → SealEnd
end_of_splits of_splits.Limit = of_seal.Limit limits.Chunks
end_of_splits of_splits.NoMemory = of_seal.NoMemory
