-- The groups that modules load, by their blocks so far (this project).
use Rattle.std.specs.Prelude.{ℕ, List, map, filter_map, take, length}
use Rattle.std.specs.List.{enumerate_from, range_with_len}
use Rattle.pack_util.specs.declared.number.GroupNo.{GroupNo}
use Rattle.graph_types.specs.declared.record.ModRecord.{ModRecord}
use Rattle.graph_types.specs.Edges.{blocks_of}
use Rattle.stats_text.specs.Lists.{group_loaded, loaded_groups}

-- the groups that a module's blocks load, of the first blocks of all
abbrev pub loaded_before : ℕ → List GroupNo → List ModRecord → ℕ → List GroupNo
loaded_before count of_block records m = filter_map (group_loaded of_block m) (enumerate_from 0 (take count (blocks_of records)))

-- the groups that each module loads
abbrev pub all_loaded : List GroupNo → List ModRecord → List (List GroupNo)
all_loaded of_block records = map (loaded_groups of_block records) (range_with_len 0 (length records))
