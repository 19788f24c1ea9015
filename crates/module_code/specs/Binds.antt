-- The names that a module's imports declare (this project): each with the number of its load and the name there.
use Rattle.std.specs.Prelude.{ℕ, List, [], ◌++◌, map, slice_index, codes, decimal, Option, Some, None}
use Rattle.graph_types.specs.declared.binding.Bind.{Bind}
use Rattle.graph_types.specs.declared.record.ModRecord.{ModRecord}
use Rattle.module_code.specs.Numbers.{load_numbers}
use Rattle.module_code.specs.Quoted.{quoted_text, with_commas}

-- `,` and the name, or nothing for the whole module
abbrev pub bound_name : Option (List ℕ) → List ℕ
bound_name None = []
bound_name (Some name) = codes "," ++ quoted_text name

-- `"local":[K,"name"]` or `"local":[K]`
abbrev pub bind_text : List ℕ → Bind → List ℕ
bind_text numbers bind =
    quoted_text bind.local ++ codes ":[" ++ decimal (slice_index numbers bind.item) ++ bound_name bind.name ++ codes "]"

abbrev pub binds_text : ModRecord → List ℕ
binds_text rec = with_commas (map (bind_text (load_numbers rec.items)) rec.binds)
