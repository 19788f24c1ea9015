-- What runs the modules that a module imports, before its own text (ECMA-262, Evaluation of a module: its requested modules
-- come first, in order; the form is this project's).
use Rattle.std.specs.Prelude.{ℕ, Bool, List, [], ◌++◌, slice_index, codes, decimal, if◌then◌else◌}
use Rattle.std.specs.List.{enumerate_from, flat_map}
use Rattle.graph_types.specs.declared.item.Item.{Item}
use Rattle.graph_types.specs.declared.record.ModRecord.{ModRecord}
use Rattle.graph_types.specs.Whole.{declares}
use Rattle.module_code.specs.Ids.{target_id}
use Rattle.module_code.specs.Numbers.{load_numbers, is_starred}
use Rattle.module_code.specs.View.{Sealing}

-- `__cp_i[K]=__cp(ID);`
abbrev pub one_load : ℕ → List ℕ → List ℕ
one_load number id = codes "__cp_i[" ++ decimal number ++ codes "]=__cp(" ++ id ++ codes ");"

-- `__cp.s(exports,__cp_i[K]);`
abbrev pub star_text : ℕ → List ℕ
star_text number = codes "__cp.s(exports,__cp_i[" ++ decimal number ++ codes "]);"

-- the load of an item, and its star where it has one
abbrev pub item_load : Sealing → ℕ → Bool → Item → List ℕ
item_load view number starred item =
    if declares item.kind
    then one_load number (target_id view item) ++ (if starred then star_text number else [])
    else []

-- the load of an item with its number in the module
abbrev pub numbered_load : Sealing → ModRecord → ℕ × Item → List ℕ
numbered_load view rec numbered =
    item_load view (slice_index (load_numbers rec.items) numbered.0) (is_starred rec.stars numbered.0) numbered.1

-- the loads of all items in order
abbrev pub loads_text : Sealing → ModRecord → List ℕ
loads_text view rec = flat_map (numbered_load view rec) (enumerate_from 0 rec.items)
