-- The fault of a block, from its item.
use Rattle.std.proofs.Common.{◌≡◌, ◌<◌, List, length, get_or, ℕ, sym, ap, subst, ◌∙◌}
use Rattle.std.specs.Prelude.{None, Some, option_map, option_and_then, slice_get, if◌then◌else◌}
use Rattle.std.proofs.lemmas.Option.{slice_get-get_or}
use Rattle.graph_types.specs.declared.block.Block.{Block}
use Rattle.graph_types.specs.declared.entry.EntrySpec.{EntrySpec}
use Rattle.graph_types.specs.declared.item.Item.{Item}
use Rattle.graph_types.specs.declared.record.ModRecord.{ModRecord}
use Rattle.chunk_groups.specs.ChunkNames.{item_of}
use Rattle.chunk_groups.specs.NameFaults.{block_fault, entry_on_demand, is_entry_name}
use Rattle.chunk_groups.specs.inner.Filing.{StandsIn}

module _ (records : List ModRecord) (block : Block) (rec : ModRecord) (item : Item) (stands : StandsIn records block)
    (rec_is : rec ≡ get_or records block.«module».0 rec) (item_is : item ≡ get_or rec.items block.item item) where
  pub item-is : item_of records block ≡ Some (rec, item)
  item-is =
      let inside : block.item < length rec.items = subst (λ (r : ModRecord). block.item < length r.items) (sym rec_is) (stands.item rec) in
      ap (option_and_then (λ (r : ModRecord). option_map (λ (i : Item). (r, i)) (slice_get r.items block.item))) (slice_get-get_or records block.«module».0 rec stands.within ∙ ap Some (sym rec_is))
      ∙ ap (option_map (λ (i : Item). (rec, i))) (slice_get-get_or rec.items block.item item inside ∙ ap Some (sym item_is))

  pub fault-is : (entries : List EntrySpec) (name : List ℕ) → item.chunk_name ≡ Some name → block_fault records entries block ≡ (if is_entry_name entries name then Some (entry_on_demand rec item name) else None)
  fault-is entries name named =
      ap (option_and_then (λ (found : ModRecord × Item). option_and_then (λ n. if is_entry_name entries n then Some (entry_on_demand found.0 found.1 n) else None) found.1.chunk_name)) item-is
      ∙ ap (option_and_then (λ n. if is_entry_name entries n then Some (entry_on_demand rec item n) else None)) named
