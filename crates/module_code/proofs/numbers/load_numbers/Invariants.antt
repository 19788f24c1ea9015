use Rattle.std.proofs.Common.{◌≡◌, ℕ, ◌≤◌, List, map}
use Rattle.std.specs.List.{range_with_len}
use Rattle.graph_types.specs.declared.item.Item.{Item}
use Rattle.module_code.specs.Numbers.{loads_before}
use Rattle.module_code.proofs.numbers.load_numbers.Given as goal

pub record Counted (items : List Item) (done count : ℕ) (numbers : List ℕ) : Type 0 where
  pub counted : count ≡ loads_before items done
  pub bounded : count ≤ done
  pub listed : numbers ≡ map (loads_before items) (range_with_len 0 done)

abbrev pub invariant-loop-item : goal.invariant-loop-item
invariant-loop-item l = Counted l.items l.item-index l.count l.numbers.items
