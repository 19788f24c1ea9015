-- What is read of the parts of a configuration.
use Rattle.std.specs.Prelude.{◌≡◌, ℕ, List, codes, Some}
use Rattle.json_order.specs.declared.tree.JsonTree.{JsonTree}
use Rattle.pack_config.specs.declared.reading.Parts.{Parts}
use Rattle.pack_config.specs.Entries.{entries_of}
use Rattle.pack_config.specs.Values.{value_at}
use Rattle.pack_config.specs.inner.Optimization.{optimization_of}
use Rattle.pack_config.specs.inner.Output.{IsOutputOf}
use Rattle.pack_config.specs.inner.Resolve.{resolve_of}

pub record ArePartsOf (text : List ℕ) (tree : JsonTree) (parts : Parts) : Type 0 where
  pub entries : parts.entries ≡ entries_of text (value_at (codes "entry") (Some tree))
  pub output : IsOutputOf (value_at (codes "output") (Some tree)) parts.output
  pub resolve : parts.resolve ≡ resolve_of (value_at (codes "resolve") (Some tree))
  pub optimization : parts.optimization ≡ optimization_of text (value_at (codes "optimization") (Some tree))
