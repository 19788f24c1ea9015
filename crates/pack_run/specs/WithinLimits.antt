-- When a build exceeds no limit of its tree and none of the make phase (this project).
use Rattle.std.specs.Prelude.{◌≡◌, ℕ, List, Some, Ok, ⊤}
use Rattle.fault_place.specs.declared.limit.Limit.{Limit as AnyLimit}
use Rattle.graph_types.specs.declared.config.Config.{Config}
use Rattle.make_rounds.specs.Graph.{Exceeded}
use Rattle.module_build.specs.Readings.{AreReadings, Readings}
use Rattle.outside.specs.Tree.{Tree, bytes_at}
use Rattle.pack_config.specs.Answer.{IsConfigAnswer}
use Rattle.tree_listing.specs.Limits.{Exceeds}
use Rattle.pack_run.specs.Accepted.{IsBuild}
use Rattle.pack_run.specs.declared.verdict.Verdict.{Verdict}
use Rattle.pack_run.specs.declared.verdict.Verdict.TheVariants.{Limit}

-- the configuration that the words name in the tree
abbrev pub HasConfig : List (List ℕ) → ℕ → Tree → Config → Type 0
HasConfig words readers tree config =
    (path : List ℕ) × (text : List ℕ) × IsBuild words readers path × (bytes_at tree path ≡ Some text) × IsConfigAnswer text (Ok config)

-- the tree exceeds none, and by its configuration the files that are reached exceed none
pub record ExceedsNone (words : List (List ℕ)) (readers : ℕ) (tree : Tree) : Type 0 where
  pub of_tree : (limit : AnyLimit) → ¬ Exceeds tree limit
  pub of_making : (readings : Readings) (config : Config) → AreReadings readings → HasConfig words readers tree config → (limit : AnyLimit) → ¬ Exceeded readings tree config limit

-- a verdict that names a limit
abbrev pub IsLimit : Verdict → Type 0
IsLimit (Limit limit) = ⊤
IsLimit other = ⊥
