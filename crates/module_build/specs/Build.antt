-- What making the record of one file answers, reads and keeps on a tree (this project).
use Rattle.std.specs.Prelude.{◌≡◌, ℕ, List, Result, IfOk}
use Rattle.graph_types.specs.declared.config.Config.{Config}
use Rattle.graph_types.specs.declared.record.ModRecord.{ModRecord}
use Rattle.outside.specs.Tree.{Tree}
use Rattle.outside.specs.Views.{ReaderView}
use Rattle.outside.specs.declared.outside_end.OutsideEnd.{OutsideEnd}
use Rattle.resolve_path.specs.Caches.{AreTrue}
use Rattle.resolve_path.specs.declared.kept.KeptManifest.{KeptManifest}
use Rattle.module_build.specs.Readings.{AreReadings, Readings}
use Rattle.module_build.specs.Reads.{ReadsFile}
use Rattle.module_build.specs.Record.{record_of}

pub record Builds (tree : Tree) (config : Config) (file : ℕ) (old new : List KeptManifest) (before now : ReaderView) (result : Result ModRecord OutsideEnd) : Type 0 where
  -- where the cache is true of the tree, an Ok is the file's record, by any right reading of texts
  pub record_is : AreTrue tree old → (readings : Readings) → AreReadings readings → IfOk result (λ rec. rec ≡ record_of readings tree config file)
  pub cache : AreTrue tree old → AreTrue tree new
  pub reads : ReadsFile tree file before now result
