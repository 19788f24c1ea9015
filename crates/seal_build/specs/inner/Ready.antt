-- What the final chunks have to be for their texts and their stats (this project).
use Rattle.std.specs.Prelude.{◌<◌, ◌≤◌, ◌^◌, List, length}
use Rattle.chunk_graph.specs.declared.split.Split.{Split}
use Rattle.module_code.specs.View.{IsSealing, Sealing}
use Rattle.stats_text.specs.Together.{BelongTogether}

-- The parts belong together, each entry has a group and a chunk, and splits can be counted.
pub record IsReady (view : Sealing) (splits : List Split) : Type 0 where
  pub sealing : IsSealing view
  pub together : BelongTogether view.graph view.groups view.chunks view.config splits
  pub entry_groups : length view.config.entries ≤ length view.groups.infos
  pub entry_chunks : length view.config.entries ≤ length view.chunks.chunks
  pub few_splits : length splits < 2 ^ 32
