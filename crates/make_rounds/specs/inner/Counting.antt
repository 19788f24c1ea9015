-- What the modules of a build count, one after another (this project).
use Rattle.std.specs.Prelude.{ℕ, ◌+◌, ◌<◌, ◌≤◌, List, length, nat_lt, if◌then◌else◌}
use Rattle.fault_place.specs.Limit.{number_of}
use Rattle.fault_place.specs.declared.limit.Limit.{Limit}
use Rattle.fault_place.specs.declared.limit.Limit.TheVariants.{Modules, TextBytes, Items, Blocks}
use Rattle.pack_util.specs.declared.number.TheConstants.{MAX_TEXT}
use Rattle.graph_types.specs.declared.record.ModRecord.{ModRecord}
use Rattle.make_rounds.specs.Counts.{counted, lazy_items}
use Rattle.make_rounds.specs.declared.counts.Counts.{Counts}

abbrev pub counts_of : List ModRecord → Counts
counts_of records = record { modules = counted records Modules; text_bytes = counted records TextBytes; items = counted records Items; blocks = counted records Blocks }

-- the bytes that are read of a file of so many
abbrev pub bytes_read : ℕ → ℕ
bytes_read bytes = if nat_lt MAX_TEXT bytes then 0 else bytes

-- one file more, of so many bytes
abbrev pub with_file : Counts → ℕ → Counts
with_file counts bytes = record counts { modules = counts.modules + 1; text_bytes = counts.text_bytes + bytes_read bytes }

-- one record more
abbrev pub with_record : Counts → ModRecord → Counts
with_record counts rec = record (with_file counts rec.size) { items = counts.items + length rec.items; blocks = counts.blocks + lazy_items rec }

-- what a limit counts
abbrev pub count_at : Counts → Limit → ℕ
count_at counts Modules = counts.modules
count_at counts TextBytes = counts.text_bytes
count_at counts Items = counts.items
count_at counts Blocks = counts.blocks
count_at counts other = 0

-- no limit is exceeded
pub record IsAllowed (counts : Counts) : Type 0 where
  pub modules : counts.modules ≤ number_of Modules
  pub text_bytes : counts.text_bytes ≤ number_of TextBytes
  pub items : counts.items ≤ number_of Items
  pub blocks : counts.blocks ≤ number_of Blocks

abbrev pub IsExceeded : Counts → Limit → Type 0
IsExceeded counts limit = number_of limit < count_at counts limit
