-- What holds of each record, whatever a reader gives (this project).
use Rattle.std.specs.Prelude.{◌≡◌, ℕ, ◌<◌, IfSome}
use Rattle.std.specs.List.{AllByRecursion}
use Rattle.pack_util.specs.declared.number.FileId.{FileId}
use Rattle.graph_types.specs.Fits.{IsSized}
use Rattle.graph_types.specs.Whole.{IsWhole}
use Rattle.graph_types.specs.declared.record.ModRecord.{ModRecord}

-- the record of a file among so many, on which the later phases may rely
pub record IsSimple (count : ℕ) (file : FileId) (rec : ModRecord) : Type 0 where
  pub file_is : rec.file ≡ file
  pub whole : IsWhole rec
  pub sized : IsSized rec
  pub within : AllByRecursion (λ item. IfSome item.target (λ target. target.0 < count)) rec.items
