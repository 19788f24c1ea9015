-- The limits of the make phase (this project): what each counts in the records of modules, and when it is exceeded.
use Rattle.std.specs.Prelude.{ℕ, ◌<◌, Bool, List, length, map, nat_eq, nat_lt, if◌then◌else◌}
use Rattle.std.specs.List.{IsDistinct, count_by, sum_by}
use Rattle.fault_place.specs.Limit.{number_of}
use Rattle.fault_place.specs.declared.limit.Limit.{Limit}
use Rattle.fault_place.specs.declared.limit.Limit.TheVariants.{Modules, TextBytes, Items, Blocks}
use Rattle.pack_util.specs.declared.number.TheConstants.{MAX_TEXT}
use Rattle.graph_types.specs.Edges.{is_lazy}
use Rattle.graph_types.specs.Reached.{HoldsAll, IsClosed}
use Rattle.graph_types.specs.Targets.{targets_by}
use Rattle.graph_types.specs.declared.record.ModRecord.{ModRecord}

-- the bytes of a file that is read: one that is too long counts none
abbrev pub text_bytes : ModRecord → ℕ
text_bytes rec = if nat_lt MAX_TEXT rec.size then 0 else rec.size

abbrev pub lazy_items : ModRecord → ℕ
lazy_items rec = count_by (λ item. is_lazy item.kind) rec.items

-- what a limit counts in records
abbrev pub counted : List ModRecord → Limit → ℕ
counted records Modules = length records
counted records TextBytes = sum_by text_bytes records
counted records Items = sum_by (λ rec. length rec.items) records
counted records Blocks = sum_by lazy_items records
counted records other = 0

-- files each of which lies in every closed set that holds the first files: none of them isn't reached
abbrev pub AreReached : (ℕ → ModRecord) → List ℕ → List ℕ → Type 0
AreReached record_of first files = (set : ℕ → Bool) → HoldsAll set first → IsClosed (targets_by record_of) set → HoldsAll set files

-- different reached files count more than the limit's number
pub record ExceedsReached (record_of : ℕ → ModRecord) (first : List ℕ) (limit : Limit) : Type 0 where
  pub files : List ℕ
  pub distinct : IsDistinct nat_eq files
  pub reached : AreReached record_of first files
  pub more : number_of limit < counted (map record_of files) limit
