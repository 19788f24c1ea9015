-- What is reported of what a build comes to (this project).
use Rattle.std.specs.Prelude.{◌≡◌, ℕ, List, Result, Ok, Err}
use Rattle.outside.specs.Cause.{Rose}
use Rattle.outside.specs.Views.{SinkView}
use Rattle.outside.specs.declared.asset_sink.Asset.{Asset}
use Rattle.outside.specs.declared.outside_end.OutsideEnd.{OutsideEnd}
use Rattle.outside.specs.declared.outside_end.OutsideEnd.TheVariants as outside
use Rattle.pack_run.specs.End.{OnNothingPut}
use Rattle.pack_run.specs.Report.{Leaves, MayEnd, Reports}
use Rattle.pack_run.specs.Verdict.{end_by}
use Rattle.pack_run.specs.declared.end.End.{End}
use Rattle.pack_run.specs.declared.end.End.TheVariants.{LineFault, NoMemory, ReadFault, WriteFault}
use Rattle.pack_run.specs.declared.verdict.Verdict.{Verdict}

-- what a report of a verdict does
pub record ReportsOf (verdict : Verdict) (sink sink' : SinkView Asset) (lines lines' : SinkView (List ℕ)) (end : End) : Type 0 where
  pub reports : Reports verdict sink sink' lines lines' end
  pub may_end : MayEnd verdict end
  pub write_cause : end ≡ WriteFault → Rose sink.faults sink'.faults
  pub line_cause : end ≡ LineFault → Rose lines.faults lines'.faults
  pub nothing : OnNothingPut (end_by verdict) (Leaves sink sink')

-- an end without a verdict, which leaves the sinks as they were
pub record EndsWithout (expected : End) (sink sink' : SinkView Asset) (lines lines' : SinkView (List ℕ)) (end : End) : Type 0 where
  pub end_is : end ≡ expected
  pub sink_stays : sink' ≡ sink
  pub lines_stay : lines' ≡ lines

-- the end where a call on a reader ended it
abbrev pub end_without : OutsideEnd → End
end_without outside.Failed = ReadFault
end_without outside.NoMemory = NoMemory

abbrev pub Concludes : Result Verdict OutsideEnd → SinkView Asset → SinkView Asset → SinkView (List ℕ) → SinkView (List ℕ) → End → Type 0
Concludes (Ok verdict) = ReportsOf verdict
Concludes (Err end) = EndsWithout (end_without end)
