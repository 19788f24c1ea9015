-- What carrying out a command leaves, but for the line that may be tried last (this project).
use Rattle.std.specs.Prelude.{◌≡◌, ℕ, List, length}
use Rattle.std.specs.List.{AllZip}
use Rattle.build_round.specs.Readers.{AllTell, LogsGain, NoStrays, SomeRose}
use Rattle.outside.specs.Cause.{Rose}
use Rattle.outside.specs.Tree.{Tree}
use Rattle.outside.specs.Views.{ReaderView, SinkView}
use Rattle.outside.specs.declared.asset_sink.Asset.{Asset}
use Rattle.outside.specs.declared.entry.Why.{Why}
use Rattle.pack_run.specs.Accepted.{IsSample}
use Rattle.pack_run.specs.End.{OnNothingPut}
use Rattle.pack_run.specs.Report.{Leaves}
use Rattle.pack_run.specs.Run.{Ends, IsByWords}
use Rattle.pack_run.specs.Sample.{EndsSample}
use Rattle.pack_run.specs.Verdict.{IsMissing}
use Rattle.pack_run.specs.declared.end.End.{End}
use Rattle.pack_run.specs.declared.end.End.TheVariants.{LineFault, ReadFault, WriteFault}

-- a sample leaves the readers and the sink as they were
pub record Samples {R : Type 0} (n : ℕ) (readers readers' : List R) (sink sink' : SinkView Asset) (lines lines' : SinkView (List ℕ)) (end : End) : Type 0 where
  pub readers_stay : readers' ≡ readers
  pub sink_stays : sink' ≡ sink
  pub ends : EndsSample n lines lines' end

pub record Carries {R : Type 0} (follows : R → R → Type 0) (view : R → ReaderView) (words : List (List ℕ)) (readers readers' : List R) (sink sink' : SinkView Asset) (lines lines' : SinkView (List ℕ)) (end : End) : Type 0 where
  pub follow : AllZip follows readers readers'
  pub read_cause : end ≡ ReadFault → SomeRose view readers readers'
  pub write_cause : end ≡ WriteFault → Rose sink.faults sink'.faults
  pub line_cause : end ≡ LineFault → Rose lines.faults lines'.faults
  pub usage : IsByWords words (length readers) end
  pub nothing_put : OnNothingPut end (Leaves sink sink')
  pub no_stray : (tree : Tree) → AllTell view readers tree → (IsMissing words (length readers) tree → ⊥) → NoStrays view readers readers'
  pub verdict : (tree : Tree) → AllTell view readers tree → ((n : ℕ) → IsSample words (length readers) n → ⊥)
      → (reads : List (List ℕ × Why)) × LogsGain view readers readers' reads × Ends words (length readers) tree reads sink sink' lines lines' end
  pub sample : (n : ℕ) → IsSample words (length readers) n → Samples n readers readers' sink sink' lines lines' end
