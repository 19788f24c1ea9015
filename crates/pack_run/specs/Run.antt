-- What a command promises (this project).
use Rattle.std.specs.Prelude.{◌≡◌, ℕ, ◌⊎◌, List, length}
use Rattle.std.specs.List.{AllZip}
use Rattle.build_round.specs.Readers.{AllTell, LogsGain, NoStrays, SomeRose}
use Rattle.outside.specs.Cause.{Rose}
use Rattle.outside.specs.Tree.{Tree}
use Rattle.outside.specs.Views.{ReaderView, SinkView}
use Rattle.outside.specs.declared.asset_sink.Asset.{Asset}
use Rattle.outside.specs.declared.entry.Why.{Why}
use Rattle.pack_run.specs.Accepted.{IsRefused, IsSample}
use Rattle.pack_run.specs.End.{IsDecided, OnNothingPut}
use Rattle.pack_run.specs.Last.{TriesLast}
use Rattle.pack_run.specs.Reads.{NoneTwice, ReadsBuild, ReadsInPart}
use Rattle.pack_run.specs.Report.{Adds, AddsFront, AddsProperFront, Leaves, Tells}
use Rattle.pack_run.specs.Sample.{IsSampled}
use Rattle.pack_run.specs.Verdict.{IsMissing, IsVerdict, lines_of, assets_of}
use Rattle.pack_run.specs.declared.end.End.{End}
use Rattle.pack_run.specs.declared.end.End.TheVariants.{Built, Faults, Usage, Config, Limit, ReadFault, WriteFault, LineFault, NoMemory}
use Rattle.pack_run.specs.declared.verdict.Verdict.{Verdict}

-- the verdict of the words on the tree, for which the configuration and each module were read once, and a fact of it
abbrev pub OnVerdict : List (List ℕ) → ℕ → Tree → List (List ℕ × Why) → (Verdict → Type 0) → Type 0
OnVerdict words readers tree reads Fact =
    (verdict : Verdict) × (paths : List (List ℕ)) × IsVerdict words readers tree verdict paths × ReadsBuild words readers paths reads × Fact verdict

-- An end that tells a verdict tells that of the words on the tree, and its lines and assets were added. A failed read adds
-- nothing, and no file was read twice. A failed put leaves a proper front of the assets and no line; a failed line leaves all
-- assets and a proper front of the lines. Where memory ran out, nothing was added, or a front of the verdict's assets and of
-- its lines.
abbrev pub Ends : List (List ℕ) → ℕ → Tree → List (List ℕ × Why) → SinkView Asset → SinkView Asset → SinkView (List ℕ) → SinkView (List ℕ) → End → Type 0
Ends words readers tree reads sink sink' lines lines' Built = OnVerdict words readers tree reads (λ verdict. Tells verdict sink sink' lines lines' Built)
Ends words readers tree reads sink sink' lines lines' (Faults count) = OnVerdict words readers tree reads (λ verdict. Tells verdict sink sink' lines lines' (Faults count))
Ends words readers tree reads sink sink' lines lines' Usage = OnVerdict words readers tree reads (λ verdict. Tells verdict sink sink' lines lines' Usage)
Ends words readers tree reads sink sink' lines lines' Config = OnVerdict words readers tree reads (λ verdict. Tells verdict sink sink' lines lines' Config)
Ends words readers tree reads sink sink' lines lines' (Limit limit) = OnVerdict words readers tree reads (λ verdict. Tells verdict sink sink' lines lines' (Limit limit))
Ends words readers tree reads sink sink' lines lines' ReadFault = ReadsInPart words readers reads × NoneTwice tree reads × Leaves sink sink' × Leaves lines lines'
Ends words readers tree reads sink sink' lines lines' WriteFault = OnVerdict words readers tree reads (λ verdict. AddsProperFront sink sink' (assets_of verdict) × Leaves lines lines')
Ends words readers tree reads sink sink' lines lines' LineFault =
    OnVerdict words readers tree reads (λ verdict. Adds sink sink' (assets_of verdict) × AddsProperFront lines lines' (lines_of verdict))
Ends words readers tree reads sink sink' lines lines' NoMemory =
    (ReadsInPart words readers reads × Leaves sink sink' × Leaves lines lines')
    ⊎ OnVerdict words readers tree reads (λ verdict. AddsFront sink sink' (assets_of verdict) × AddsFront lines lines' (lines_of verdict))

-- What a command leaves: what its end says, and then the line that may be tried last.
abbrev pub EndsBy : List (List ℕ) → ℕ → Tree → List (List ℕ × Why) → SinkView Asset → SinkView Asset → SinkView (List ℕ) → SinkView (List ℕ) → End → Type 0
EndsBy words readers tree reads sink sink' lines lines' end =
    (between : SinkView (List ℕ)) × Ends words readers tree reads sink sink' lines between end × TriesLast end between lines'

-- Usage comes of words that are refused alone, and always of them, but for a line that fails and want of memory.
pub record IsByWords (words : List (List ℕ)) (readers : ℕ) (end : End) : Type 0 where
  pub only : end ≡ Usage → IsRefused words readers
  pub refused : IsRefused words readers → (end ≡ Usage) ⊎ (end ≡ LineFault) ⊎ (end ≡ NoMemory)

-- What a command promises of what is handed in, as it was and as it is left, and of its end. What is said of a tree holds
-- where all readers tell it, and what is said of what was added where a sink tells it. Nothing depends on the number of
-- workers, but that there must be as many readers.
pub record Promise {R : Type 0} (follows : R → R → Type 0) (view : R → ReaderView) (words : List (List ℕ)) (readers readers' : List R) (sink sink' : SinkView Asset) (lines lines' : SinkView (List ℕ)) (end : End) : Type 0 where
  -- each reader is one that follows
  pub follow : AllZip follows readers readers'
  -- the cause of each end that no verdict tells
  pub read_cause : end ≡ ReadFault → SomeRose view readers readers'
  pub write_cause : end ≡ WriteFault → Rose sink.faults sink'.faults
  pub line_cause : end ≡ LineFault → Rose lines.faults lines'.faults
  -- where no count rose, the end tells the verdict or that memory ran out
  pub decided : ¬ (SomeRose view readers readers') → ¬ (Rose sink.faults sink'.faults) → ¬ (Rose lines.faults lines'.faults) → IsDecided end
  pub usage : IsByWords words (length readers) end
  pub nothing_put : OnNothingPut end (Leaves sink sink')
  -- a path that isn't in the tree is asked for only where the configuration isn't, and then the read fails
  pub no_stray : (tree : Tree) → AllTell view readers tree → (IsMissing words (length readers) tree → ⊥) → NoStrays view readers readers'
  pub missing : (tree : Tree) → AllTell view readers tree → IsMissing words (length readers) tree → (end ≡ ReadFault) ⊎ (end ≡ NoMemory)
  -- what a build leaves, and words that are refused
  pub verdict : (tree : Tree) → AllTell view readers tree → ((n : ℕ) → IsSample words (length readers) n → ⊥)
      → (reads : List (List ℕ × Why)) × LogsGain view readers readers' reads × EndsBy words (length readers) tree reads sink sink' lines lines' end
  -- what a sample leaves, which has readers and assets of its own
  pub sample : (n : ℕ) → IsSample words (length readers) n → IsSampled n readers readers' sink sink' lines lines' end
