-- What a command leaves in its sinks (this project).
use Rattle.std.specs.Prelude.{◌≡◌, ◌≢◌, ℕ, ◌<◌, ◌^◌, List, [], take, length, ⊤}
use Rattle.outside.specs.Sinks.{HasAdded}
use Rattle.outside.specs.Views.{SinkView}
use Rattle.outside.specs.declared.asset_sink.Asset.{Asset}
use Rattle.pack_run.specs.Verdict.{lines_of, assets_of, end_by}
use Rattle.pack_run.specs.declared.end.End.{End}
use Rattle.pack_run.specs.declared.end.End.TheVariants.{ReadFault, WriteFault, LineFault, NoMemory}
use Rattle.pack_run.specs.declared.verdict.Verdict.{Verdict}
use Rattle.pack_run.specs.declared.verdict.Verdict.TheVariants.{Faults, Usage}

-- these members were added at the end
abbrev pub Adds : {A : Type 0} → SinkView A → SinkView A → List A → Type 0
Adds before now members = HasAdded before.held now.held members

-- nothing was added
abbrev pub Leaves : {A : Type 0} → SinkView A → SinkView A → Type 0
Leaves before now = now.held ≡ before.held

-- a front of the members was added
abbrev pub AddsFront : {A : Type 0} → SinkView A → SinkView A → List A → Type 0
AddsFront before now members = (count : ℕ) × Adds before now (take count members)

-- a front of the members was added that leaves some
abbrev pub AddsProperFront : {A : Type 0} → SinkView A → SinkView A → List A → Type 0
AddsProperFront before now members = (count : ℕ) × (count < length members) × Adds before now (take count members)

-- the end tells the verdict, whose lines and assets were added
pub record Tells (verdict : Verdict) (sink sink' : SinkView Asset) (lines lines' : SinkView (List ℕ)) (end : End) : Type 0 where
  pub answer : end ≡ end_by verdict
  pub printed : Adds lines lines' (lines_of verdict)
  pub put : Adds sink sink' (assets_of verdict)

-- what a report of a verdict leaves at an end, where the sinks tell
abbrev pub Reports : Verdict → SinkView Asset → SinkView Asset → SinkView (List ℕ) → SinkView (List ℕ) → End → Type 0
Reports verdict sink sink' lines lines' ReadFault = ⊥
Reports verdict sink sink' lines lines' WriteFault = AddsProperFront sink sink' (assets_of verdict) × Leaves lines lines'
Reports verdict sink sink' lines lines' LineFault = Adds sink sink' (assets_of verdict) × AddsProperFront lines lines' (lines_of verdict)
Reports verdict sink sink' lines lines' NoMemory = AddsFront sink sink' (assets_of verdict) × AddsFront lines lines' (lines_of verdict)
Reports verdict sink sink' lines lines' end = Tells verdict sink sink' lines lines' end

-- the ends that a report of a verdict may have, told or not
abbrev pub MayEnd : Verdict → End → Type 0
MayEnd verdict WriteFault = assets_of verdict ≢ []
MayEnd verdict LineFault = ⊤
MayEnd verdict NoMemory = ⊤
MayEnd verdict end = end ≡ end_by verdict

-- what can be reported: no more faults than an end counts
abbrev pub CanReport : Verdict → Type 0
CanReport (Faults faults) = length faults < 2 ^ 32
CanReport other = ⊤

-- a verdict of words in the grammar
abbrev pub IsOfBuild : Verdict → Type 0
IsOfBuild Usage = ⊥
IsOfBuild other = ⊤
