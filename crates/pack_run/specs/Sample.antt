-- What a sample comes to and leaves (this project): a build of the sample tree by a configuration that is always the same,
-- whose assets are told by a hash and put nowhere.
use Rattle.std.specs.Prelude.{◌≡◌, ℕ, ◌⊎◌, List, [], ◌∷◌, ◌++◌, flat_map, codes, Ok}
use Rattle.asset_names.specs.Hash.{hash_of}
use Rattle.graph_types.specs.declared.config.Config.{Config as BuildConfig}
use Rattle.outside.specs.Views.{SinkView}
use Rattle.outside.specs.declared.asset_sink.Asset.{Asset}
use Rattle.pack_config.specs.Answer.{IsConfigAnswer}
use Rattle.tree_sample.specs.Sample.{sample}
use Rattle.pack_run.specs.Last.{TriesLast}
use Rattle.pack_run.specs.Report.{Adds, AddsFront, AddsProperFront, Leaves}
use Rattle.pack_run.specs.Verdict.{IsTreeVerdict, around, end_by, lines_of}
use Rattle.pack_run.specs.declared.end.End.{End}
use Rattle.pack_run.specs.declared.end.End.TheVariants as ends
use Rattle.pack_run.specs.declared.verdict.Build.{Build}
use Rattle.pack_run.specs.declared.verdict.Verdict.{Verdict}
use Rattle.pack_run.specs.declared.verdict.Verdict.TheVariants.{Built}

-- the text of the configuration, and the path at which a fault of it would be told
abbrev pub sample_config : List ℕ
sample_config = codes "{\"entry\":\"./src/m00000.js\"}"

abbrev pub sample_path : List ℕ
sample_path = codes "sample.json"

-- the verdict on the sample tree of so many modules, and the paths of the modules that it is made of
abbrev pub IsSampleVerdict : ℕ → Verdict → List (List ℕ) → Type 0
IsSampleVerdict n verdict paths = (config : BuildConfig) × IsConfigAnswer sample_config (Ok config) × IsTreeVerdict (sample n) sample_path config verdict paths

-- the first 20 digits of the hash of all assets' bytes, one asset after another
abbrev pub build_hash : Build → List ℕ
build_hash build = hash_of (flat_map (λ asset. asset.bytes) build.assets) 20

-- sample N: M modules, G groups, C chunks, S splits, hash H
abbrev pub sample_line : ℕ → Build → List ℕ
sample_line n build =
    around (codes "sample ") n (codes ": ") ++ around [] build.modules (codes " modules, ") ++ around [] build.groups (codes " groups, ")
    ++ around [] build.chunks (codes " chunks, ") ++ around [] build.splits (codes " splits, hash ") ++ build_hash build

-- the lines that a sample's verdict is printed as
abbrev pub sample_lines : ℕ → Verdict → List (List ℕ)
sample_lines n (Built build) = sample_line n build ∷ []
sample_lines n verdict = lines_of verdict

-- the verdict of the sample, and a fact of it
abbrev pub OnSample : ℕ → (Verdict → Type 0) → Type 0
OnSample n Fact = (verdict : Verdict) × (paths : List (List ℕ)) × IsSampleVerdict n verdict paths × Fact verdict

-- An end that tells a verdict tells that of the sample, and its lines were added. A failed line leaves a proper front of them.
-- Where memory ran out, a front of them was added, or nothing. There is no other end.
abbrev pub EndsSample : ℕ → SinkView (List ℕ) → SinkView (List ℕ) → End → Type 0
EndsSample n lines lines' ends.Usage = ⊥
EndsSample n lines lines' ends.Config = ⊥
EndsSample n lines lines' ends.ReadFault = ⊥
EndsSample n lines lines' ends.WriteFault = ⊥
EndsSample n lines lines' ends.LineFault = OnSample n (λ verdict. AddsProperFront lines lines' (sample_lines n verdict))
EndsSample n lines lines' ends.NoMemory = Leaves lines lines' ⊎ OnSample n (λ verdict. AddsFront lines lines' (sample_lines n verdict))
EndsSample n lines lines' end = OnSample n (λ verdict. (end ≡ end_by verdict) × Adds lines lines' (sample_lines n verdict))

-- what a sample leaves: the readers and the sink as they were, and the lines of its end
pub record IsSampled {R : Type 0} (n : ℕ) (readers readers' : List R) (sink sink' : SinkView Asset) (lines lines' : SinkView (List ℕ)) (end : End) : Type 0 where
  pub readers_stay : readers' ≡ readers
  pub sink_stays : sink' ≡ sink
  pub ends : (between : SinkView (List ℕ)) × EndsSample n lines between end × TriesLast end between lines'
