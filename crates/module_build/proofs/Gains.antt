-- Reads one after another.
use Rattle.std.proofs.Common.{◌≡◌, ℕ, Bool, List, [], ◌∷◌, ◌++◌, append_assoc, append-nil, refl, sym, ap, ◌∙◌, inr}
use Rattle.std.proofs.lemmas.Bool.{false≢true}
use Rattle.std.proofs.lemmas.List.Elements.{filter_map-append}
use Rattle.std.specs.Prelude.{Result, Ok, Err, Some, None, if◌then◌else◌}
use Rattle.outside.specs.Logs.{AreReadsFor, Gains, is_config, is_manifest, is_module, module_paths, paths_for}
use Rattle.outside.specs.Views.{ReaderView}
use Rattle.outside.specs.declared.entry.Why.{Why}
use Rattle.outside.specs.declared.entry.Why.TheVariants.{Config, Module, Manifest}
use Rattle.outside.specs.declared.outside_end.OutsideEnd.{OutsideEnd}
use Rattle.module_build.specs.Reads.{ReadsModule, ReadsPaths}

pub paths_for-append : (reason : Why → Bool) (reads more : List (List ℕ × Why)) → paths_for reason (reads ++ more) ≡ paths_for reason reads ++ paths_for reason more
paths_for-append reason reads more = filter_map-append (λ read. if reason read.1 then Some read.0 else None) reads more

pub reads_none : ReadsPaths [] []
reads_none = record { are = refl; no_config = refl }

pub reads_more : (paths more : List (List ℕ)) (first second : List (List ℕ × Why)) → ReadsPaths paths first → ReadsPaths more second → ReadsPaths (paths ++ more) (first ++ second)
reads_more paths more first second one two = record {
  are = paths_for-append is_module first second ∙ ap (λ paths. paths ++ module_paths second) one.are ∙ ap (λ more. paths ++ more) two.are;
  no_config = paths_for-append is_config first second ∙ ap (λ paths. paths ++ paths_for is_config second) one.no_config ∙ two.no_config;
}

pub gains_none : (view : ReaderView) (Fact : List (List ℕ × Why) → Type 0) → Fact [] → Gains view view Fact
gains_none view Fact fact = ([], sym (append-nil view.log), fact)

-- what is read first and what is read next
pub gains_more : (before between now : ReaderView) (paths more : List (List ℕ)) → Gains before between (ReadsPaths paths) → Gains between now (ReadsPaths more) → Gains before now (ReadsPaths (paths ++ more))
gains_more before between now paths more first second = (
  first.0 ++ second.0,
  second.1 ∙ ap (λ log. log ++ second.0) first.1 ∙ append_assoc before.log first.0 second.0,
  reads_more paths more first.0 second.0 first.2 second.2,
)

-- manifests are read neither as modules nor as the configuration
pub only_manifests : (reads : List (List ℕ × Why)) → AreReadsFor is_manifest reads → ReadsPaths [] reads
only_manifests [] all = reads_none
only_manifests ((path, Config) ∷ reads) all = absurd (false≢true all.0)
only_manifests ((path, Module) ∷ reads) all = absurd (false≢true all.0)
only_manifests ((path, Manifest) ∷ reads) all = let rest = only_manifests reads all.1 in record { are = rest.are; no_config = rest.no_config }

pub one_read : (path : List ℕ) → ReadsPaths (path ∷ []) ((path, Module) ∷ [])
one_read path = record { are = refl; no_config = refl }

-- any answer may come of the read module
pub read_module : {T : Type 0} (path : List ℕ) (reads : List (List ℕ × Why)) (result : Result T OutsideEnd) → ReadsPaths (path ∷ []) reads → ReadsModule path result reads
read_module path reads (Ok value) read = read
read_module path reads (Err end) read = inr read
