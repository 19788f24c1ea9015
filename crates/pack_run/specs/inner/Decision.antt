-- What deciding answers and reads on a tree (this project).
use Rattle.std.specs.Prelude.{◌≡◌, ◌⊎◌, ℕ, List, [], ◌∷◌, Result, Ok, Err, IsErrOf, IsPermutation, IsTrue, is_some}
use Rattle.std.specs.List.{AllZip}
use Rattle.build_round.specs.Readers.{AllTell, LogsGain, NoStrays, SomeRose}
use Rattle.outside.specs.Logs.{is_config, module_paths, paths_for}
use Rattle.outside.specs.Tree.{Tree, bytes_at}
use Rattle.outside.specs.Views.{ReaderView}
use Rattle.outside.specs.declared.entry.Why.{Why}
use Rattle.outside.specs.declared.outside_end.OutsideEnd.{OutsideEnd}
use Rattle.outside.specs.declared.outside_end.OutsideEnd.TheVariants.{Failed, NoMemory}
use Rattle.pack_run.specs.Reads.{NoneTwice}
use Rattle.pack_run.specs.Verdict.{IsTextVerdict}
use Rattle.pack_run.specs.declared.verdict.Verdict.{Verdict}

-- what deciding does to the readers, and a fact of each tree that all of them tell
pub record Decides {R : Type 0} (follows : R → R → Type 0) (view : R → ReaderView) (readers readers' : List R) (result : Result Verdict OutsideEnd) (Fact : Tree → Type 0) : Type 0 where
  pub follow : AllZip follows readers readers'
  pub cause : IsErrOf result Failed → SomeRose view readers readers'
  pub told : (tree : Tree) → AllTell view readers tree → Fact tree

-- what is read as modules for a verdict: each module once; and where a read fails, none twice
abbrev pub ReadsFor : (Verdict → List (List ℕ) → Type 0) → Tree → Result Verdict OutsideEnd → List (List ℕ × Why) → Type 0
ReadsFor Is tree (Ok verdict) reads = (paths : List (List ℕ)) × Is verdict paths × IsPermutation paths (module_paths reads)
ReadsFor Is tree (Err Failed) reads = NoneTwice tree reads
ReadsFor Is tree (Err NoMemory) reads = Unit {0}

-- a part of deciding behind the configuration, which isn't read again
pub record DecidesOn {R : Type 0} (view : R → ReaderView) (Is : Verdict → List (List ℕ) → Type 0) (tree : Tree) (readers readers' : List R) (result : Result Verdict OutsideEnd) : Type 0 where
  pub no_stray : NoStrays view readers readers'
  pub reads : (reads : List (List ℕ × Why)) × LogsGain view readers readers' reads × (paths_for is_config reads ≡ []) × ReadsFor Is tree result reads

-- the configuration at the path is read once for a verdict, and else at most once
abbrev pub ReadsConfig : List ℕ → Result Verdict OutsideEnd → List (List ℕ) → Type 0
ReadsConfig path (Ok verdict) configs = configs ≡ path ∷ []
ReadsConfig path (Err end) configs = (configs ≡ []) ⊎ (configs ≡ path ∷ [])

-- deciding from the configuration at a path on
pub record DecidesAt {R : Type 0} (view : R → ReaderView) (path : List ℕ) (tree : Tree) (readers readers' : List R) (result : Result Verdict OutsideEnd) : Type 0 where
  pub no_stray : IsTrue (is_some (bytes_at tree path)) → NoStrays view readers readers'
  pub reads : (reads : List (List ℕ × Why)) × LogsGain view readers readers' reads
      × ReadsConfig path result (paths_for is_config reads) × ReadsFor (IsTextVerdict tree path (bytes_at tree path)) tree result reads
