-- What a reader's log has gained, by the reason of each read (this project).
use Rattle.std.specs.Prelude.{◌≡◌, ℕ, Bool, true, false, List, ◌++◌, filter_map, Some, None, IsTrue, if◌then◌else◌}
use Rattle.std.specs.List.{AllByRecursion}
use Rattle.outside.specs.Views.{ReaderView}
use Rattle.outside.specs.declared.entry.Why.{Why}
use Rattle.outside.specs.declared.entry.Why.TheVariants.{Config, Module, Manifest}

abbrev pub is_config : Why → Bool
is_config Config = true
is_config Module = false
is_config Manifest = false

abbrev pub is_module : Why → Bool
is_module Config = false
is_module Module = true
is_module Manifest = false

abbrev pub is_manifest : Why → Bool
is_manifest Config = false
is_manifest Module = false
is_manifest Manifest = true

-- the paths that were read for such a reason, in order
abbrev pub paths_for : (Why → Bool) → List (List ℕ × Why) → List (List ℕ)
paths_for reason reads = filter_map (λ read. if reason read.1 then Some read.0 else None) reads

-- the paths that were read as modules
abbrev pub module_paths : List (List ℕ × Why) → List (List ℕ)
module_paths reads = paths_for is_module reads

-- the log has gained reads of which a fact holds
abbrev pub Gains : ReaderView → ReaderView → (List (List ℕ × Why) → Type 0) → Type 0
Gains before now Fact = (reads : List (List ℕ × Why)) × (now.log ≡ before.log ++ reads) × Fact reads

-- nothing was read for another reason
abbrev pub AreReadsFor : (Why → Bool) → List (List ℕ × Why) → Type 0
AreReadsFor reason reads = AllByRecursion (λ read. IsTrue (reason read.1)) reads
