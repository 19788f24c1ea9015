-- What is said of readers that are handed in together (this project), each as it was and as it is left.
use Rattle.std.specs.Prelude.{◌≡◌, ℕ, List, [], ◌∷◌, ◌++◌, Some}
use Rattle.std.specs.List.{AllByRecursion, AllZip}
use Rattle.outside.specs.Cause.{Rose}
use Rattle.outside.specs.Tree.{Tree}
use Rattle.outside.specs.Views.{ReaderView}
use Rattle.outside.specs.declared.entry.Why.{Why}
use Rattle.pack_util.specs.Lists.{AnyZip}

-- all readers tell the tree
abbrev pub AllTell : {R : Type 0} → (R → ReaderView) → List R → Tree → Type 0
AllTell view readers tree = AllByRecursion (λ reader. (view reader).tree ≡ Some tree) readers

-- the count of some reader rose
abbrev pub SomeRose : {R : Type 0} → (R → ReaderView) → List R → List R → Type 0
SomeRose view readers readers' = AnyZip (λ old new. Rose (view old).faults (view new).faults) readers readers'

-- no reader was asked for what isn't in its tree
abbrev pub NoStrays : {R : Type 0} → (R → ReaderView) → List R → List R → Type 0
NoStrays view readers readers' = AllZip (λ old new. (view new).strays ≡ (view old).strays) readers readers'

-- the reads that the readers' logs have gained, from the first reader on
abbrev pub LogsGain : {R : Type 0} → (R → ReaderView) → List R → List R → List (List ℕ × Why) → Type 0
LogsGain view [] [] gained = gained ≡ []
LogsGain view [] (new ∷ news) gained = ⊥
LogsGain view (old ∷ olds) [] gained = ⊥
LogsGain view (old ∷ olds) (new ∷ news) gained =
    (own : List (List ℕ × Why)) × (rest : List (List ℕ × Why)) × ((view new).log ≡ (view old).log ++ own) × (gained ≡ own ++ rest) × LogsGain view olds news rest
