-- What the first of the readers is asked while the others rest, and what each reader keeps (this project).
use Rattle.std.specs.Prelude.{◌≡◌, ℕ, List, [], ◌∷◌, Result}
use Rattle.pack_util.specs.declared.number.TheConstants.{MAX_TEXT}
use Rattle.outside.specs.Reads.{ReadsPath}
use Rattle.outside.specs.Tree.{Told}
use Rattle.outside.specs.Views.{Keeps, ReaderView}
use Rattle.outside.specs.declared.entry.ReadGot.{ReadGot}
use Rattle.outside.specs.declared.entry.Why.TheVariants.{Config}
use Rattle.outside.specs.declared.outside_end.OutsideEnd.{OutsideEnd}
use Rattle.tree_listing.specs.Listing.{Listed}
use Rattle.tree_listing.specs.Lists.{Asks, ListsTree}
use Rattle.tree_listing.specs.declared.list_end.ListEnd.{ListEnd}

-- what each reader keeps, call after call
pub record AreReaders {R : Type 0} (follows : R → R → Type 0) (view : R → ReaderView) : Type 0 where
  pub itself : (one : R) → follows one one
  pub on : (one two three : R) → follows one two → follows two three → follows one three
  pub keeps : (one two : R) → follows one two → Keeps (view one) (view two)

-- this is what happened to the first reader, and nothing to the others
abbrev pub OnFirst : {R : Type 0} → (R → R → Type 0) → List R → List R → Type 0
OnFirst Step [] readers' = ⊥
OnFirst Step (old ∷ olds) [] = ⊥
OnFirst Step (old ∷ olds) (new ∷ news) = Step old new × (news ≡ olds)

-- the configuration at a path was read
pub record Reads {R : Type 0} (follows : R → R → Type 0) (view : R → ReaderView) (path : List ℕ) (result : Result ReadGot OutsideEnd) (old new : R) : Type 0 where
  pub follow : follows old new
  pub reads : ReadsPath path Config MAX_TEXT (view old) (view new) result

-- the tree was listed
pub record Lists {R : Type 0} (follows : R → R → Type 0) (view : R → ReaderView) (result : Result Listed ListEnd) (old new : R) : Type 0 where
  pub follow : follows old new
  pub asks : Asks (view old) (view new) result
  pub told : Told (view old).tree (λ tree. ListsTree tree (view old) (view new) result)
