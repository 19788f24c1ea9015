-- What the outside tells of its objects (this project): one view of each. What a reader logs is told where its tree is.
use Rattle.std.specs.Prelude.{◌≡◌, ◌≤◌, ℕ, List, Option}
use Rattle.outside.specs.Tree.{Tree}
use Rattle.outside.specs.declared.entry.Why.{Why}

pub record ReaderView : Type 0 where
  pub tree : Option Tree
  -- the paths that were read and what for, in order
  pub log : List (List ℕ × Why)
  -- the folders that were listed, in order
  pub listed : List (List ℕ)
  -- how often a call has failed; the count stands still at the last `u64`
  pub faults : ℕ
  -- how often a path was asked for that isn't in the tree
  pub strays : ℕ

-- what a sink has taken, in order, where it is told, and how often it has failed
pub record SinkView (A : Type 0) : Type 0 where
  pub held : Option (List A)
  pub faults : ℕ

-- what stays of a reader after any calls
pub record Keeps (before now : ReaderView) : Type 0 where
  pub tree : now.tree ≡ before.tree
  pub faults : before.faults ≤ now.faults
  pub strays : before.strays ≤ now.strays
