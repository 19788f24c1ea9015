-- Readers of a tree in memory (this project).
use Rattle.std.specs.Prelude.{◌≡◌, ◌≤◌, ◌||◌, ℕ, Bool, List, [], ◌++◌, bytes_eq, Result, Some, unwrap_or, if◌then◌else◌, refl}
use Rattle.std.proofs.Common.{sym, ap, subst, ◌∙◌, le_refl, le_trans, append-nil, append_assoc}
use Rattle.std.specs.List.{list_any}
use Rattle.outside.specs.Cause.{risen}
use Rattle.outside.specs.Failures.{Plan, fresh, TakesTurn}
use Rattle.outside.specs.Tree.{Tree, IsTree}
use Rattle.outside.specs.Views.{Keeps, ReaderView}
use Rattle.outside.specs.declared.entry.Why.{Why}
use Rattle.outside.specs.declared.outside_end.OutsideEnd.{OutsideEnd}

-- the tree, the plan of failures, the paths of which each read fails, the log, the folders listed, and how often a path
-- wasn't in the tree
pub record Reading : Type 0 where
  pub tree : Tree
  pub plan : Plan
  pub paths : List (List ℕ)
  pub log : List (List ℕ × Why)
  pub listed : List (List ℕ)
  pub strays : ℕ

-- a reader before its first call
abbrev pub first_reading : Tree → List ℕ → List (List ℕ) → Reading
first_reading tree calls paths = record { tree = tree; plan = fresh calls; paths = paths; log = []; listed = []; strays = 0 }

-- such a reader tells all
abbrev pub reader_view : Reading → ReaderView
reader_view reader = record { tree = Some reader.tree; log = reader.log; listed = reader.listed; faults = reader.plan.faults; strays = reader.strays }

-- each read of the path fails
abbrev pub fails_in : List (List ℕ) → List ℕ → Bool
fails_in paths path = list_any (λ other. bytes_eq other path) paths

-- fails in strays alone
pub record IsUnfailing (reader : Reading) : Type 0 where
  pub calls : reader.plan.calls ≡ []
  pub paths : reader.paths ≡ []
  pub faults : reader.plan.faults ≡ reader.strays

-- the second is the first after some calls
pub record Follows (before now : Reading) : Type 0 where
  pub tree : now.tree ≡ before.tree
  pub calls : now.plan.calls ≡ before.plan.calls
  pub paths : now.paths ≡ before.paths
  pub call : before.plan.call ≤ now.plan.call
  pub faults : before.plan.faults ≤ now.plan.faults
  pub strays : before.strays ≤ now.strays
  pub log : (more : List (List ℕ × Why)) × (now.log ≡ before.log ++ more)
  pub listed : (more : List (List ℕ)) × (now.listed ≡ before.listed ++ more)
  pub unfailing : IsUnfailing before → IsUnfailing now

-- The answer is `Failed` exactly in a stray, where the plan says so and where there is another reason.
-- A fault is counted with each, and a stray with each stray.
pub record TakesReaderTurn {T : Type 0} (stray reason : Bool) (old new : Reading) (result : Result T OutsideEnd) : Type 0 where
  pub plan : TakesTurn (stray || reason) old.plan new.plan result
  pub strays : new.strays ≡ (if stray then risen old.strays else old.strays)

pub follows_itself : (reader : Reading) → Follows reader reader
follows_itself reader = record {
  tree = refl;
  calls = refl;
  paths = refl;
  call = le_refl reader.plan.call;
  faults = le_refl reader.plan.faults;
  strays = le_refl reader.strays;
  log = ([], sym (append-nil reader.log));
  listed = ([], sym (append-nil reader.listed));
  unfailing = λ unfailing. unfailing;
}

pub follows_on : (one two three : Reading) → Follows one two → Follows two three → Follows one three
follows_on one two three first second = record {
  tree = second.tree ∙ first.tree;
  calls = second.calls ∙ first.calls;
  paths = second.paths ∙ first.paths;
  call = le_trans first.call second.call;
  faults = le_trans first.faults second.faults;
  strays = le_trans first.strays second.strays;
  log = (first.log.0 ++ second.log.0, second.log.1 ∙ ap (λ log. log ++ second.log.0) first.log.1 ∙ append_assoc one.log first.log.0 second.log.0);
  listed = (first.listed.0 ++ second.listed.0, second.listed.1 ∙ ap (λ listed. listed ++ second.listed.0) first.listed.1 ∙ append_assoc one.listed first.listed.0 second.listed.0);
  unfailing = λ unfailing. second.unfailing (first.unfailing unfailing);
}

pub follower_keeps : (before now : Reading) → Follows before now → Keeps (reader_view before) (reader_view now)
follower_keeps before now follows = record { tree = ap (λ tree. Some tree) follows.tree; faults = follows.faults; strays = follows.strays }

pub told_tree : (tree told : Tree) → Some tree ≡ Some told → IsTree tree → IsTree told
told_tree tree told same is = subst IsTree (ap (λ one. unwrap_or one tree) same) is
