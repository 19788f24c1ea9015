-- How modules are marked that are reached, while some of them wait for their targets to be marked (this project).
use Rattle.std.specs.Prelude.{◌≡◌, ◌↔◌, ℕ, ◌+◌, ◌⊎◌, Bool, not, List, length, IsTrue, Contains}
use Rattle.std.specs.List.{count_by}
use Rattle.pack_util.specs.declared.number.ModuleNo.{ModuleNo}
use Rattle.graph_types.specs.Modules.{module_no}
use Rattle.graph_types.specs.Reached.{Walk}
use Rattle.chunk_groups.specs.Rows.{bit}

-- these modules are marked, and those that weren't are waiting now
pub record IsMarked (old new : List Bool) (before after modules : List ModuleNo) : Type 0 where
  pub len : length new ≡ length old
  pub grows : (m : ℕ) → IsTrue (bit old m) → IsTrue (bit new m)
  pub marked : (m : ModuleNo) → Contains modules m → IsTrue (bit new m.0)
  pub only : (m : ℕ) → IsTrue (bit new m) → IsTrue (bit old m) ⊎ Contains modules (module_no m)
  pub still : (m : ModuleNo) → Contains before m → Contains after m
  pub fresh : (m : ℕ) → IsTrue (bit new m) → IsTrue (bit old m) ⊎ Contains after (module_no m)
  pub waiting : (m : ModuleNo) → Contains after m → Contains before m ⊎ IsTrue (bit new m.0)
  pub weight : count_by not new + length after ≡ count_by not old + length before

-- the row has the modules to which walks from the roots lead
abbrev pub HasReached : (ℕ → List ℕ) → List ℕ → List Bool → Type 0
HasReached targets roots row = (m : ℕ) → IsTrue (bit row m) ↔ ((steps : ℕ) × Walk targets roots m steps)
