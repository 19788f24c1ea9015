-- Forms in memory that fail in chosen calls (this project).
use Rattle.std.specs.Prelude.{◌≡◌, ◌↔◌, ◌==◌, ◌||◌, ℕ, Bool, List, [], Some, Result, Ok, Err, IsErrOf, IsTrue}
use Rattle.std.specs.List.{list_any}
use Rattle.outside.specs.Cause.{risen}
use Rattle.outside.specs.Views.{SinkView}
use Rattle.outside.specs.declared.outside_end.OutsideEnd.{OutsideEnd}
use Rattle.outside.specs.declared.outside_end.OutsideEnd.TheVariants.{Failed, NoMemory}

-- the numbers of the calls that fail, the number of the next call, and how often one has failed
pub record Plan : Type 0 where
  pub calls : List ℕ
  pub call : ℕ
  pub faults : ℕ

-- a plan before its first call, which has the number 0
abbrev pub fresh : List ℕ → Plan
fresh calls = record { calls = calls; call = 0; faults = 0 }

-- the next call is one that fails
abbrev pub fails_now : Plan → Bool
fails_now plan = list_any (λ number. number == plan.call) plan.calls

-- A call that answers is counted, and one that failed is counted as a fault too. Want of memory leaves all as it was.
abbrev pub plan_after : {T : Type 0} → Result T OutsideEnd → Plan → Plan
plan_after (Ok value) plan = record plan { call = risen plan.call }
plan_after (Err Failed) plan = record plan { call = risen plan.call; faults = risen plan.faults }
plan_after (Err NoMemory) plan = plan

-- The answer is `Failed` exactly where the call is one that fails, or fails for a reason of its own.
pub record TakesTurn {T : Type 0} (reason : Bool) (old new : Plan) (result : Result T OutsideEnd) : Type 0 where
  pub failed : IsErrOf result Failed ↔ IsTrue (fails_now old || reason)
  pub after : new ≡ plan_after result old

-- what a sink in memory has taken, in order, and its plan
pub record Taken (A : Type 0) : Type 0 where
  pub members : List A
  pub plan : Plan

-- a sink that has taken nothing yet
abbrev pub empty : {A : Type 0} → List ℕ → Taken A
empty calls = record { members = []; plan = fresh calls }

-- a sink in memory tells all that it has taken
abbrev pub sink_view : {A : Type 0} → Taken A → SinkView A
sink_view sink = record { held = Some sink.members; faults = sink.plan.faults }
