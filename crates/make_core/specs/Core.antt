-- The core of the make phase (this project): a machine in which workers claim files and publish their records, one event
-- at a time. Files and workers are named by their numbers.
use Rattle.std.specs.Prelude.{◌≡◌, ℕ, ◌<◌, ◌⊎◌, ◌↔◌, Bool, List, [], ◌∷◌, map, replicate, take, slice_get, slice_set, Contains, Option, Some, None, is_some, IsSome, IsSomeAnd, IsTrue, Result, MatchResult, false, ◌==◌}
use Rattle.std.specs.List.{AllByRecursion, list_all}
use Rattle.std.specs.Option.{option_map_or, option_flatten}
use Rattle.graph_types.specs.declared.record.ModRecord.{ModRecord}
use Rattle.graph_types.specs.Reached.{HoldsAll, IsClosed}
use Rattle.graph_types.specs.Targets.{targets_of}
use Rattle.make_core.specs.declared.event.Event.{Event}
use Rattle.make_core.specs.declared.event.Event.TheVariants.{Claim, Publish}
use Rattle.make_core.specs.declared.plan.CorePlan.{CorePlan}
use Rattle.make_core.specs.declared.run_end.RunEnd.{RunEnd}
use Rattle.make_core.specs.declared.run_end.RunEnd.TheVariants.{NotAllowed, NoMemory}

-- ---- the plan

abbrev pub entries_of : CorePlan → List ℕ
entries_of plan = map (λ file. file.0) plan.entries

-- the plan's record of a file
abbrev pub planned_record : CorePlan → ℕ → Option ModRecord
planned_record plan file = slice_get plan.recs file

-- the files that the plan's record of a file names
abbrev pub planned_targets : CorePlan → ℕ → List ℕ
planned_targets plan file = option_map_or targets_of (planned_record plan file) []

-- reached: a member of the least closed set that holds the entry files, so of each such set
abbrev pub IsReachable : CorePlan → ℕ → Type 0
IsReachable plan file = (set : ℕ → Bool) → HoldsAll set (entries_of plan) → IsClosed (planned_targets plan) set → IsTrue (set file)

-- ---- the state

-- How many workers there are, and two partial maps from files: the owner, and the record that was published. Each is a
-- list with a place for every file of the state.
pub record Core : Type 0 where
  pub workers : ℕ
  pub owner : List (Option ℕ)
  pub done : List (Option ModRecord)

-- what such a map has at a file, and nothing where it has no place
abbrev pub value_of : {X : Type 0} → List (Option X) → ℕ → Option X
value_of places file = option_flatten (slice_get places file)

abbrev pub owner_of : Core → ℕ → Option ℕ
owner_of state file = value_of state.owner file

abbrev pub done_of : Core → ℕ → Option ModRecord
done_of state file = value_of state.done file

abbrev pub IsOwned : Core → ℕ → Type 0
IsOwned state file = IsSome (owner_of state file)

abbrev pub IsDone : Core → ℕ → Type 0
IsDone state file = IsSome (done_of state file)

-- every target of the record has an owner
abbrev pub names_owned : List (Option ℕ) → ModRecord → Bool
names_owned owner rec = list_all (λ target. is_some (value_of owner target)) (targets_of rec)

-- nobody owns a file, and nothing is published
abbrev pub start : ℕ → ℕ → Core
start files workers = record { workers = workers; owner = replicate files None; done = replicate files None }

-- ---- events

-- the file is a target of the plan's record of a file that is done or that the worker owns
abbrev pub IsOpenTarget : CorePlan → Core → ℕ → ℕ → Type 0
IsOpenTarget plan state worker file =
    (from : ℕ) × (IsDone state from ⊎ (owner_of state from ≡ Some worker)) × Contains (planned_targets plan from) file

-- A worker of the state may claim a file of the state that has no owner, where it is an entry file or such a target.
pub record MayClaim (plan : CorePlan) (state : Core) (worker file : ℕ) : Type 0 where
  pub worker_is : worker < state.workers
  pub free : slice_get state.owner file ≡ Some None
  pub named : Contains (entries_of plan) file ⊎ IsOpenTarget plan state worker file

-- A worker may publish the plan's record of a file of the state that it owns and that isn't done.
pub record MayPublish (plan : CorePlan) (state : Core) (worker file : ℕ) (rec : ModRecord) : Type 0 where
  pub owned : owner_of state file ≡ Some worker
  pub not_done : slice_get state.done file ≡ Some None
  pub planned : planned_record plan file ≡ Some rec

abbrev pub IsAllowed : CorePlan → Core → Event → Type 0
IsAllowed plan state (Claim worker file) = MayClaim plan state worker file.0
IsAllowed plan state (Publish worker file rec) = MayPublish plan state worker file.0 rec

-- a claim sets the owner, a publication the record, and nothing else changes
abbrev pub after_event : Core → Event → Core
after_event state (Claim worker file) = record state { owner = slice_set state.owner file.0 (Some worker) }
after_event state (Publish worker file rec) = record state { done = slice_set state.done file.0 (Some rec) }

-- a step carries the event out where it is allowed, and else refuses it and changes nothing
abbrev pub AnswersEvent : {A E : Type 0} → CorePlan → Event → Core → Core → Result A E → Type 0
AnswersEvent plan event old new result =
    MatchResult result (λ _. IsAllowed plan old event × (new ≡ after_event old event)) (λ _. (¬ IsAllowed plan old event) × (new ≡ old))

-- ---- lists of events

abbrev pub after_events : Core → List Event → Core
after_events state [] = state
after_events state (event ∷ events) = after_events (after_event state event) events

-- each event is allowed in the state that those before it leave
abbrev pub AreAccepted : CorePlan → Core → List Event → Type 0
AreAccepted plan state [] = Unit {0}
AreAccepted plan state (event ∷ events) = IsAllowed plan state event × AreAccepted plan (after_event state event) events

-- the event at this index is the first that isn't allowed
pub record IsFirstRefused (plan : CorePlan) (state : Core) (events : List Event) (index : ℕ) : Type 0 where
  pub accepted : AreAccepted plan state (take index events)
  pub refused : IsSomeAnd (slice_get events index) (λ event. ¬ IsAllowed plan (after_events state (take index events)) event)

-- what a run ends with: want of memory is free
abbrev pub EndsWith : CorePlan → Core → List Event → RunEnd → Type 0
EndsWith plan state events (NotAllowed index) = IsFirstRefused plan state events index
EndsWith plan state events NoMemory = Unit {0}

-- the event claims this file, or publishes it
abbrev pub claims : ℕ → Event → Bool
claims file (Claim worker claimed) = claimed.0 == file
claims file (Publish worker published rec) = false

abbrev pub publishes : ℕ → Event → Bool
publishes file (Claim worker claimed) = false
publishes file (Publish worker published rec) = published.0 == file

-- ---- what stays true, and when the work is done

-- each done file is owned and has the plan's record, and each owned file is reached
pub record IsSound (plan : CorePlan) (state : Core) : Type 0 where
  pub owned : (file : ℕ) → IsDone state file → IsOwned state file
  pub planned : (file : ℕ) (rec : ModRecord) → done_of state file ≡ Some rec → planned_record plan file ≡ Some rec
  pub reached : (file : ℕ) → IsOwned state file → IsReachable plan file

-- every entry file is owned, every owned file is done, and every target of a done record is owned
pub record IsQuiet (plan : CorePlan) (state : Core) : Type 0 where
  pub entries : AllByRecursion (IsOwned state) (entries_of plan)
  pub finished : (file : ℕ) → IsOwned state file → IsDone state file
  pub targets : (file : ℕ) (rec : ModRecord) → done_of state file ≡ Some rec → AllByRecursion (IsOwned state) (targets_of rec)

-- a file has a record exactly where it is a member, and then it is the plan's
pub record HasExactly (plan : CorePlan) (state : Core) (members : List ℕ) : Type 0 where
  pub exact : (file : ℕ) → IsDone state file ↔ Contains members file
  pub planned : (file : ℕ) (rec : ModRecord) → done_of state file ≡ Some rec → planned_record plan file ≡ Some rec
