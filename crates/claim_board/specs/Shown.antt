-- The state of the core of the make phase that a claim board shows between any two steps, and which steps are events of the
-- core (this project).
use Rattle.std.specs.Prelude.{◌≡◌, ℕ, ◌+◌, ◌-◌, ◌*◌, ◌/◌, ◌%◌, ◌⊎◌, ◌==◌, cond, List, [], ◌∷◌, map, Contains, Option, Some, None}
use mathlib.Core.Option as slot
use prog.Atomic.{either}
use Rattle.atomic_table.specs.Table.{State, Act, stepped}
use Rattle.board_seats.specs.Seats.{Seated}
use Rattle.graph_types.specs.declared.record.ModRecord.{ModRecord}
use Rattle.make_core.specs.Core.{Core, IsOpenTarget, MayClaim, MayPublish, after_event, entries_of, planned_record}
use Rattle.make_core.specs.declared.event.Event.{Event}
use Rattle.make_core.specs.declared.event.Event.TheVariants.{Claim, Publish}
use Rattle.make_core.specs.declared.plan.CorePlan.{CorePlan}
use Rattle.claim_board.specs.declared.lists.Lists.{Lists}
use Rattle.claim_board.specs.Rule.{IsKept}

-- the board between two steps: its words, the slots that are at home, and what each token knows
abbrev pub BoardState : Type 0
BoardState = State (Option ModRecord) (List (ℕ × Lists ModRecord))

-- what holds of a board of so many files and seats between any two steps
abbrev pub IsBoard : ℕ → ℕ → BoardState → Type 0
IsBoard files seats state = Seated (IsKept files seats) state

-- ---- the state shown

-- the owner that a file's word names
abbrev pub owner_shown : ℕ → Option ℕ
owner_shown word = cond (word == 0) None (Some (word / 2 - 1))

-- what lies in the file's slot, where the word says that its record is published
abbrev pub record_shown : ℕ → slot.Option (Option ModRecord) → Option ModRecord
record_shown word slot.none = None
record_shown word (slot.some rec) = cond (word % 2 == 0) None rec

-- the words of the files: all but the first
abbrev pub file_words : List ℕ → List ℕ
file_words [] = []
file_words (first ∷ words) = words

abbrev pub records_shown : List ℕ → List (slot.Option (Option ModRecord)) → List (Option ModRecord)
records_shown [] homes = []
records_shown (word ∷ words) [] = []
records_shown (word ∷ words) (home ∷ homes) = record_shown word home ∷ records_shown words homes

-- the owners by the words, and the records by the words and the slots
abbrev pub shown : ℕ → BoardState → Core
shown seats state = record { workers = seats; owner = map owner_shown (file_words state.words); done = records_shown (file_words state.words) state.homes }

-- ---- steps and events

-- The event is allowed but for reach and for the plan's record, which a board doesn't know.
abbrev pub IsAllowedOnBoard : Core → Event → Type 0
IsAllowedOnBoard state (Claim worker file) =
    (plan : CorePlan) → Contains (entries_of plan) file.0 ⊎ IsOpenTarget plan state worker file.0 → MayClaim plan state worker file.0
IsAllowedOnBoard state (Publish worker file rec) = (plan : CorePlan) → planned_record plan file.0 ≡ Some rec → MayPublish plan state worker file.0 rec

-- the step from one state of the board to another is this event of the core
pub record IsEvent (seats : ℕ) (before after : BoardState) (event : Event) : Type 0 where
  pub allowed : IsAllowedOnBoard (shown seats before) event
  pub after_is : shown seats after ≡ after_event (shown seats before) event

-- the word of a file after a claim that found this word
abbrev pub claim_word : ℕ → ℕ → ℕ
claim_word seat found = either (found == 0) (2 * (seat + 1)) found

-- the board after a step on a file's word, which becomes this, by a token that has these slots out
abbrev pub after_step : BoardState → ℕ → ℕ → ℕ → List (ℕ × Option ModRecord) → List (ℕ × Lists ModRecord) → Act (Option ModRecord) → BoardState
after_step state file word token carried view act = stepped state (file + 1) word token carried view act
