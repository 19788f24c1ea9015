-- A sound state stays sound, and in a quiet one the files with a record are the reached ones.
use Rattle.std.proofs.Common.{◌≡◌, ◌≢◌, ⊎_elim, ℕ, Bool, List, [], ◌∷◌, Option, Some, None, Result, Ok, Err, refl, sym, ap, ◌∙◌, subst, is_some, nat_eq}
use Rattle.std.specs.Prelude.{◌↔◌, Contains, IsSome, IsTrue, slice_get, slice_set}
use Rattle.std.specs.List.{AllByRecursion, list_any}
use Rattle.std.specs.Option.{option_flatten, option_map_or}
use Rattle.std.proofs.lemmas.Bool.{cases_eq, false≢true}
use Rattle.std.proofs.lemmas.List.Elements.{All-contains, All-from_recursion}
use Rattle.std.proofs.lemmas.Option.{none-some}
use Rattle.graph_types.specs.declared.record.ModRecord.{ModRecord}
use Rattle.graph_types.specs.Reached.{HoldsAll, IsClosed, IsReached}
use Rattle.graph_types.specs.Targets.{targets_of}
use Rattle.make_core.specs.Core.{AnswersEvent, Core, HasExactly, IsAllowed, IsDone, IsOwned, IsQuiet, IsReachable, IsSound, MayClaim, MayPublish, after_event, done_of, entries_of, owner_of, planned_record, start, planned_targets}
use Rattle.make_core.specs.declared.event.Event.{Event}
use Rattle.make_core.specs.declared.event.Event.TheVariants.{Claim, Publish}
use Rattle.make_core.specs.declared.plan.CorePlan.{CorePlan}
use Rattle.make_core.proofs.Members.{list_any-Contains}
use Rattle.make_core.proofs.Places.{slice_get-set_same, slice_get-set_other, value-nothing}

-- a set that holds all of a list holds each member
member_held : (set : ℕ → Bool) (files : List ℕ) (file : ℕ) → HoldsAll set files → Contains files file → IsTrue (set file)
member_held set files file holds found = All-contains (λ f. IsTrue (set f)) files file (All-from_recursion (λ f. IsTrue (set f)) files holds) found

all_weaker : {P Q : ℕ → Type 0} → ((x : ℕ) → P x → Q x) → (xs : List ℕ) → AllByRecursion P xs → AllByRecursion Q xs
all_weaker weaker [] all = tt
all_weaker weaker (x ∷ xs) all = (weaker x all.0, all_weaker weaker xs all.1)

all_held : (P : ℕ → Type 0) (xs : List ℕ) (x : ℕ) → AllByRecursion P xs → Contains xs x → P x
all_held P xs x all found = All-contains P xs x (All-from_recursion P xs all) found

some_value : {X : Type 0} (o : Option X) → IsSome o → (x : X) × (o ≡ Some x)
some_value None h = absurd (false≢true h)
some_value (Some x) h = (x, refl)

-- ---- one step

claim_keeps : (plan : CorePlan) (state : Core) (worker file : ℕ) → MayClaim plan state worker file → IsSound plan state
    → IsSound plan (record state { owner = slice_set state.owner file (Some worker) })
claim_keeps plan state worker file may sound =
    let after : Core = record state { owner = slice_set state.owner file (Some worker) } in
    let here : slice_get after.owner file ≡ Some (Some worker) = slice_get-set_same state.owner file (Some worker) None may.free in
    let there : (f : ℕ) → f ≢ file → owner_of after f ≡ owner_of state f = λ f n. ap option_flatten (slice_get-set_other state.owner file f (Some worker) n) in
    let reached : IsReachable plan file = λ set holds closed.
    ⊎_elim (λ entry. member_held set (entries_of plan) file holds entry)
    (λ target.
    let owned : IsOwned state target.0 = ⊎_elim (λ done. sound.owned target.0 done) (λ own. ap is_some own) target.1 in
    member_held set (planned_targets plan target.0) file (closed target.0 (sound.reached target.0 owned set holds closed)) target.2)
    may.named
    in
    record {
      owned = λ f done.
          ⊎_elim (λ e. subst (λ k. IsOwned after k) (sym e) (ap (λ o. is_some (option_flatten o)) here)) (λ n. ap is_some (there f n) ∙ sound.owned f done)
          (cases_eq f file);
      planned = sound.planned;
      reached = λ f owned.
          ⊎_elim (λ e. subst (λ k. IsReachable plan k) (sym e) reached) (λ n. sound.reached f (sym (ap is_some (there f n)) ∙ owned)) (cases_eq f file);
    }

publish_keeps : (plan : CorePlan) (state : Core) (worker file : ℕ) (rec : ModRecord) → MayPublish plan state worker file rec → IsSound plan state
    → IsSound plan (record state { done = slice_set state.done file (Some rec) })
publish_keeps plan state worker file rec may sound =
    let after : Core = record state { done = slice_set state.done file (Some rec) } in
    let here : slice_get after.done file ≡ Some (Some rec) = slice_get-set_same state.done file (Some rec) None may.not_done in
    let there : (f : ℕ) → f ≢ file → done_of after f ≡ done_of state f = λ f n. ap option_flatten (slice_get-set_other state.done file f (Some rec) n) in
    record {
      owned = λ f done.
          ⊎_elim (λ e. subst (λ k. IsOwned state k) (sym e) (ap is_some may.owned)) (λ n. sound.owned f (sym (ap is_some (there f n)) ∙ done)) (cases_eq f file);
      planned = λ f other e.
          ⊎_elim
          (λ same. subst (λ k. planned_record plan k ≡ Some other) (sym same) (may.planned ∙ (sym (ap option_flatten here) ∙ (ap (done_of after) (sym same) ∙ e))))
          (λ n. sound.planned f other (sym (there f n) ∙ e))
          (cases_eq f file);
      reached = sound.reached;
    }

pub sound_after : (plan : CorePlan) (state : Core) (event : Event) → IsAllowed plan state event → IsSound plan state → IsSound plan (after_event state event)
sound_after plan state (Claim worker file) may sound = claim_keeps plan state worker file.0 may sound
sound_after plan state (Publish worker file rec) may sound = publish_keeps plan state worker file.0 rec may sound

pub answer_keeps : {A E : Type 0} (plan : CorePlan) (event : Event) (old new : Core) (result : Result A E) → AnswersEvent plan event old new result
    → IsSound plan old → IsSound plan new
answer_keeps plan event old new (Ok value) answer sound = subst (IsSound plan) (sym answer.1) (sound_after plan old event answer.0 sound)
answer_keeps plan event old new (Err error) answer sound = subst (IsSound plan) (sym answer.1) sound

pub sound_start : (plan : CorePlan) (files workers : ℕ) → IsSound plan (start files workers)
sound_start plan files workers = record {
  owned = λ f done. absurd (false≢true (sym (ap is_some (value-nothing files f)) ∙ done));
  planned = λ f rec e. absurd (none-some rec (sym (value-nothing files f) ∙ e));
  reached = λ f owned. absurd (false≢true (sym (ap is_some (value-nothing files f)) ∙ owned));
}

-- ---- a quiet state

-- what is owned holds the entries and is closed
owned_is_closed : (plan : CorePlan) (state : Core) → IsSound plan state → IsQuiet plan state → IsClosed (planned_targets plan) (λ f. is_some (owner_of state f))
owned_is_closed plan state sound quiet f owned =
    let rec = some_value (done_of state f) (quiet.finished f owned) in
    subst (λ o. HoldsAll (λ file. is_some (owner_of state file)) (option_map_or targets_of o [])) (sym (sound.planned f rec.0 rec.1)) (quiet.targets f rec.0 rec.1)

module _ (plan : CorePlan) (state : Core) (members : List ℕ) (sound : IsSound plan state) (reached : IsReached (planned_targets plan) (entries_of plan) members) where
  -- what is reached is in every closed set that holds the entries, the members among them
  done_member : (file : ℕ) → IsDone state file → Contains members file
  done_member file done =
      let set : ℕ → Bool = λ f. list_any (nat_eq f) members in
      let has : (f : ℕ) → Contains members f → IsTrue (set f) = λ f found. (list_any-Contains members f (set f) refl).1 found in
      let told : (f : ℕ) → IsTrue (set f) → Contains members f = λ f t. (list_any-Contains members f (set f) refl).0 t in
      told file (sound.reached file (sound.owned file done) set (all_weaker has (entries_of plan) reached.holds) (λ f t. all_weaker has (planned_targets plan f) (reached.closed f (told f t))))

  -- the owned files are such a set
  member_done : IsQuiet plan state → (file : ℕ) → Contains members file → IsDone state file
  member_done quiet file found =
      let set : ℕ → Bool = λ f. is_some (owner_of state f) in
      let closed = owned_is_closed plan state sound quiet in
      quiet.finished file (all_held (IsOwned state) members file (reached.least set quiet.entries closed) found)

pub whole_when_quiet : (plan : CorePlan) (state : Core) (members : List ℕ) → IsSound plan state → IsQuiet plan state → IsReached (planned_targets plan) (entries_of plan) members
    → HasExactly plan state members
whole_when_quiet plan state members sound quiet reached = record {
  exact = λ file. (done_member plan state members sound reached file, member_done plan state members sound reached quiet file);
  planned = sound.planned;
}

pub done_when_quiet : (plan : CorePlan) (state : Core) → IsSound plan state → IsQuiet plan state → (file : ℕ) → IsDone state file ↔ IsReachable plan file
done_when_quiet plan state sound quiet file = (
  λ done. sound.reached file (sound.owned file done),
  λ reached. quiet.finished file (reached (λ f. is_some (owner_of state f)) quiet.entries (owned_is_closed plan state sound quiet)),
)
