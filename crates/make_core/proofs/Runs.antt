-- Lists of events, one event after another.
use Rattle.std.proofs.Common.{◌≡◌, ◌≢◌, ⊎_elim, ℕ, zero, suc, ◌+◌, ◌≤◌, Bool, true, false, List, [], ◌∷◌, ◌++◌, Some, None, refl, sym, ap, ◌∙◌, subst, cond, count_by, length, zero-add, append-nil, append_assoc, arith, Result, Ok, Err, is_err, slice_get}
use Rattle.std.proofs.lemmas.Bool.{cases_eq, false≢true, eq-eqb, ne_eqb}
use Rattle.std.proofs.lemmas.List.{nil_from_length}
use Rattle.std.proofs.lemmas.List.Sums.{sum_by-cons}
use Rattle.std.proofs.lemmas.Option.{none-some, same_Some}
use Rattle.make_core.specs.Core.{AnswersEvent, AreAccepted, Core, IsAllowed, IsFirstRefused, IsSound, after_event, after_events, claims, publishes}
use Rattle.make_core.specs.declared.event.Event.{Event}
use Rattle.make_core.specs.declared.event.Event.TheVariants.{Claim, Publish}
use Rattle.make_core.specs.declared.plan.CorePlan.{CorePlan}
use Rattle.make_core.proofs.Places.{slice_get-set_same, slice_get-set_other}
use Rattle.make_core.proofs.Soundness.{sound_after}

pub sound_run : (plan : CorePlan) (state : Core) (events : List Event) → AreAccepted plan state events → IsSound plan state → IsSound plan (after_events state events)
sound_run plan state [] accepted sound = sound
sound_run plan state (event ∷ events) accepted sound = sound_run plan (after_event state event) events accepted.1 (sound_after plan state event accepted.0 sound)

pub after_events-push : (state : Core) (events : List Event) (event : Event) → after_events state (events ++ event ∷ []) ≡ after_event (after_events state events) event
after_events-push state [] event = refl
after_events-push state (e ∷ events) event = after_events-push (after_event state e) events event

pub AreAccepted-push : (plan : CorePlan) (state : Core) (events : List Event) (event : Event) → AreAccepted plan state events
    → IsAllowed plan (after_events state events) event → AreAccepted plan state (events ++ event ∷ [])
AreAccepted-push plan state [] event accepted allowed = (allowed, tt)
AreAccepted-push plan state (e ∷ events) event accepted allowed = (accepted.0, AreAccepted-push plan (after_event state e) events event accepted.1 allowed)

-- ---- one end

first_of : (plan : CorePlan) (state : Core) (event : Event) (events : List Event) (index : ℕ) → IsFirstRefused plan state (event ∷ events) (suc index)
    → IsFirstRefused plan (after_event state event) events index
first_of plan state event events index first = record { accepted = first.accepted.1; refused = first.refused }

pub accepted_whole : (plan : CorePlan) (state : Core) (events : List Event) (index : ℕ) → AreAccepted plan state events → IsFirstRefused plan state events index → ⊥
accepted_whole plan state [] index accepted first = first.refused
accepted_whole plan state (event ∷ events) zero accepted first = first.refused accepted.0
accepted_whole plan state (event ∷ events) (suc index) accepted first =
    accepted_whole plan (after_event state event) events index accepted.1 (first_of plan state event events index first)

-- the event after an accepted front is the first that isn't allowed, where it isn't
pub refused_after : (plan : CorePlan) (state : Core) (front : List Event) (event : Event) (rest : List Event) → AreAccepted plan state front
    → (IsAllowed plan (after_events state front) event → ⊥) → IsFirstRefused plan state (front ++ event ∷ rest) (length front)
refused_after plan state [] event rest accepted refused = record { accepted = tt; refused = refused }
refused_after plan state (e ∷ front) event rest accepted refused =
    let later = refused_after plan (after_event state e) front event rest accepted.1 refused in
    record { accepted = (accepted.0, later.accepted); refused = later.refused }

pub one_first : (plan : CorePlan) (state : Core) (events : List Event) (one other : ℕ) → IsFirstRefused plan state events one → IsFirstRefused plan state events other → one ≡ other
one_first plan state [] one other first second = absurd first.refused
one_first plan state (event ∷ events) zero zero first second = refl
one_first plan state (event ∷ events) zero (suc other) first second = absurd (first.refused second.accepted.0)
one_first plan state (event ∷ events) (suc one) zero first second = absurd (second.refused first.accepted.0)
one_first plan state (event ∷ events) (suc one) (suc other) first second =
    ap suc (one_first plan (after_event state event) events one other (first_of plan state event events one first) (first_of plan state event events other second))

-- ---- what a loop over the events keeps

allowed_by : {A E : Type 0} (plan : CorePlan) (event : Event) (old new : Core) (result : Result A E) → AnswersEvent plan event old new result → is_err result ≡ false
    → IsAllowed plan old event × (new ≡ after_event old event)
allowed_by plan event old new (Ok value) answer is = answer
allowed_by plan event old new (Err error) answer is = absurd (false≢true (sym is))

pub refused_by : {A E : Type 0} (plan : CorePlan) (event : Event) (old new : Core) (result : Result A E) → AnswersEvent plan event old new result → is_err result ≡ true
    → IsAllowed plan old event → ⊥
refused_by plan event old new (Ok value) answer is = absurd (false≢true is)
refused_by plan event old new (Err error) answer is = answer.0

-- of the events, those so far are accepted, the state is the one that they leave, and the rest is to come
pub record IsMidway (plan : CorePlan) (from : Core) (events front rest : List Event) (state : Core) : Type 0 where
  pub split : events ≡ front ++ rest
  pub accepted : AreAccepted plan from front
  pub state_is : state ≡ after_events from front

pub midway_more : {A E : Type 0} (plan : CorePlan) (from : Core) (events front : List Event) (event : Event) (rest : List Event) (old new : Core) (result : Result A E)
    → IsMidway plan from events front (event ∷ rest) old → AnswersEvent plan event old new result → is_err result ≡ false
    → IsMidway plan from events (front ++ event ∷ []) rest new
midway_more plan from events front event rest old new result midway answer is =
    let allowed = allowed_by plan event old new result answer is in
    record {
      split = midway.split ∙ sym (append_assoc front (event ∷ []) rest);
      accepted = AreAccepted-push plan from front event midway.accepted (subst (λ s. IsAllowed plan s event) midway.state_is allowed.0);
      state_is = allowed.1 ∙ (ap (λ s. after_event s event) midway.state_is ∙ sym (after_events-push from front event));
    }

pub midway_whole : (plan : CorePlan) (from : Core) (events front rest : List Event) (state : Core) → IsMidway plan from events front rest state → length rest ≡ 0
    → AreAccepted plan from events
midway_whole plan from events front rest state midway none =
    subst (AreAccepted plan from) (sym (midway.split ∙ (ap (λ r. front ++ r) (nil_from_length rest none) ∙ append-nil front))) midway.accepted

pub midway_refused : (plan : CorePlan) (from : Core) (events front : List Event) (event : Event) (rest : List Event) (state : Core)
    → IsMidway plan from events front (event ∷ rest) state → (IsAllowed plan state event → ⊥) → IsFirstRefused plan from events (length front)
midway_refused plan from events front event rest state midway refused =
    subst (λ es. IsFirstRefused plan from es (length front)) (sym midway.split)
    (refused_after plan from front event rest midway.accepted (λ allowed. refused (subst (λ s. IsAllowed plan s event) (sym midway.state_is) allowed)))

-- ---- once

count-yes : (test : Event → Bool) (event : Event) (events : List Event) → test event ≡ true → count_by test (event ∷ events) ≡ 1 + count_by test events
count-yes test event events passes = sum_by-cons (λ e. cond (test e) 1 0) event events ∙ ap (λ b. cond b 1 0 + count_by test events) passes

count-no : (test : Event → Bool) (event : Event) (events : List Event) → test event ≡ false → count_by test (event ∷ events) ≡ count_by test events
count-no test event events fails = sum_by-cons (λ e. cond (test e) 1 0) event events ∙ (ap (λ b. cond b 1 0 + count_by test events) fails ∙ zero-add _)

-- what has an owner is never claimed, and what is done is never published
no_claim : (plan : CorePlan) (state : Core) (events : List Event) (file : ℕ) → slice_get state.owner file ≢ Some None → AreAccepted plan state events → count_by (claims file) events ≡ 0
no_claim plan state [] file taken accepted = refl
no_claim plan state (Claim worker claimed ∷ events) file taken accepted =
    ⊎_elim
    (λ same. absurd (taken (ap (slice_get state.owner) (sym same) ∙ accepted.0.free)))
    (λ other.
    count-no (claims file) (Claim worker claimed) events (ne_eqb claimed.0 file other)
    ∙ no_claim plan (after_event state (Claim worker claimed)) events file
    (λ e. taken (sym (slice_get-set_other state.owner claimed.0 file (Some worker) (λ back. other (sym back))) ∙ e)) accepted.1)
    (cases_eq claimed.0 file)
no_claim plan state (Publish worker published rec ∷ events) file taken accepted =
    count-no (claims file) (Publish worker published rec) events refl ∙ no_claim plan (after_event state (Publish worker published rec)) events file taken accepted.1

no_publication : (plan : CorePlan) (state : Core) (events : List Event) (file : ℕ) → slice_get state.done file ≢ Some None → AreAccepted plan state events
    → count_by (publishes file) events ≡ 0
no_publication plan state [] file taken accepted = refl
no_publication plan state (Claim worker claimed ∷ events) file taken accepted =
    count-no (publishes file) (Claim worker claimed) events refl ∙ no_publication plan (after_event state (Claim worker claimed)) events file taken accepted.1
no_publication plan state (Publish worker published rec ∷ events) file taken accepted =
    ⊎_elim
    (λ same. absurd (taken (ap (slice_get state.done) (sym same) ∙ accepted.0.not_done)))
    (λ other.
    count-no (publishes file) (Publish worker published rec) events (ne_eqb published.0 file other)
    ∙ no_publication plan (after_event state (Publish worker published rec)) events file
    (λ e. taken (sym (slice_get-set_other state.done published.0 file (Some rec) (λ back. other (sym back))) ∙ e)) accepted.1)
    (cases_eq published.0 file)

pub one_claim : (plan : CorePlan) (state : Core) (events : List Event) → AreAccepted plan state events → (file : ℕ) → count_by (claims file) events ≤ 1
one_claim plan state [] accepted file = omega arith
one_claim plan state (Claim worker claimed ∷ events) accepted file =
    let after : Core = after_event state (Claim worker claimed) in
    ⊎_elim
    (λ same.
    let here : slice_get after.owner file ≡ Some (Some worker) =
    ap (slice_get after.owner) (sym same) ∙ slice_get-set_same state.owner claimed.0 (Some worker) None accepted.0.free in
    let none = no_claim plan after events file (λ e. none-some worker (sym (same_Some _ _ (sym here ∙ e)))) accepted.1 in
    omega (arith, count-yes (claims file) (Claim worker claimed) events (eq-eqb claimed.0 file same), none))
    (λ other. omega (arith, count-no (claims file) (Claim worker claimed) events (ne_eqb claimed.0 file other), one_claim plan after events accepted.1 file))
    (cases_eq claimed.0 file)
one_claim plan state (Publish worker published rec ∷ events) accepted file =
    omega (arith, count-no (claims file) (Publish worker published rec) events refl, one_claim plan (after_event state (Publish worker published rec)) events accepted.1 file)

pub one_publication : (plan : CorePlan) (state : Core) (events : List Event) → AreAccepted plan state events → (file : ℕ) → count_by (publishes file) events ≤ 1
one_publication plan state [] accepted file = omega arith
one_publication plan state (Claim worker claimed ∷ events) accepted file =
    omega (arith, count-no (publishes file) (Claim worker claimed) events refl, one_publication plan (after_event state (Claim worker claimed)) events accepted.1 file)
one_publication plan state (Publish worker published rec ∷ events) accepted file =
    let after : Core = after_event state (Publish worker published rec) in
    ⊎_elim
    (λ same.
    let here : slice_get after.done file ≡ Some (Some rec) =
    ap (slice_get after.done) (sym same) ∙ slice_get-set_same state.done published.0 (Some rec) None accepted.0.not_done in
    let none = no_publication plan after events file (λ e. none-some rec (sym (same_Some _ _ (sym here ∙ e)))) accepted.1 in
    omega (arith, count-yes (publishes file) (Publish worker published rec) events (eq-eqb published.0 file same), none))
    (λ other.
    omega (arith, count-no (publishes file) (Publish worker published rec) events (ne_eqb published.0 file other), one_publication plan after events accepted.1 file))
    (cases_eq published.0 file)
