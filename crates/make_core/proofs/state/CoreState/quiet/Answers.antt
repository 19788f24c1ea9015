use Rattle.std.proofs.Common.{◌≡◌, ◌↔◌, ℕ, true, IsTrue, IsSome, is_some, ap, sym, subst₂, ◌∙◌, subst}
use Rattle.std.specs.List.{list_all}
use Rattle.std.specs.Option.{option_map_or}
use Rattle.std.proofs.lemmas.Bool.{false≢true}
use Rattle.make_core.specs.Core.{Core, entries_of, names_owned, value_of}
use Rattle.make_core.proofs.Tests.{entries_told, targets_told}
use Rattle.make_core.proofs.state.CoreState.quiet.Goals as goal

pub returns-then-not-are_entries_owned : goal.returns-then-not-are_entries_owned
returns-then-not-are_entries_owned c =
    let owner = c.deref.ensures.value ∙ ap (λ (s : Core). s.owner) c.self.view_is in
    let entries = entries_told c.args.plan.now c.args.self.now c.are_entries_owned.result
    (subst (λ o. c.are_entries_owned.result ≡ list_all (λ entry. is_some (value_of o entry)) (entries_of c.args.plan.now)) owner c.are_entries_owned.ensures) in
    (λ e. absurd (false≢true e), λ quiet. absurd (false≢true (sym c.if-not-are_entries_owned.true ∙ entries.1 quiet.entries)))

pub returns-else-are_finished : goal.returns-else-are_finished
returns-else-are_finished c =
    let owner = c.deref-2.ensures.value ∙ ap (λ (s : Core). s.owner) c.self.view_is in
    let done = c.deref-3.ensures.value ∙ ap (λ (s : Core). s.done) c.self.view_is in
    let finished = subst₂ (λ o d. IsTrue c.are_finished.result ↔ ((file : ℕ) → IsSome (value_of o file) → IsSome (value_of d file))) owner done c.are_finished.ensures in
    (λ t. absurd (false≢true (sym c.if-are_finished.false ∙ t)), λ quiet. finished.1 quiet.finished)

pub returns-then-are_finished : goal.returns-then-are_finished
returns-then-are_finished c =
    let view_owner = ap (λ (s : Core). s.owner) c.self.view_is in
    let view_done = ap (λ (s : Core). s.done) c.self.view_is in
    let entries = entries_told c.args.plan.now c.args.self.now c.are_entries_owned.result
    (subst (λ o. c.are_entries_owned.result ≡ list_all (λ entry. is_some (value_of o entry)) (entries_of c.args.plan.now)) (c.deref.ensures.value ∙ view_owner)
    c.are_entries_owned.ensures) in
    let finished = subst₂ (λ o d. IsTrue c.are_finished.result ↔ ((file : ℕ) → IsSome (value_of o file) → IsSome (value_of d file)))
    (c.deref-2.ensures.value ∙ view_owner) (c.deref-3.ensures.value ∙ view_done) c.are_finished.ensures in
    let targets = targets_told c.args.plan.now c.args.self.now c.are_targets_owned.result
    (subst₂ (λ o d. c.are_targets_owned.result ≡ list_all (λ rec. option_map_or (names_owned o) rec true) d)
    (c.deref-then-are_finished.ensures.value ∙ view_owner) (c.deref-then-are_finished-2.ensures.value ∙ view_done) c.are_targets_owned.ensures) in (
      λ t. record {
        entries = entries.0 c.if-not-are_entries_owned.false;
        finished = finished.0 c.if-are_finished.true;
        targets = targets.0 t;
      },
      λ quiet. targets.1 quiet.targets,
    )
