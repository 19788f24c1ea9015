-- Who owns a file after two workers have built three files, whatever their records are.
use Rattle.std.specs.Prelude.{◌≡◌, ℕ, List, [], ◌∷◌, Option, Some, None}
use Rattle.graph_types.specs.Modules.{file_id}
use Rattle.graph_types.specs.declared.record.ModRecord.{ModRecord}
use Rattle.make_core.specs.Core.{after_events, owner_of, start}
use Rattle.make_core.specs.declared.event.Event.{Event}
use Rattle.make_core.specs.declared.event.Event.TheVariants.{Claim, Publish}

abbrev pub work : ModRecord → List Event
work rec =
    Claim 0 (file_id 0) ∷ Publish 0 (file_id 0) rec ∷ Claim 0 (file_id 1) ∷ Claim 1 (file_id 2)
    ∷ Publish 1 (file_id 2) rec ∷ Publish 0 (file_id 1) rec ∷ []

abbrev pub owner_after : ModRecord → ℕ → Option ℕ
owner_after rec file = owner_of (after_events (start 3 2) (work rec)) file

pub record OwnersAreFound : Type 0 where
  pub claimed : (rec : ModRecord) → owner_after rec 2 ≡ Some 1
  pub beyond : (rec : ModRecord) → owner_after rec 3 ≡ None
