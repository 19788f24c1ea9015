-- What a sink's call does to its list (this project).
use Rattle.std.specs.Prelude.{◌≡◌, ℕ, List, [], ◌∷◌, ◌++◌, Option, option_map, Result, is_ok, if◌then◌else◌}
use Rattle.outside.specs.Cause.{HasCause}
use Rattle.outside.specs.Views.{SinkView}
use Rattle.outside.specs.declared.outside_end.OutsideEnd.{OutsideEnd}
use Rattle.outside.specs.declared.asset_sink.Asset.{Asset}

abbrev pub asset : List ℕ → List ℕ → Asset
asset name bytes = record { name = name; bytes = bytes }

-- the new list is the old one with these at its end, and is told where the old one is
abbrev pub HasAdded : {A : Type 0} → Option (List A) → Option (List A) → List A → Type 0
HasAdded old new more = new ≡ option_map (λ members. members ++ more) old

-- an Ok adds the member, and any other answer leaves the list
pub record Puts {A : Type 0} (member : A) (before now : SinkView A) (result : Result Unit OutsideEnd) : Type 0 where
  pub held : HasAdded before.held now.held (if is_ok result then member ∷ [] else [])
  pub cause : HasCause before.faults now.faults result
