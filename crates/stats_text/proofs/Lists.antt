-- Values and the data that they stand for, in lists.
use Rattle.std.proofs.Common.{◌≡◌, List, [], ◌∷◌, ◌++◌, map, Vec, Global, ap, ◌∙◌, sym}
use Rattle.std.proofs.lemmas.List.{map-append}
use Rattle.serde_json.proofs.Views.{view-Array}
use Rattle.serde_json.specs.Data.{Data}
use Rattle.serde_json.specs.View.{view}
use Rattle.serde_json.specs.declared.value.Value.{Value, Array}
use Rattle.stats_text.specs.Stats.{list_stats}

pub view-pushed : (old new : List Value) (value : Value) (front whole : List Data) (data_of : Data) → new ≡ old ++ value ∷ [] → map view old ≡ front → view value ≡ data_of → whole ≡ front ++ data_of ∷ [] → map view new ≡ whole
view-pushed old new value front whole data_of pushed before is more =
    ap (map view) pushed ∙ map-append view old (value ∷ []) ∙ ap (λ values. values ++ view value ∷ []) before
    ∙ ap (λ last. front ++ last ∷ []) is ∙ sym more

pub view-list : (values : Vec Value Global) (whole : List Data) → map view values.items ≡ whole → view (Array values) ≡ list_stats whole
view-list values whole is = view-Array values ∙ ap list_stats is

-- a part that was added to a list's front
pub added : {X : Type 0} (old new front part whole : List X) → new ≡ old ++ part → old ≡ front → whole ≡ front ++ part → new ≡ whole
added old new front part whole after before more = after ∙ ap (λ list. list ++ part) before ∙ sym more
