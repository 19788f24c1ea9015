-- Each group has a load history, since a block is found only in a module that a group with a history reaches.
use Rattle.std.proofs.Common.{◌≡◌, ℕ, zero, suc, ◌<◌, inl, inr, false, List, [], ◌∷◌, ◌++◌}
use Rattle.std.specs.Prelude.{IsTrue, Contains}
use Rattle.std.proofs.lemmas.Bool.{cases_Bool}
use Rattle.std.proofs.lemmas.List.Elements.{Contains-push, Contains-append_cases}
use Rattle.graph_types.specs.Reached.{Walk}
use Rattle.chunk_groups.specs.Net.{Net, Reaches}
use Rattle.chunk_groups.specs.Histories.{MayFollow, IsHistory}
use Rattle.chunk_groups.specs.Grown.{IsGrown}
use Rattle.chunk_groups.proofs.Joined.{history-more}

module _ (net : Net) (on_demand : ℕ → List ℕ) (first : List ℕ) (grown : IsGrown net on_demand first) where
  -- a group with a history reaches the module
  abbrev IsLoaded : ℕ → Type 0
  IsLoaded m = (earlier : List ℕ) × ((p : ℕ) × IsHistory net (earlier ++ p ∷ []) × Reaches net p m)

  follows-block : (earlier : List ℕ) (p g home : ℕ) → IsHistory net (earlier ++ p ∷ []) → Reaches net p home → g < net.groups → net.is_entry g ≡ false → Contains (net.homes g) home
      → IsHistory net ((earlier ++ p ∷ []) ++ g ∷ [])
  follows-block earlier p g home history reached within lazy inside =
      let follows : MayFollow net (earlier ++ p ∷ []) g = record { is_group = within; how = inr (lazy, (p, Contains-push earlier p, (home, inside, reached))) } in
      history-more net (earlier ++ p ∷ []) g history follows

  entry-history : (g : ℕ) → g < net.groups → IsTrue (net.is_entry g) → IsHistory net (g ∷ [])
  entry-history g within is_entry = (record { is_group = within; how = inl is_entry }, tt)

  loaded : (steps m : ℕ) → Walk (λ m. net.targets m ++ on_demand m) first m steps → IsLoaded m
  loaded zero m start = let (g, within, is_entry, root) = grown.entries m start in ([], (g, entry-history g within is_entry, (0, root)))
  loaded (suc steps) m (from, walk, leads) =
      let (earlier, (p, history, reached)) = loaded steps from walk in
      elim (Contains-append_cases (net.targets from) (on_demand from) m leads) [
        | inl at_once ↦ (earlier, (p, history, (suc reached.0, (from, reached.1, at_once))))
        | inr lazy ↦
            let (g, within, is_lazy, home, root) = grown.blocks from m lazy in
            (earlier ++ p ∷ [], (g, follows-block earlier p g from history reached within is_lazy home, (0, root)))
      ]

  pub each-has-history : (g : ℕ) → g < net.groups → (earlier : List ℕ) × IsHistory net (earlier ++ g ∷ [])
  each-has-history g within = elim (cases_Bool (net.is_entry g)) [
    | inl is_entry ↦ ([], entry-history g within is_entry)
    | inr is_lazy ↦
        let (home, inside, found) = grown.found g within is_lazy in
        let (earlier, (p, history, reached)) = loaded found.0 home found.1 in
        (earlier ++ p ∷ [], follows-block earlier p g home history reached within is_lazy inside)
  ]
