-- Placed modules serve: along each load history the first group that reaches a module has it placed.
use Rattle.std.proofs.Common.{ℕ, zero, ◌⊎◌, inl, inr, List, [], ◌∷◌, ◌++◌, append-nil, append_assoc, refl, sym, ap, subst, ◌∙◌, arith}
use Rattle.std.specs.Prelude.{◌↔◌, IsTrue, Contains}
use Rattle.std.proofs.lemmas.Bool.{cases_Bool, false≢true}
use Rattle.std.proofs.lemmas.List.Elements.{Contains-push, Contains-push_cases}
use Rattle.chunk_groups.specs.Histories.{Follow, IsHistory}
use Rattle.chunk_groups.specs.Net.{Net, Reaches}
use Rattle.chunk_groups.specs.Serving.{HasOne, Holds, NoneBrings, Placement, Serves}
use Rattle.chunk_groups.proofs.Brought.{one-more}
use Rattle.chunk_groups.proofs.Joined.{history-more, history-parts}
use Rattle.chunk_groups.proofs.Marks.{contains-none}
use Rattle.graph_types.proofs.Reached.{head-or-rest, rest-member}
use Rattle.seal_build.specs.Final.{IsPlaced}

some_or_none : (placed : Placement) (members : List ℕ) (m : ℕ) → HasOne (Holds placed) members m ⊎ NoneBrings (Holds placed) members m
some_or_none placed [] m = inr (λ p inside held. contains-none p inside)
some_or_none placed (g ∷ members) m = elim (cases_Bool (placed g m)) [
  | inl held ↦ inl (g, (zero, omega arith, refl), held)
  | inr missing ↦ elim (some_or_none placed members m) [
    | inl one ↦ inl (one.0, rest-member g members one.0 one.1, one.2)
    | inr none ↦ inr (λ p inside held. elim (head-or-rest g members p inside) [
      | inl is ↦ false≢true (sym missing ∙ ap (λ k. placed k m) is ∙ held)
      | inr later ↦ none p later held
    ])
  ]
]

module _ (net : Net) (placed : Placement) (exact : (g m : ℕ) → IsTrue (placed g m) ↔ IsPlaced net g m) (m : ℕ) where
  -- where a member reaches the module, a member has it placed
  Served : List ℕ → Type 0
  Served members = (p : ℕ) → Contains members p → Reaches net p m → HasOne (Holds placed) members m

  served-here : (earlier : List ℕ) (g : ℕ) → IsHistory net (earlier ++ g ∷ []) → Served earlier → Reaches net g m → Holds placed g m ⊎ HasOne (Holds placed) earlier m
  unfolding Served
  served-here earlier g history served reaches = elim (cases_Bool (placed g m)) [
    | inl held ↦ inl held
    | inr missing ↦ elim (some_or_none placed earlier m) [
      | inl one ↦ inr one
      | inr none ↦ absurd (false≢true (sym missing ∙ (exact g m).1 (
        reaches,
        λ available.
            let (p, inside, reached) = available earlier history in
            let (q, among, held) = served p inside reached in
            none q among held,
      )))
    ]
  ]

  served-more : (earlier : List ℕ) (g : ℕ) → IsHistory net (earlier ++ g ∷ []) → Served earlier → Served (earlier ++ g ∷ [])
  unfolding Served
  served-more earlier g history served p inside reaches = elim (Contains-push_cases earlier g p inside) [
    | inl before ↦ one-more (Holds placed) earlier g m (served p before reaches)
    | inr is ↦ elim (served-here earlier g history served (subst (λ (k : ℕ). Reaches net k m) (sym is) reaches)) [
      | inl held ↦ (g, Contains-push earlier g, held)
      | inr one ↦ one-more (Holds placed) earlier g m one
    ]
  ]

  served-all : (earlier later : List ℕ) → IsHistory net earlier → Follow net earlier later → Served earlier → Served (earlier ++ later)
  served-all earlier [] history follow served = subst (λ (l : List ℕ). Served l) (sym (append-nil earlier)) served
  served-all earlier (g ∷ later) history (here, rest) served =
      let more = history-more net earlier g history here in
      subst (λ (l : List ℕ). Served l) (append_assoc earlier (g ∷ []) later) (served-all (earlier ++ g ∷ []) later more rest (served-more earlier g more served))

  served-none : Served []
  unfolding Served
  served-none p inside reaches = absurd (contains-none p inside)

  pub served-along : (earlier later : List ℕ) (g : ℕ) → IsHistory net (earlier ++ g ∷ later) → Reaches net g m → Holds placed g m ⊎ HasOne (Holds placed) earlier m
  served-along earlier later g history reaches =
      let parts = history-parts net earlier later g history in
      served-here earlier g (history-more net earlier g parts.0 parts.1) (served-all [] earlier tt parts.0 served-none) reaches

pub placed-serves : (net : Net) (placed : Placement) → ((g m : ℕ) → IsTrue (placed g m) ↔ IsPlaced net g m) → Serves net placed
placed-serves net placed exact earlier later g m history reaches = served-along net placed exact m earlier later g history reaches
