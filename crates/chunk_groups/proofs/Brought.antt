-- What is there when a group is loaded, whatever groups bring.
use Rattle.std.proofs.Common.{ℕ, ◌<◌, ◌⊎◌, inl, inr, List, [], ◌∷◌, ◌++◌, append-nil, append_assoc, sym, subst}
use Rattle.std.specs.Prelude.{IsTrue, Contains}
use Rattle.std.proofs.lemmas.List.Elements.{Contains-append_left, Contains-push, Contains-push_cases}
use Rattle.chunk_groups.specs.Net.{Net, Reaches}
use Rattle.chunk_groups.specs.Histories.{MayFollow, Follow}
use Rattle.chunk_groups.specs.Serving.{HasOne, IsThere, MayLack, Placement, Holds, Serves, Opens, IsSettled}
use Rattle.chunk_groups.proofs.Joined.{history-parts, history-more}
use Rattle.chunk_groups.proofs.Marks.{contains-none}

pub one-more : (brings : ℕ → ℕ → Type 0) (earlier : List ℕ) (g m : ℕ) → HasOne brings earlier m → HasOne brings (earlier ++ g ∷ []) m
one-more brings earlier g m (p, inside, brought) = (p, Contains-append_left earlier (g ∷ []) p inside, brought)

module _ (net : Net) (brings : ℕ → ℕ → Type 0) where
  -- what a member has there when it is loaded, one of the members brings
  Held : Placement → ℕ → List ℕ → Type 0
  Held rows m members = (p : ℕ) → Contains members p → (p < net.groups) × (IsTrue (rows p m) → HasOne brings members m)

  held-here : (rows : Placement) (m : ℕ) → IsSettled net brings rows → (earlier : List ℕ) (g : ℕ) → MayFollow net earlier g → Held rows m earlier → IsTrue (rows g m) → HasOne brings earlier m
  unfolding Held
  held-here rows m settled earlier g follows held there = elim follows.how [
    | inl is_entry ↦ absurd (settled.entries g m is_entry there)
    | inr (on_demand, (p, inside, leads)) ↦
        let opens : Opens net p g = record { from = (held p inside).0; to = follows.is_group; on_demand = on_demand; leads = leads } in
        elim (settled.handed p g m opens there) [ inl has ↦ (held p inside).1 has | inr brought ↦ (p, inside, brought) ]
  ]

  held-more : (rows : Placement) (m : ℕ) → IsSettled net brings rows → (earlier : List ℕ) (g : ℕ) → MayFollow net earlier g → Held rows m earlier → Held rows m (earlier ++ g ∷ [])
  unfolding Held
  held-more rows m settled earlier g follows held p inside = elim (Contains-push_cases earlier g p inside) [
    | inl before ↦ ((held p before).0, λ there. one-more brings earlier g m ((held p before).1 there))
    | inr is ↦ (
      subst (λ (k : ℕ). k < net.groups) is follows.is_group,
      λ there. one-more brings earlier g m (held-here rows m settled earlier g follows held (subst (λ (k : ℕ). IsTrue (rows k m)) (sym is) there)),
    )
  ]

  held-all : (rows : Placement) (m : ℕ) → IsSettled net brings rows → (earlier later : List ℕ) → Follow net earlier later → Held rows m earlier → Held rows m (earlier ++ later)
  held-all rows m settled earlier [] follow held = subst (λ (l : List ℕ). Held rows m l) (sym (append-nil earlier)) held
  held-all rows m settled earlier (g ∷ later) (here, rest) held =
      subst (λ (l : List ℕ). Held rows m l) (append_assoc earlier (g ∷ []) later)
      (held-all rows m settled (earlier ++ g ∷ []) later rest (held-more rows m settled earlier g here held))

  held-none : (rows : Placement) (m : ℕ) → Held rows m []
  unfolding Held
  held-none rows m p inside = absurd (contains-none p inside)

  pub settled-there : (rows : Placement) → IsSettled net brings rows → (g m : ℕ) → IsTrue (rows g m) → IsThere net brings g m
  settled-there rows settled g m there earlier history =
      let parts = history-parts net earlier [] g history in
      held-here rows m settled earlier g parts.1 (held-all rows m settled [] earlier parts.0 (held-none rows m)) there

  pub lacking-there : (g m : ℕ) → MayLack net brings g m → IsThere net brings g m → ⊥
  lacking-there g m (earlier, history, none) there = let (p, inside, brought) = there earlier history in none p inside brought

  -- a group that may load another and doesn't bring what it may lack hands the lack on
  pub lacking-handed : (p g m : ℕ) → Opens net p g → MayLack net brings p m → (brings p m → ⊥) → MayLack net brings g m
  lacking-handed p g m opens (earlier, history, none) not =
      let follows : MayFollow net (earlier ++ p ∷ []) g = record { is_group = opens.to; how = inr (opens.on_demand, (p, Contains-push earlier p, opens.leads)) } in (
        earlier ++ p ∷ [],
        history-more net (earlier ++ p ∷ []) g history follows,
        λ q inside brought. elim (Contains-push_cases earlier p q inside) [ inl before ↦ none q before brought | inr is ↦ not (subst (λ (k : ℕ). brings k m) (sym is) brought) ],
      )

  pub lacking-entry : (g m : ℕ) → g < net.groups → IsTrue (net.is_entry g) → MayLack net brings g m
  lacking-entry g m within is_entry = ([], (record { is_group = within; how = inl is_entry }, tt), λ p inside brought. contains-none p inside)

-- groups that bring the same have the same there
pub there-by : (net : Net) (brings other : ℕ → ℕ → Type 0) → ((g m : ℕ) → brings g m → other g m) → (g m : ℕ) → IsThere net brings g m → IsThere net other g m
there-by net brings other weaker g m there earlier history = let (p, inside, brought) = there earlier history in (p, inside, weaker p m brought)

pub lacking-by : (net : Net) (brings other : ℕ → ℕ → Type 0) → ((g m : ℕ) → other g m → brings g m) → (g m : ℕ) → MayLack net brings g m → MayLack net other g m
lacking-by net brings other stronger g m (earlier, history, none) = (earlier, history, λ p inside brought. none p inside (stronger p m brought))

-- a placement serves where each reached module is placed or in settled rows
pub serves-by-rows : (net : Net) (placed rows : Placement) → IsSettled net (Holds placed) rows → ((g m : ℕ) → g < net.groups → Reaches net g m → Holds placed g m ⊎ IsTrue (rows g m)) → Serves net placed
serves-by-rows net placed rows settled covered earlier later g m history reached =
    let parts = history-parts net earlier later g history in
    elim (covered g m parts.1.is_group reached) [
      | inl held ↦ inl held
      | inr there ↦ inr (settled-there net (Holds placed) rows settled g m there earlier (history-more net earlier g parts.0 parts.1))
    ]

pub serves-not : (net : Net) (placed : Placement) (g m : ℕ) → Reaches net g m → (Holds placed g m → ⊥) → MayLack net (Holds placed) g m → Serves net placed → ⊥
serves-not net placed g m reached not (earlier, history, none) serves = elim (serves earlier [] g m history reached) [ inl held ↦ not held | inr (p, inside, held) ↦ none p inside held ]

pub serves-more : (net : Net) (placed more : Placement) → ((g m : ℕ) → Holds placed g m → Holds more g m) → Serves net placed → Serves net more
serves-more net placed more grows serves earlier later g m history reached = elim (serves earlier later g m history reached) [
  | inl held ↦ inl (grows g m held)
  | inr (p, inside, held) ↦ inr (p, inside, grows p m held)
]
