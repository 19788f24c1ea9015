-- Ways to a group and load histories that end with it.
use Rattle.std.proofs.Common.{◌≡◌, ℕ, ◌+◌, ◌<◌, ◌⊎◌, inl, inr, List, [], ◌∷◌, ◌++◌, length, append-nil, append_assoc, refl, sym, ap, subst, arith}
use Rattle.std.specs.Prelude.{IsTrue, Contains}
use Rattle.std.proofs.lemmas.List.{length-append}
use Rattle.std.proofs.lemmas.List.Elements.{Contains-append_left, Contains-push, Contains-push_cases}
use Rattle.graph_types.proofs.Reached.{head-or-rest}
use Rattle.chunk_groups.specs.Histories.{MayFollow, Follow, IsHistory}
use Rattle.chunk_groups.specs.Net.{Net, Reaches}
use Rattle.chunk_groups.specs.Serving.{NoneBrings, Opens}
use Rattle.chunk_groups.proofs.Joined.{history-parts}
use Rattle.chunk_groups.proofs.Marks.{contains-none}
use Rattle.avail_sets.specs.inner.Layers.{IsPath}
use Rattle.avail_sets.specs.Reasons.{IsReason}

module _ (net : Net) (m : ℕ) where
  -- one group more at the end of a way
  pub path-more : (p q : ℕ) → Opens net q p → (Reaches net q m → ⊥) → (first : ℕ) (rest : List ℕ) → IsPath net q m first rest → IsPath net p m first (rest ++ p ∷ [])
  path-more p q opens not first [] is = (subst (λ (k : ℕ). Opens net k p) (sym is) opens, λ reaches. not (subst (λ (k : ℕ). Reaches net k m) is reaches), refl)
  path-more p q opens not first (next ∷ rest) (leads, none, path) = (leads, none, path-more p q opens not next rest path)

  -- an entry, a way from it to the group, and that the way is the list or shorter
  abbrev pub HasWay : ℕ → List ℕ → Type 0
  HasWay p members = (first : ℕ) × ((rest : List ℕ) × IsTrue (net.is_entry first) × IsPath net p m first rest × ((first ∷ rest ≡ members) ⊎ (length rest + 1 < length members)))

  way-longer : (p q : ℕ) (members : List ℕ) → HasWay p members → HasWay p (members ++ q ∷ [])
  way-longer p q members (first, (rest, is_entry, path, same)) = (
    first,
    (
      rest,
      is_entry,
      path,
      inr (elim same [
        | inl e ↦ omega (arith, length-append members (q ∷ []), ap length e)
        | inr less ↦ omega (arith, length-append members (q ∷ []))
      ]),
    ),
  )

  alone : (p : ℕ) (members : List ℕ) → (p ∷ [] ≡ members ++ p ∷ []) ⊎ (1 < length (members ++ p ∷ []))
  alone p [] = inl refl
  alone p (q ∷ members) = inr (omega (arith, length-append members (p ∷ [])))

  -- each member has a way
  Ways : List ℕ → Type 0
  Ways members = (p : ℕ) → Contains members p → (p < net.groups) × HasWay p members

  way-here : (members : List ℕ) (p : ℕ) → NoneBrings (Reaches net) members m → Ways members → MayFollow net members p → HasWay p (members ++ p ∷ [])
  unfolding Ways
  way-here members p none ways follows = elim follows.how [
    | inl is_entry ↦ (p, ([], is_entry, refl, alone p members))
    | inr (lazy, (q, inside, leads)) ↦
        let (from, (first, (rest, is_entry, path, same))) = ways q inside in
        let opens : Opens net q p = record { from = from; to = follows.is_group; on_demand = lazy; leads = leads } in (
          first,
          (
            rest ++ p ∷ [],
            is_entry,
            path-more p q opens (none q inside) first rest path,
            elim same [
              | inl e ↦ inl (ap (λ l. l ++ p ∷ []) e)
              | inr less ↦ inr (omega (arith, length-append rest (p ∷ []), length-append members (p ∷ [])))
            ],
          ),
        )
  ]

  ways-more : (members : List ℕ) (p : ℕ) → NoneBrings (Reaches net) members m → Ways members → MayFollow net members p → Ways (members ++ p ∷ [])
  unfolding Ways
  ways-more members p none ways follows q inside = elim (Contains-push_cases members p q inside) [
    | inl before ↦ let (from, way) = ways q before in (from, way-longer q p members way)
    | inr is ↦ subst (λ (k : ℕ). (k < net.groups) × HasWay k (members ++ p ∷ [])) is (follows.is_group, way-here members p none ways follows)
  ]

  ways-all : (earlier later : List ℕ) → Follow net earlier later → NoneBrings (Reaches net) (earlier ++ later) m → Ways earlier → Ways (earlier ++ later)
  ways-all earlier [] follow none ways = subst Ways (sym (append-nil earlier)) ways
  ways-all earlier (p ∷ later) (here, rest) none ways =
      let before : NoneBrings (Reaches net) earlier m = λ q inside. none q (Contains-append_left earlier (p ∷ later) q inside) in
      let same : (earlier ++ p ∷ []) ++ later ≡ earlier ++ p ∷ later = append_assoc earlier (p ∷ []) later in
      subst Ways same (ways-all (earlier ++ p ∷ []) later rest (subst (λ (l : List ℕ). NoneBrings (Reaches net) l m) (sym same) none) (ways-more earlier p before ways here))

  ways-none : Ways []
  unfolding Ways
  ways-none p inside = absurd (contains-none p inside)

  pub reason-way : (g : ℕ) (members : List ℕ) → IsReason net g m members → HasWay g members
  reason-way g members reason =
      let parts = history-parts net reason.earlier [] g (subst (IsHistory net) reason.ends reason.history) in
      subst (HasWay g) (sym reason.ends) (way-here reason.earlier g reason.none (ways-all [] reason.earlier parts.0 reason.none ways-none) parts.1)

  path-follow : (g : ℕ) (earlier : List ℕ) (p : ℕ) (rest : List ℕ) → MayFollow net earlier p → IsPath net g m p rest → Follow net earlier (p ∷ rest)
  path-follow g earlier p [] follows is = (follows, tt)
  path-follow g earlier p (q ∷ rest) follows (opens, not, path) =
      let next : MayFollow net (earlier ++ p ∷ []) q = record { is_group = opens.to; how = inr (opens.on_demand, (p, Contains-push earlier p, opens.leads)) } in
      (follows, path-follow g (earlier ++ p ∷ []) q rest next path)

  path-front : (g p : ℕ) (rest : List ℕ) → IsPath net g m p rest → (front : List ℕ) × (p ∷ rest ≡ front ++ g ∷ []) × NoneBrings (Reaches net) front m
  path-front g p [] is = ([], ap (λ k. k ∷ []) is, λ q inside brings. contains-none q inside)
  path-front g p (q ∷ rest) (opens, not, path) =
      let (front, ends, none) = path-front g q rest path in (
        p ∷ front,
        ap (λ l. p ∷ l) ends,
        λ k inside brings. elim (head-or-rest p front k inside) [ inl e ↦ not (subst (λ (i : ℕ). Reaches net i m) (sym e) brings) | inr there ↦ none k there brings ],
      )

  pub path-reason : (g p : ℕ) (rest : List ℕ) → p < net.groups → IsTrue (net.is_entry p) → IsPath net g m p rest → IsReason net g m (p ∷ rest)
  path-reason g p rest within is_entry path =
      let (front, ends, none) = path-front g p rest path in
      record {
        earlier = front;
        ends = ends;
        history = path-follow g [] p rest (record { is_group = within; how = inl is_entry }) path;
        none = none;
      }
