-- The modules in which the blocks of a group stand, and what a group may load.
use Rattle.std.proofs.Common.{◌≡◌, ℕ, ◌+◌, ◌<◌, ◌≤◌, Bool, false, List, [], length, get_or, set, sym, ap, subst, ◌∙◌, arith, inl, inr}
use Rattle.std.specs.Prelude.{◌↔◌, IsTrue}
use Rattle.std.proofs.lemmas.Bool.{cases_eq, cases_lt, false≢true}
use Rattle.std.proofs.lemmas.List.{get_or-map, get_or_past, get_or-set_same, get_or-set_other, length-map}
use Rattle.bit_rows.specs.Table.{Table}
use Rattle.graph_types.specs.declared.block.Block.{Block}
use Rattle.graph_types.specs.declared.groups.GroupInfo.{GroupInfo}
use Rattle.graph_types.specs.Edges.{blocks_of}
use Rattle.graph_types.specs.Modules.{Graph}
use Rattle.chunk_groups.specs.Grouped.{IsOver, IsReach, home_of, info_at, net_of, no_block}
use Rattle.chunk_groups.specs.Rows.{bit, bit_in}
use Rattle.chunk_groups.specs.Serving.{Opens}
use Rattle.chunk_groups.proofs.Marks.{bit-within}
use Rattle.chunk_groups.proofs.Within.{blocks-within}
use Rattle.avail_sets.specs.inner.Falling.{HasHomeIn, IsOpened, SaysWhich}

module _ (graph : Graph) (info : GroupInfo) (blocks : List Block) (items : List ℕ) (held : blocks ≡ blocks_of graph.records) (listed : items ≡ info.blocks) where
  pub home-within : (i : ℕ) → IsOver graph info → i < length items → home_of blocks (get_or items i 0) < length graph.records
  home-within i over l =
      let inside : get_or items i 0 < length (blocks_of graph.records) =
      subst (λ (xs : List ℕ). get_or xs i 0 < length (blocks_of graph.records)) (sym listed) (over.blocks i 0 (subst (λ (xs : List ℕ). i < length xs) listed l)) in
      subst (λ (bs : List Block). home_of bs (get_or items i 0) < length graph.records) (sym held) (blocks-within graph.records (get_or items i 0) no_block inside).0

  pub home-found : (i : ℕ) (modules : List Bool) → i < length items → IsTrue (bit modules (home_of blocks (get_or items i 0))) → HasHomeIn graph info modules
  home-found i modules l is =
      let f = home_of (blocks_of graph.records) in
      let within : i < length info.blocks = subst (λ (xs : List ℕ). i < length xs) listed l in
      let home = f (get_or info.blocks i 0) in (
        home,
        (i, omega (arith, length-map info.blocks f), get_or-map f info.blocks i 0 home within),
        subst (λ (xs : List ℕ). IsTrue (bit modules (f (get_or xs i 0)))) listed (subst (λ (bs : List Block). IsTrue (bit modules (home_of bs (get_or items i 0)))) held is),
      )

  pub home-none : (modules : List Bool) → ((k : ℕ) → k < length items → bit modules (home_of (blocks_of graph.records) (get_or items k 0)) ≡ false) → HasHomeIn graph info modules → ⊥
  home-none modules none (home, (k, l, e), is) =
      let f = home_of (blocks_of graph.records) in
      let within : k < length info.blocks = omega (arith, length-map info.blocks f) in
      let same : f (get_or info.blocks k 0) ≡ home = sym (get_or-map f info.blocks k 0 home within) ∙ e in
      let not : bit modules (f (get_or info.blocks k 0)) ≡ false = subst (λ (xs : List ℕ). bit modules (f (get_or xs k 0)) ≡ false) listed (none k (subst (λ (xs : List ℕ). k < length xs) (sym listed) within)) in
      false≢true (sym (subst (λ (m : ℕ). bit modules m ≡ false) same not) ∙ is)

module _ (graph : Graph) (infos : List GroupInfo) (reach : Table) (reached : IsReach graph infos reach) where
  pub opened-row : (p : ℕ) (modules made : List Bool) → p < length infos → modules ≡ get_or reach.rows p [] → length made ≡ length infos → SaysWhich (λ g. IsOpened graph (info_at infos g) modules) made (length infos)
      → (g : ℕ) → IsTrue (bit made g) ↔ Opens (net_of graph infos) p g
  opened-row p modules made within row long which g =
      let reaches : (m : ℕ) → IsTrue (bit modules m) → IsTrue (bit_in reach.rows p m) = λ m is. subst (λ (r : List Bool). IsTrue (bit r m)) row is in
      let back : (m : ℕ) → IsTrue (bit_in reach.rows p m) → IsTrue (bit modules m) = λ m is. subst (λ (r : List Bool). IsTrue (bit r m)) (sym row) is in (
        λ is.
            let to : g < length infos = omega (arith, bit-within made g is, long) in
            let (lazy, (home, inside, held)) = (which.says g to).0 is in
            record { from = within; to = to; on_demand = lazy; leads = (home, inside, (reached.exact p home).0 (reaches home held)) },
        λ opens.
            let (home, inside, held) = opens.leads in
            (which.says g opens.to).1 (opens.on_demand, (home, inside, back home ((reached.exact p home).1 held))),
      )

  pub opened-more : (rows : List (List Bool)) (made : List Bool) (p : ℕ) → p < length rows → ((k g : ℕ) → k < p → IsTrue (bit_in rows k g) ↔ Opens (net_of graph infos) k g)
      → ((g : ℕ) → IsTrue (bit made g) ↔ Opens (net_of graph infos) p g) → (k g : ℕ) → k < p + 1 → IsTrue (bit_in (set rows p made) k g) ↔ Opens (net_of graph infos) k g
  opened-more rows made p within before here k g l = elim (cases_eq k p) [
    | inl e ↦ rw (e, get_or-set_same rows p made [] within) (here g)
    | inr n ↦ rw (get_or-set_other rows p k made [] n) (before k g (omega arith))
  ]

  pub opened-all : (rows : List (List Bool)) (p : ℕ) → length rows ≡ length infos → length infos ≤ p → ((k g : ℕ) → k < p → IsTrue (bit_in rows k g) ↔ Opens (net_of graph infos) k g)
      → (k g : ℕ) → IsTrue (bit_in rows k g) ↔ Opens (net_of graph infos) k g
  opened-all rows p many all says k g = elim (cases_lt k (length infos)) [
    | inl l ↦ says k g (omega arith)
    | inr past ↦ (
      λ is. absurd (false≢true (sym (ap (λ (r : List Bool). bit r g) (get_or_past rows k [] (omega arith))) ∙ is)),
      λ opens. let from : k < length infos = opens.from in absurd (omega arith),
    )
  ]
