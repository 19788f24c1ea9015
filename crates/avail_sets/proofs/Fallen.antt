-- What the rows say once no group is pending.
use Rattle.std.proofs.Common.{◌≡◌, ℕ, ◌<◌, ◌⊎◌, inl, inr, Bool, true, false, not, List, [], length, refl, sym, ◌∙◌, arith}
use Rattle.std.specs.Prelude.{IsTrue}
use Rattle.std.proofs.lemmas.Bool.{cases_lt, cases_Bool, true≢false}
use Rattle.bit_rows.specs.Places.{NoneTrue}
use Rattle.bit_rows.specs.Table.{Table}
use Rattle.graph_types.specs.declared.groups.GroupInfo.{GroupInfo}
use Rattle.graph_types.specs.Modules.{Graph}
use Rattle.chunk_groups.specs.Grouped.{AreGroupsOver, IsReach, net_of}
use Rattle.chunk_groups.specs.Net.{Net, Reaches}
use Rattle.chunk_groups.specs.Rows.{bit_in}
use Rattle.chunk_groups.specs.Serving.{Holds, IsSettled, MayLack, Placement, Serves, IsWithinReach}
use Rattle.chunk_groups.proofs.Brought.{settled-there, lacking-there, lacking-by, there-by, serves-by-rows}
use Rattle.chunk_groups.proofs.Filled.{none-past}
use Rattle.chunk_groups.proofs.Infos.{reach-within}
use Rattle.chunk_groups.proofs.Marks.{bit-within}
use Rattle.avail_sets.specs.Availability.{IsAvailableTable, IsLeastServing, placed_by}
use Rattle.avail_sets.specs.inner.Falling.{IsFalling}
use Rattle.avail_sets.proofs.Bits.{and-left, and-right, and-both}

pub settled-fallen : (net : Net) (brings : ℕ → ℕ → Type 0) (modules : ℕ) (rows : List (List Bool)) (pending : List Bool) → IsFalling net brings modules rows pending → NoneTrue pending 0 (length pending)
    → IsSettled net brings (bit_in rows)
settled-fallen net brings modules rows pending falling quiet = record {
  entries = falling.entries;
  handed = λ p g m opens there. elim (falling.handed p g m opens there) [
    | inl waits ↦ absurd (true≢false (sym waits ∙ quiet p (omega arith) (bit-within pending p waits)))
    | inr rest ↦ rest
  ];
}

not-false : (b : Bool) → b ≡ false → IsTrue (not b)
not-false true e = absurd (true≢false e)
not-false false e = refl

not-true : (b : Bool) → IsTrue (not b) → b ≡ false
not-true true e = sym e
not-true false e = refl

module _ (graph : Graph) (infos : List GroupInfo) (over : AreGroupsOver graph infos) (reach avail : Table) (reached : IsReach graph infos reach)
    (settled : IsSettled (net_of graph infos) (Holds (bit_in reach.rows)) (bit_in avail.rows))
    (missing : (g m : ℕ) → g < length infos → m < length graph.records → bit_in avail.rows g m ≡ false → MayLack (net_of graph infos) (Holds (bit_in reach.rows)) g m) where
  abbrev net : Net
  net = net_of graph infos

  may-miss : (g m : ℕ) → g < length infos → m < length graph.records → bit_in avail.rows g m ≡ false → MayLack net (Reaches net) g m
  may-miss g m group module_is gone = lacking-by net (Holds (bit_in reach.rows)) (Reaches net) (λ p k brings. (reached.exact p k).1 brings) g m (missing g m group module_is gone)

  pub fallen-available : length avail.rows ≡ length infos → avail.width ≡ length graph.records → IsAvailableTable graph infos avail
  fallen-available rows width = record {
    rows = rows;
    width = width;
    exact = λ g m group module_is. (
      λ there. there-by net (Holds (bit_in reach.rows)) (Reaches net) (λ p k brings. (reached.exact p k).0 brings) g m (settled-there net (Holds (bit_in reach.rows)) (bit_in avail.rows) settled g m there),
      λ available. elim (cases_Bool (bit_in avail.rows g m)) [
        | inl there ↦ there
        | inr gone ↦ absurd (lacking-there net (Reaches net) g m (may-miss g m group module_is gone) available)
      ],
    );
  }

  abbrev placed : Placement
  placed = placed_by (bit_in reach.rows) (bit_in avail.rows)

  placed-settled : IsSettled net (Holds placed) (bit_in avail.rows)
  placed-settled = record {
    entries = settled.entries;
    handed = λ p g m opens there. elim (settled.handed p g m opens there) [
      | inl has ↦ inl has
      | inr brings ↦ elim (cases_Bool (bit_in avail.rows p m)) [
        | inl has ↦ inl has
        | inr gone ↦ inr (and-both (bit_in reach.rows p m) (not (bit_in avail.rows p m)) brings (not-false (bit_in avail.rows p m) gone))
      ]
    ];
  }

  covered : (g m : ℕ) → g < net.groups → Reaches net g m → Holds placed g m ⊎ IsTrue (bit_in avail.rows g m)
  covered g m group reaches = elim (cases_Bool (bit_in avail.rows g m)) [
    | inl there ↦ inr there
    | inr gone ↦ inl (and-both (bit_in reach.rows g m) (not (bit_in avail.rows g m)) ((reached.exact g m).1 reaches) (not-false (bit_in avail.rows g m) gone))
  ]

  least : (other : Placement) → IsWithinReach net other → Serves net other → (g m : ℕ) → Holds placed g m → Holds other g m
  least other within serves g m held =
      let reaches : Reaches net g m = (reached.exact g m).0 (and-left (bit_in reach.rows g m) (not (bit_in avail.rows g m)) held) in
      let gone : bit_in avail.rows g m ≡ false = not-true (bit_in avail.rows g m) (and-right (bit_in reach.rows g m) (not (bit_in avail.rows g m)) held) in
      let group : g < length infos = elim (cases_lt g (length infos)) [ inl l ↦ l | inr past ↦ absurd (none-past graph infos g m past reaches) ] in
      let (earlier, history, none) = may-miss g m group (reach-within graph infos over g m reaches) gone in
      elim (serves earlier [] g m history reaches) [
        | inl here ↦ here
        | inr (p, inside, before) ↦ absurd (none p inside (within p m before))
      ]

  pub least-serving : IsLeastServing net placed
  least-serving = record {
    within = λ g m held. (reached.exact g m).0 (and-left (bit_in reach.rows g m) (not (bit_in avail.rows g m)) held);
    serves = serves-by-rows net placed (bit_in avail.rows) placed-settled covered;
    least = least;
  }
