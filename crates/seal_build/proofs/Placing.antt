-- The table of placed modules.
use Rattle.std.proofs.Common.{◌≡◌, ℕ, ◌<◌, Bool, false, not, ◌&&◌, List, [], length, get_or, sym, ap, ◌∙◌, inl, inr, arith}
use Rattle.std.specs.Prelude.{IsTrue}
use Rattle.std.proofs.lemmas.Bool.{cases_Bool, cases_lt, and_parts, and_from, not-true, false≢true}
use Rattle.std.proofs.lemmas.List.{get_or_past}
use Rattle.std.proofs.lemmas.List.Elements.{All-get_or}
use Rattle.std.proofs.lemmas.Simd.{get_or-zip2}
use Rattle.avail_sets.specs.Availability.{IsAvailableTable, IsPlacedTable}
use Rattle.bit_rows.specs.Table.{Table, IsEven}
use Rattle.chunk_groups.specs.Grouped.{IsReach}
use Rattle.chunk_groups.specs.Rows.{bit, bit_in}
use Rattle.chunk_groups.proofs.Marks.{bit-within}
use Rattle.graph_types.specs.declared.groups.GroupInfo.{GroupInfo}
use Rattle.graph_types.specs.Modules.{Graph}
use Rattle.seal_build.specs.Final.{ArePlaced}

row_len : (table : Table) (g : ℕ) → IsEven table → g < length table.rows → length (get_or table.rows g []) ≡ table.width
row_len table g even within = All-get_or (λ row. length row ≡ table.width) table.rows g [] within even

pub placed-bit : (graph : Graph) (infos : List GroupInfo) (reach avail table : Table) → IsReach graph infos reach → IsEven reach → IsAvailableTable graph infos avail → IsEven avail
    → IsPlacedTable reach avail table → (g m : ℕ) → g < length infos → m < length graph.records → bit_in table.rows g m ≡ (bit_in reach.rows g m && not (bit_in avail.rows g m))
placed-bit graph infos reach avail table reached even there flat placed g m group number =
    let r = get_or reach.rows g [] in
    let a = get_or avail.rows g [] in
    let in_reach : g < length reach.rows = omega (arith, group, reached.rows) in
    let in_avail : g < length avail.rows = omega (arith, group, there.rows) in
    let wide : m < length r = omega (arith, row_len reach g even in_reach, reached.width, number) in
    let other : m < length a = omega (arith, row_len avail g flat in_avail, there.width, number) in
    ap (λ row. bit row m) (placed.placed g in_reach) ∙ get_or-zip2 (λ x y. x && not y) r a m false false false wide other

pub row-within : (rows : List (List Bool)) (g m : ℕ) → IsTrue (bit_in rows g m) → g < length rows
row-within rows g m held = elim (cases_lt g (length rows)) [
  | inl within ↦ within
  | inr past ↦ absurd (false≢true (sym (ap (λ row. bit row m) (get_or_past rows g [] past)) ∙ held))
]

-- a place that is true is that of a group and a module
place_within : (graph : Graph) (infos : List GroupInfo) (table : Table) → length table.rows ≡ length infos → table.width ≡ length graph.records → IsEven table
    → (g m : ℕ) → IsTrue (bit_in table.rows g m) → (g < length infos) × (m < length graph.records)
place_within graph infos table rows width even g m held =
    let within = row-within table.rows g m held in
    (omega (arith, within, rows), omega (arith, bit-within (get_or table.rows g []) m held, row_len table g even within, width))

pub placed-by : (graph : Graph) (infos : List GroupInfo) (reach avail table : Table) → IsReach graph infos reach → IsEven reach → IsAvailableTable graph infos avail → IsEven avail
    → IsPlacedTable reach avail table → IsEven table → ArePlaced graph infos table
placed-by graph infos reach avail table reached even there flat placed wide =
    let rows = placed.rows ∙ reached.rows in
    let width = placed.width ∙ reached.width in
    record {
      rows = rows;
      width = width;
      even = wide;
      exact = λ g m. (
        (λ held.
            let (group, number) = place_within graph infos table rows width wide g m held in
            let both = and_parts (bit_in reach.rows g m) (not (bit_in avail.rows g m)) (sym (placed-bit graph infos reach avail table reached even there flat placed g m group number) ∙ held) in
            ((reached.exact g m).0 both.0, λ available. false≢true (sym (not-true (bit_in avail.rows g m) both.1) ∙ (there.exact g m group number).1 available))),
        (λ held.
            let reaches = (reached.exact g m).1 held.0 in
            let (group, number) = place_within graph infos reach reached.rows reached.width even g m reaches in
            placed-bit graph infos reach avail table reached even there flat placed g m group number
            ∙ and_from (bit_in reach.rows g m) (not (bit_in avail.rows g m)) reaches
            (elim (cases_Bool (bit_in avail.rows g m)) [
              | inl there_too ↦ absurd (held.1 ((there.exact g m group number).0 there_too))
              | inr missing ↦ ap not missing
            ])),
      );
    }
