-- A table whose rows are filled one after another with what the groups reach.
use Rattle.std.proofs.Common.{◌≡◌, ℕ, zero, suc, ◌+◌, ◌<◌, ◌≤◌, Bool, false, List, [], length, get_or, set, replicate, sym, ap, subst, ◌∙◌, arith, inl, inr}
use Rattle.std.specs.Prelude.{◌↔◌, IsTrue}
use Rattle.std.proofs.lemmas.Bool.{cases_lt, cases_eq, false≢true}
use Rattle.std.proofs.lemmas.List.{get_or_past, get_or-set_same, get_or-set_other, get_or-replicate, length-set, length-replicate}
use Rattle.bit_rows.specs.Table.{Table, blank}
use Rattle.graph_types.specs.declared.groups.GroupInfo.{GroupInfo}
use Rattle.graph_types.specs.Modules.{Graph}
use Rattle.graph_types.specs.Reached.{Walk}
use Rattle.chunk_groups.specs.Grouped.{numbers, targets_at, info_at, no_group, net_of, IsReach}
use Rattle.chunk_groups.specs.inner.Marking.{HasReached}
use Rattle.chunk_groups.specs.Net.{Reaches}
use Rattle.chunk_groups.specs.Rows.{bit, bit_in}
use Rattle.chunk_groups.proofs.Marks.{contains-none}

pub record IsFilled (graph : Graph) (infos : List GroupInfo) (table : Table) (row : List Bool) (g : ℕ) : Type 0 where
  pub rows : length table.rows ≡ length infos
  pub width : table.width ≡ length graph.records
  pub spare : row ≡ blank (length graph.records)
  pub done : (k m : ℕ) → k < g → IsTrue (bit_in table.rows k m) ↔ Reaches (net_of graph infos) k m
  pub left : (k : ℕ) → g ≤ k → k < length infos → get_or table.rows k [] ≡ blank (length graph.records)

pub no-walk : (targets : ℕ → List ℕ) (steps m : ℕ) → Walk targets [] m steps → ⊥
no-walk targets zero m walk = contains-none m walk
no-walk targets (suc steps) m (from, walk, leads) = no-walk targets steps from walk

pub none-past : (graph : Graph) (infos : List GroupInfo) (g m : ℕ) → length infos ≤ g → Reaches (net_of graph infos) g m → ⊥
none-past graph infos g m past (steps, walk) =
    let none : numbers (info_at infos g).roots ≡ [] = ap (λ (info : GroupInfo). numbers info.roots) (get_or_past infos g no_group past) in
    no-walk (targets_at graph.records) steps m (subst (λ (roots : List ℕ). Walk (targets_at graph.records) roots m steps) none walk)

module _ (graph : Graph) (infos : List GroupInfo) where
  pub fresh-filled : (table : Table) (spare : List Bool) → table ≡ record { width = length graph.records; rows = replicate (length infos) (blank (length graph.records)) } → spare ≡ blank (length graph.records)
      → IsFilled graph infos table spare 0
  fresh-filled table spare is clear = record {
    rows = ap (λ (t : Table). length t.rows) is ∙ length-replicate (length infos) (blank (length graph.records));
    width = ap (λ (t : Table). t.width) is;
    spare = clear;
    done = λ k m l. absurd (omega arith);
    left = λ k low l. ap (λ (t : Table). get_or t.rows k []) is ∙ get_or-replicate (length infos) k (blank (length graph.records)) [] l;
  }

  pub filled-more : (table : Table) (row made spare : List Bool) (g : ℕ) → g < length infos → IsFilled graph infos table row g → HasReached (targets_at graph.records) (numbers (info_at infos g).roots) made
      → spare ≡ get_or table.rows g [] → IsFilled graph infos (record table { rows = set table.rows g made }) spare (g + 1)
  filled-more table row made spare g within before has given = record {
    rows = length-set table.rows g made ∙ before.rows;
    width = before.width;
    spare = given ∙ before.left g (omega arith) within;
    done = λ k m l. elim (cases_eq k g) [
      | inl e ↦ rw (e, get_or-set_same table.rows g made [] (omega (arith, before.rows))) (has m)
      | inr n ↦ rw (get_or-set_other table.rows g k made [] n) (before.done k m (omega arith))
    ];
    left = λ k low l. get_or-set_other table.rows g k made [] (λ e. absurd (omega arith)) ∙ before.left k (omega arith) l;
  }

  pub all-filled : (table : Table) (row : List Bool) (g : ℕ) → length infos ≤ g → IsFilled graph infos table row g → IsReach graph infos table
  all-filled table row g all filled = record {
    rows = filled.rows;
    width = filled.width;
    exact = λ k m. elim (cases_lt k (length infos)) [
      | inl l ↦ filled.done k m (omega arith)
      | inr past ↦
          let none : bit_in table.rows k m ≡ false = ap (λ row. bit row m) (get_or_past table.rows k [] (omega (arith, filled.rows))) in
          (λ held. absurd (false≢true (sym none ∙ held)), λ reached. absurd (none-past graph infos k m past reached))
    ];
  }
