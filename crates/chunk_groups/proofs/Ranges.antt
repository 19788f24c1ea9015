-- The groups of a graph speak of its modules and blocks alone.
use Rattle.std.proofs.Common.{ℕ, zero, suc, ◌+◌, ◌<◌, List, [], ◌∷◌, ◌++◌, map, length, get_or, sym, subst, arith}
use Rattle.std.specs.Prelude.{All, Option, None, Some, filter}
use Rattle.std.specs.List.{AllByRecursion}
use Rattle.std.proofs.lemmas.List.Elements.{All-append, All-cons, All-filter, All-map, All-nil}
use Rattle.std.proofs.lemmas.List.FromFn.{get_or-enumerate_from, length-enumerate_from}
use Rattle.pack_util.specs.declared.number.ModuleNo.{ModuleNo}
use Rattle.graph_types.specs.declared.block.Block.{Block}
use Rattle.graph_types.specs.declared.entry.EntrySpec.{EntrySpec}
use Rattle.graph_types.specs.Edges.{blocks_of}
use Rattle.graph_types.specs.Modules.{Graph}
use Rattle.chunk_groups.specs.ChunkGroups.{entry_group, entry_groups, groups_of, has_name, has_no_name, loaded_by, named_group, numbered_blocks, numbered_entries, unnamed_groups}
use Rattle.chunk_groups.specs.ChunkNames.{chunk_names}
use Rattle.chunk_groups.specs.Grouped.{AreGroupsOver, IsOver}
use Rattle.chunk_groups.specs.inner.Filing.{AreRoots}
use Rattle.chunk_groups.proofs.Within.{blocks-within}

all-each : {X : Type 0} (P : X → Type 0) (xs : List X) → AllByRecursion P xs → All P xs
all-each P [] all k d l = absurd (omega arith)
all-each P (x ∷ xs) all zero d l = all.0
all-each P (x ∷ xs) all (suc k) d l = all-each P xs all.1 k d (omega arith)

module _ (graph : Graph) where
  abbrev IsNumbered : ℕ × Block → Type 0
  IsNumbered b = (b.0 < length (blocks_of graph.records)) × (b.1.target.0 < length graph.records)

  numbered-within : All IsNumbered (numbered_blocks graph.records)
  numbered-within k d l =
      let blocks = blocks_of graph.records in
      let inside : k < length blocks = omega (arith, length-enumerate_from 0 blocks) in
      subst IsNumbered (sym (get_or-enumerate_from 0 blocks k d inside)) (omega arith, (blocks-within graph.records k d.1 inside).1)

  loaded-over : (name : Option (List ℕ)) (blocks : List (ℕ × Block)) → All IsNumbered blocks → IsOver graph (loaded_by name blocks)
  loaded-over name blocks within = record {
    roots = All-map (λ (m : ModuleNo). m.0 < length graph.records) (λ (b : ℕ × Block). b.1.target) blocks (λ k d l. (within k d l).1);
    blocks = All-map (λ n. n < length (blocks_of graph.records)) (λ (b : ℕ × Block). b.0) blocks (λ k d l. (within k d l).0);
  }

  entry-over : (entries : List EntrySpec) → AreRoots graph (length entries) → All (IsOver graph) (entry_groups graph.roots entries)
  entry-over entries roots = All-map (IsOver graph) (entry_group graph.roots) (numbered_entries entries) (λ k d l.
      let inside : k < length entries = omega (arith, length-enumerate_from 0 entries) in
      subst (λ (e : ℕ × EntrySpec). IsOver graph (entry_group graph.roots e)) (sym (get_or-enumerate_from 0 entries k d inside)) (record {
        roots = all-each (λ m. m.0 < length graph.records) _ (roots (0 + k) (omega arith));
        blocks = All-nil (λ n. n < length (blocks_of graph.records));
      }))

  pub groups-over : (entries : List EntrySpec) → AreRoots graph (length entries) → AreGroupsOver graph (groups_of graph entries)
  groups-over entries roots =
      let numbered = numbered_blocks graph.records in
      let middle = map (named_group graph.records numbered) (chunk_names graph.records) in
      let named : All (IsOver graph) middle = All-map (IsOver graph) (named_group graph.records numbered) (chunk_names graph.records) (λ k d l.
      loaded-over (Some (get_or (chunk_names graph.records) k d)) _ (All-filter (has_name graph.records (get_or (chunk_names graph.records) k d)) IsNumbered numbered numbered-within)) in
      let rest : All IsNumbered (filter (has_no_name graph.records) numbered) = All-filter (has_no_name graph.records) IsNumbered numbered numbered-within in
      let unnamed : All (IsOver graph) (unnamed_groups graph.records numbered) = All-map (IsOver graph) (λ (b : ℕ × Block). loaded_by None (b ∷ [])) (filter (has_no_name graph.records) numbered)
      (λ k d l. loaded-over None (get_or (filter (has_no_name graph.records) numbered) k d ∷ []) (All-cons IsNumbered _ [] (rest k d l) (All-nil IsNumbered))) in
      All-append (IsOver graph) (entry_groups graph.roots entries ++ middle) _ (All-append (IsOver graph) (entry_groups graph.roots entries) middle (entry-over entries roots) named) unnamed
