-- The final chunks of a graph are ready for their texts.
use Rattle.std.proofs.Common.{◌≡◌, ℕ, ◌<◌, ◌≤◌, ◌^◌, Bool, true, false, List, [], ◌∷◌, length, get_or, refl, sym, ap, subst, ◌∙◌, inl, inr, arith}
use Rattle.std.specs.Prelude.{Contains, if◌then◌else◌}
use Rattle.std.specs.List.{AllByRecursion}
use Rattle.std.proofs.lemmas.Bool.{cases_lt}
use Rattle.std.proofs.lemmas.List.{get_or_default, get_or_past, length-map}
use Rattle.std.proofs.lemmas.List.Elements.{recursion_from_All}
use Rattle.std.proofs.lemmas.List.FromFn.{length-map-range_with_len}
use Rattle.bit_rows.specs.Table.{Table}
use Rattle.chunk_graph.specs.declared.split.Split.{Split}
use Rattle.chunk_graph.specs.Chunks.{State}
use Rattle.chunk_graph.specs.Moves.{chunk_no, first_chunk, gone_if_empty, merged, merged_chunk, merged_list, needed, started, without_empty}
use Rattle.chunk_groups.specs.ChunkGroups.{TellsGroups, group_at}
use Rattle.chunk_groups.specs.Grouped.{info_at, no_group}
use Rattle.pack_util.specs.declared.number.GroupNo.{GroupNo}
use Rattle.graph_types.specs.declared.config.Config.{Config}
use Rattle.graph_types.specs.declared.groups.GroupInfo.{GroupInfo}
use Rattle.graph_types.specs.Edges.{blocks_of}
use Rattle.graph_types.specs.Fits.{Fits}
use Rattle.graph_types.specs.GroupList.{GroupList}
use Rattle.graph_types.specs.Modules.{Graph}
use Rattle.split_plan.specs.Plan.{plan_of, rule_of}
use Rattle.seal_build.specs.Final.{IsFinal, after_splits, before_splits, group_names}
use Rattle.seal_build.specs.Seal.{sealing}
use Rattle.seal_build.specs.inner.Ready.{IsReady}
use Rattle.seal_build.proofs.Closing.{KeepsFrame, few-steps, kept-frame, known-steps}
use Rattle.seal_build.proofs.Fitting.{small-sizes}

-- ---- the frame of the chunks: the places of a row, the groups, the numbers of chunks

record Frame (s : State) (width groups : ℕ) : Type 0 where
  wide : s.width ≡ width
  lists : length s.groups ≡ groups
  many : groups ≤ length s.chunks

frame_started : (config : Config) (infos : List GroupInfo) (table : Table) → Frame (started table (length config.entries) (group_names infos)) table.width (length table.rows)
frame_started config infos table = record {
  wide = refl;
  lists = length-map-range_with_len (λ g. chunk_no g ∷ []) 0 (length table.rows);
  many = omega (arith, length-map-range_with_len (first_chunk table (length config.entries) (group_names infos)) 0 (length table.rows));
}

frame_merged : (s : State) (width groups : ℕ) → Frame s width groups → Frame (merged s) width groups
frame_merged s width groups frame = record {
  wide = frame.wide;
  lists = length-map s.groups (merged_list s.chunks) ∙ frame.lists;
  many = omega (arith, length-map-range_with_len (merged_chunk s.chunks) 0 (length s.chunks), frame.many);
}

frame_emptied : (s : State) (width groups : ℕ) → Frame s width groups → Frame (without_empty s) width groups
frame_emptied s width groups frame = record {
  wide = frame.wide;
  lists = length-map s.groups (needed s.chunks) ∙ frame.lists;
  many = omega (arith, length-map s.chunks gone_if_empty, frame.many);
}

either : (b : Bool) (s t : State) (width groups : ℕ) → Frame s width groups → Frame t width groups → Frame (if b then s else t) width groups
either true s t width groups one other = one
either false s t width groups one other = other

frame_before : (config : Config) (infos : List GroupInfo) (table : Table) → Frame (before_splits config infos table) table.width (length table.rows)
frame_before config infos table =
    let first = started table (length config.entries) (group_names infos) in
    let frame = frame_started config infos table in
    either config.merge_equal (merged first) first table.width (length table.rows) (frame_merged first table.width (length table.rows) frame) frame

pub before-width : (config : Config) (infos : List GroupInfo) (table : Table) → (before_splits config infos table).width ≡ table.width
before-width config infos table = (frame_before config infos table).wide

frame_kept : (s t : State) (width groups : ℕ) → KeepsFrame s t → Frame s width groups → Frame t width groups
frame_kept s t width groups kept frame = record {
  wide = kept.width ∙ frame.wide;
  lists = kept.groups ∙ frame.lists;
  many = omega (arith, kept.chunks, frame.many);
}

frame_final : (graph : Graph) (config : Config) (infos : List GroupInfo) (splits : List Split) (final : State) → IsFinal graph config infos splits final → Frame final (length graph.records) (length infos)
frame_final graph config infos splits final is =
    let width = is.table.width in
    let groups = length is.table.rows in
    let before = before_splits config infos is.table in
    let kept = kept-frame (plan_of graph config) before is.between splits is.are_splits.steps in
    let between = frame_kept before is.between width groups kept (frame_before config infos is.table) in
    let after = either config.drop_empty (without_empty is.between) is.between width groups (frame_emptied is.between width groups between) between in
    let one : State → Type 0 = λ s. Frame s width groups in
    let frame : Frame final width groups = subst one (sym is.is) after in
    record { wide = frame.wide ∙ is.placed.width; lists = frame.lists ∙ is.placed.rows; many = omega (arith, frame.many, is.placed.rows) }

-- ---- each block is in a group

in_group : (infos : List GroupInfo) (g b : ℕ) → Contains (info_at infos g).blocks b → g < length infos
in_group infos g b (k, within, is) = elim (cases_lt g (length infos)) [
  | inl lt ↦ lt
  | inr ge ↦ absurd (omega (arith, within, ap (λ info. length info.blocks) (get_or_past infos g no_group ge)))
]

groups_told : (blocks : ℕ) (groups : GroupList) (lists : ℕ) → TellsGroups blocks groups → lists ≡ length groups.infos → AllByRecursion (λ g. g.0 < lists) groups.of_block
groups_told blocks groups lists tells same = recursion_from_All (λ g. g.0 < lists) groups.of_block (λ k d within.
    let at : get_or groups.of_block k (record { 0 = 0 }) ≡ get_or groups.of_block k d = get_or_default groups.of_block k _ d within in
    let inside = in_group groups.infos (group_at groups.of_block k) k (tells.has k (omega (arith, within, tells.len))) in
    omega (arith, inside, same, ap (λ g. g.0) at))

-- ---- ready

as_many : (b : Bool) (s t : State) → length s.chunks ≡ length t.chunks → length (if b then s else t).chunks ≡ length t.chunks
as_many true s t e = e
as_many false s t e = refl

keys_known : (config : Config) (n : ℕ) (splits : List Split) → AllByRecursion (λ y. y.cache_group < n) splits → n ≡ length config.cache_groups
    → AllByRecursion (λ split. split.cache_group < length config.cache_groups) splits
keys_known config n splits known same = let P : ℕ → Type 0 = λ n. AllByRecursion (λ y. y.cache_group < n) splits in subst P same known

pub chunks_after : (config : Config) (between : State) → length (after_splits config between).chunks ≡ length between.chunks
chunks_after config between = as_many config.drop_empty (without_empty between) between (length-map between.chunks gone_if_empty)

pub ready : (graph : Graph) (config : Config) (infos : List GroupInfo) (of_block : List GroupNo) (splits : List Split) (final : State)
    → Fits (length config.entries) graph → graph.faults ≡ [] → TellsGroups (length (blocks_of graph.records)) (record { infos = infos; of_block = of_block })
    → length config.entries ≤ length infos → IsFinal graph config infos splits final → length final.chunks ≤ 8192
    → IsReady (sealing graph config infos of_block final) splits
ready graph config infos of_block splits final fits none tells entries is few =
    let frame = frame_final graph config infos splits final is in
    let p = plan_of graph config in
    let before = before_splits config infos is.table in
    let few_blocks : length (blocks_of graph.records) < 2 ^ 32 = omega (arith, fits.few_blocks) in
    record {
      sealing = record {
        whole = fits.records.whole;
        few_blocks = few_blocks;
        blocks = tells.len;
        groups = groups_told (length (blocks_of graph.records)) (record { infos = infos; of_block = of_block }) (length final.groups) tells frame.lists;
        lists = frame.lists;
        width = frame.wide;
      };
      together = record {
        sizes = small-sizes (length config.entries) graph fits none;
        few_blocks = few_blocks;
        blocks = tells.len;
        lists = frame.lists;
        width = frame.wide;
        keys = keys_known config (length p.rules) splits (known-steps p before is.between splits is.are_splits.steps) (length-map config.cache_groups (rule_of graph.records));
      };
      entry_groups = entries;
      entry_chunks = omega (arith, entries, frame.many);
      few_splits = omega (arith, few-steps p before is.between splits is.are_splits.steps, chunks_after config is.between, ap (λ s. length s.chunks) is.is, few);
    }
