-- The final chunks of groups serve.
use Rattle.std.proofs.Common.{◌≡◌, ℕ, Bool, true, false, List, length, sym, ap, ◌∙◌}
use Rattle.std.specs.Prelude.{if◌then◌else◌}
use Rattle.std.proofs.lemmas.List.{length-map}
use Rattle.bit_rows.specs.Table.{Table}
use Rattle.chunk_graph.specs.declared.split.Split.{Split}
use Rattle.chunk_graph.specs.Chunks.{IsShaped, State, has_module}
use Rattle.chunk_graph.specs.Moves.{merged, started, without_empty}
use Rattle.chunk_groups.specs.Grouped.{net_of}
use Rattle.chunk_groups.specs.Rows.{bit_in}
use Rattle.chunk_groups.specs.Serving.{Serves}
use Rattle.chunk_groups.proofs.Brought.{serves-more}
use Rattle.graph_types.specs.declared.config.Config.{Config}
use Rattle.graph_types.specs.declared.groups.GroupInfo.{GroupInfo}
use Rattle.graph_types.specs.Modules.{Graph}
use Rattle.split_plan.specs.Plan.{plan_of}
use Rattle.split_chunks.specs.Loads.{LosesNone}
use Rattle.seal_build.specs.Final.{ArePlaced, IsFinal, after_splits, before_splits, group_names}
use Rattle.seal_build.proofs.Lossless.{emptied-loses-none, merged-loses-none, started-holds}
use Rattle.seal_build.proofs.Preparing.{before-width}
use Rattle.seal_build.proofs.Serving.{placed-serves}
use Rattle.seal_build.proofs.Shaped.{lose-none, shaped-merged, shaped-started}

either : (P : State → Type 0) (b : Bool) (s t : State) → P s → P t → P (if b then s else t)
either P true s t one other = one
either P false s t one other = other

shaped_before : (graph : Graph) (config : Config) (infos : List GroupInfo) (table : Table) → ArePlaced graph infos table → IsShaped (before_splits config infos table)
shaped_before graph config infos table placed =
    let names = group_names infos in
    let first = started table (length config.entries) names in
    let shaped = shaped-started table (length config.entries) names placed.even in
    either IsShaped config.merge_equal (merged first) first (shaped-merged first shaped) shaped

holds_before : (config : Config) (infos : List GroupInfo) (table : Table) (g m : ℕ) → bit_in table.rows g m ≡ true → has_module (before_splits config infos table) g m ≡ true
holds_before config infos table g m held =
    let first = started table (length config.entries) (group_names infos) in
    let there = started-holds table (length config.entries) (group_names infos) g m held in
    either (λ s. has_module s g m ≡ true) config.merge_equal (merged first) first (merged-loses-none first g m there) there

pub final-serves : (graph : Graph) (config : Config) (infos : List GroupInfo) (splits : List Split) (final : State) → IsFinal graph config infos splits final → Serves (net_of graph infos) (has_module final)
final-serves graph config infos splits final is =
    let p = plan_of graph config in
    let before = before_splits config infos is.table in
    let width = before-width config infos is.table ∙ is.placed.width ∙ sym (length-map graph.records (λ rec. rec.size)) in
    let kept : LosesNone before is.between = lose-none p before is.between splits is.are_splits.steps width (shaped_before graph config infos is.table is.placed) in
    let after : LosesNone is.between (after_splits config is.between) =
    either (λ s. LosesNone is.between s) config.drop_empty (without_empty is.between) is.between (emptied-loses-none is.between) (λ g m h. h) in
    serves-more (net_of graph infos) (bit_in is.table.rows) (has_module final) (λ g m held. ap (λ s. has_module s g m) is.is ∙ after g m (kept g m (holds_before config infos is.table g m held)))
    (placed-serves (net_of graph infos) (bit_in is.table.rows) is.placed.exact)
