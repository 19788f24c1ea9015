-- What a look-up of a group gives.
use Rattle.std.proofs.Common.{◌≡◌, ℕ, zero, suc, ◌<◌, List, length, get_or, ap, ◌∙◌, inl, inr}
use Rattle.std.specs.Prelude.{Contains}
use Rattle.std.proofs.lemmas.Bool.{cases_lt}
use Rattle.std.proofs.lemmas.List.Elements.{All-contains}
use Rattle.graph_types.specs.Modules.{Graph, module_no}
use Rattle.graph_types.specs.Reached.{Walk}
use Rattle.chunk_groups.specs.Net.{Reaches}
use Rattle.chunk_groups.proofs.Filled.{none-past}
use Rattle.chunk_groups.proofs.Marks.{module-in}
use Rattle.chunk_groups.proofs.Within.{targets-within}
use Rattle.std.proofs.lemmas.List.{get_or_default}
use Rattle.pack_util.specs.declared.number.ModuleNo.{ModuleNo}
use Rattle.graph_types.specs.declared.groups.GroupInfo.{GroupInfo}
use Rattle.chunk_groups.specs.Grouped.{AreGroupsOver, info_at, no_group, net_of, targets_at}

pub info_is : (infos : List GroupInfo) (g : ℕ) (info : GroupInfo) → g < length infos → info ≡ get_or infos g info → info ≡ info_at infos g
info_is infos g info within is = is ∙ get_or_default infos g info no_group within

pub roots_of_info : (infos : List GroupInfo) (g : ℕ) (info : GroupInfo) (roots : List ModuleNo) → g < length infos → info ≡ get_or infos g info → roots ≡ info.roots → roots ≡ (info_at infos g).roots
roots_of_info infos g info roots within is same = same ∙ ap (λ (i : GroupInfo). i.roots) (info_is infos g info within is)

walk-within : (graph : Graph) (roots : List ℕ) → ((m : ℕ) → Contains roots m → m < length graph.records) → (steps m : ℕ) → Walk (targets_at graph.records) roots m steps → m < length graph.records
walk-within graph roots start zero m walk = start m walk
walk-within graph roots start (suc steps) m (from, walk, leads) = targets-within graph.records from m leads

-- what a group reaches is a module of the graph
pub reach-within : (graph : Graph) (infos : List GroupInfo) → AreGroupsOver graph infos → (g m : ℕ) → Reaches (net_of graph infos) g m → m < length graph.records
reach-within graph infos over g m (steps, walk) = elim (cases_lt g (length infos)) [
  | inl l ↦ walk-within graph _ (λ n root. All-contains (λ (k : ModuleNo). k.0 < length graph.records) (info_at infos g).roots (module_no n) (over g no_group l).roots (module-in (info_at infos g).roots n root)) steps m walk
  | inr past ↦ absurd (none-past graph infos g m past (steps, walk))
]
