-- What splits depend on besides the chunk graph (webpack docs, SplitChunksPlugin): the size of each module, and the
-- settings of each cache group with the modules that meet its test.
use Rattle.std.specs.Prelude.{◌≡◌, ℕ, ◌<◌, ◌≤◌, ◌^◌, false, List, [], length, map, slice_index_or, None, pos, sum}
use Rattle.graph_types.specs.declared.cache_group.CacheGroup.{CacheGroup}
use Rattle.graph_types.specs.declared.cache_group.Select.TheVariants.{All}
use Rattle.graph_types.specs.declared.config.Config.{Config}
use Rattle.graph_types.specs.declared.record.ModRecord.{ModRecord}
use Rattle.graph_types.specs.Condition.{holds}
use Rattle.graph_types.specs.Modules.{Graph}
use Rattle.split_plan.specs.declared.rule.Rule.{Rule}

pub record Plan : Type 0 where
  pub sizes : List ℕ
  pub rules : List Rule

-- what stands for a cache group that isn't there
abbrev pub no_rule : Rule
no_rule = record {
  test = [];
  name = None;
  select = All;
  min_size = 0;
  min_chunks = 1;
  max_async = None;
  max_initial = None;
  threshold = None;
  priority = pos 0;
  reuse = false;
}

abbrev pub rule_at : Plan → ℕ → Rule
rule_at p k = slice_index_or p.rules k no_rule

abbrev pub rule_of : List ModRecord → CacheGroup → Rule
rule_of records group = record {
  test = map (λ rec. holds rec.path group.test) records;
  name = group.name;
  select = group.select;
  min_size = group.min_size;
  min_chunks = group.min_chunks;
  max_async = group.max_async;
  max_initial = group.max_initial;
  threshold = group.threshold;
  priority = group.priority;
  reuse = group.reuse;
}

-- the plan of a configuration for the modules of a graph
abbrev pub plan_of : Graph → Config → Plan
plan_of graph config = record {
  sizes = map (λ rec. rec.size) graph.records;
  rules = map (rule_of graph.records) config.cache_groups;
}

-- what is true of every plan
pub record IsPlan (p : Plan) : Type 0 where
  pub few : length p.rules ≤ 16
  pub tested : (k : ℕ) → k < length p.rules → length (rule_at p k).test ≡ length p.sizes
  pub counted : (k : ℕ) → 1 ≤ (rule_at p k).min_chunks
  pub small : sum p.sizes ≤ 2 ^ 50
