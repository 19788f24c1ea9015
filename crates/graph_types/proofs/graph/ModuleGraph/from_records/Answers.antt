use Rattle.std.proofs.Common.{rules}
use Rattle.graph_types.proofs.Roots.{all_roots_within}
use Rattle.graph_types.proofs.graph.ModuleGraph.from_records.Goals as goal

pub invariant_of-result : goal.invariant_of-result
invariant_of-result c =
    let within = all_roots_within c.args.recs.items c.args.entries.now in
    (c.requires.modules, search rules, search rules, search rules)
