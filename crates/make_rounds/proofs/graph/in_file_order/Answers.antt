use Rattle.std.proofs.Common.{rules}
use Rattle.std.proofs.lemmas.List.Sorted.{IsNonDecreasingBy-from_sort_by_key}
use Rattle.graph_types.specs.declared.record.ModRecord.{ModRecord}
use Rattle.make_rounds.proofs.Orders.{ascending}
use Rattle.make_rounds.proofs.graph.in_file_order.Goals as goal

pub returns-clause-ascending : goal.returns-clause-ascending
returns-clause-ascending c = λ distinct.
    ascending (λ (rec : ModRecord). rec.file.0) c.args.records.items c.sort_unstable_by_key.new.self.items
    c.sort_unstable_by_key.ensures.permutation
    (IsNonDecreasingBy-from_sort_by_key (λ (rec : ModRecord). rec.file.0) _ c.sort_unstable_by_key.ensures.sorted (λ a r q k. search rules))
    distinct
