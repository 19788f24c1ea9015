use Rattle.std.proofs.Common.{ap, ◌∙◌, subst, Option, Some, codes, List, ℕ}
use Rattle.std.specs.Option.{option_copied}
use Rattle.json_order.specs.declared.tree.JsonTree.{JsonTree}
use Rattle.pack_config.specs.Entries.{entries_of}
use Rattle.pack_config.specs.Grammar.{output_rule}
use Rattle.pack_config.specs.Values.{value_at}
use Rattle.pack_config.specs.inner.Optimization.{optimization_of}
use Rattle.pack_config.specs.inner.Output.{IsOutputOf}
use Rattle.pack_config.specs.inner.Resolve.{resolve_of}
use Rattle.pack_config.proofs.reading.read_parts.Goals as goal

pub returns-clause-value : goal.returns-clause-value
returns-clause-value c = λ clean. record {
  entries = c.in_ok-entries.ensures.value ∙ ap (entries_of c.in_ok-places.places) c.value_at-4.ensures
      ∙ ap (λ (text : List ℕ). entries_of text (value_at (codes "entry") (Some c.args.tree.now))) c.in_ok-places.ensures;
  output = subst (λ (v : Option JsonTree). IsOutputOf v c.in_ok-output.output) c.value_at-5.ensures (c.in_ok-output.ensures.value (ap output_rule c.value_at-5.ensures ∙ clean));
  resolve = c.in_ok-resolve.ensures.value ∙ ap resolve_of c.value_at-6.ensures;
  optimization = c.in_ok-optimization.ensures.value
      ∙ ap (λ (text : List ℕ). optimization_of text (option_copied c.value_at-7.result)) c.in_ok-places.ensures
      ∙ ap (optimization_of c.args.text.now) c.value_at-7.ensures;
}
