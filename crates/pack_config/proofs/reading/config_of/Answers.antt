use Rattle.std.proofs.Common.{◌≡◌, ◌≤◌, true, List, length, Some, codes, ap, sym, ◌∙◌, subst}
use Rattle.std.specs.List.{list_all}
use Rattle.graph_types.specs.CacheGroups.{is_counted}
use Rattle.graph_types.specs.declared.cache_group.CacheGroup.{CacheGroup}
use Rattle.graph_types.specs.declared.entry.EntrySpec.{EntrySpec}
use Rattle.pack_config.specs.Answer.{in_part}
use Rattle.pack_config.specs.Grammar.{faults_of}
use Rattle.pack_config.specs.Values.{value_at}
use Rattle.pack_config.specs.inner.Found.{after}
use Rattle.pack_config.proofs.Clean.{clean}
use Rattle.pack_config.proofs.Kept.{few_groups, groups_counted, some_entry}
use Rattle.pack_config.proofs.Least.{least_left, none_left}
use Rattle.pack_config.proofs.reading.config_of.Goals as goal

pub returns-in-Some : goal.returns-in-Some
returns-in-Some c =
    least_left (faults_of c.args.tree.now) c.in-Some.fault
    (sym (c.in_ok-parts.ensures.faults ∙ ap (λ o. after o (faults_of c.args.tree.now)) c.new-found.ensures) ∙ sym c.least.ensures ∙ c.in-Some.is)

pub invariant_of-result : goal.invariant_of-result
invariant_of-result c =
    let none = none_left (faults_of c.args.tree.now)
    (sym (c.in_ok-parts.ensures.faults ∙ ap (λ o. after o (faults_of c.args.tree.now)) c.new-found.ensures) ∙ sym c.least.ensures ∙ c.in_default.is) in
    let free = clean c.args.tree.now none in
    let parts = c.in_ok-parts.ensures.value free.output in
    let groups = ap (λ o. o.cache_groups) parts.optimization in
    record {
      some_entry = subst (λ (es : List EntrySpec). 1 ≤ length es) (sym parts.entries) (some_entry c.args.text.now (value_at (codes "entry") (Some c.args.tree.now)) free.entry);
      few_groups = subst (λ (gs : List CacheGroup). length gs ≤ 16) (sym groups) (few_groups c.args.text.now (in_part (codes "optimization") (codes "splitChunks") c.args.tree.now) free.split);
      counted = subst (λ (gs : List CacheGroup). list_all is_counted gs ≡ true) (sym groups) (groups_counted c.args.text.now (in_part (codes "optimization") (codes "splitChunks") c.args.tree.now));
    }

pub returns : goal.returns
returns c =
    let none = none_left (faults_of c.args.tree.now)
    (sym (c.in_ok-parts.ensures.faults ∙ ap (λ o. after o (faults_of c.args.tree.now)) c.new-found.ensures) ∙ sym c.least.ensures ∙ c.in_default.is) in
    let parts = c.in_ok-parts.ensures.value (clean c.args.tree.now none).output in (
      none,
      record {
        entries = parts.entries;
        filename = parts.output.filename;
        chunk_filename = parts.output.chunk_filename;
        public_path = parts.output.public_path;
        alias = ap (λ r. r.alias) parts.resolve;
        extensions = ap (λ r. r.extensions) parts.resolve;
        main_fields = ap (λ r. r.main_fields) parts.resolve;
        main_files = ap (λ r. r.main_files) parts.resolve;
        conditions = ap (λ r. r.conditions) parts.resolve;
        named_ids = ap (λ o. o.named_ids) parts.optimization;
        merge_equal = ap (λ o. o.merge_equal) parts.optimization;
        drop_empty = ap (λ o. o.drop_empty) parts.optimization;
        cache_groups = ap (λ o. o.cache_groups) parts.optimization;
      },
    )
