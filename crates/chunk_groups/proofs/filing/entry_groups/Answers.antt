use Rattle.std.proofs.Common.{◌≡◌, ℕ, ◌<◌, [], length, map, ap, inl, inr, subst, ◌∙◌, arith}
use Rattle.std.specs.Prelude.{slice_index_or}
use Rattle.std.proofs.lemmas.List.{take_all}
use Rattle.std.proofs.lemmas.Bool.{cases_lt}
use Rattle.std.proofs.lemmas.List.FromFn.{length-enumerate_from}
use Rattle.graph_types.specs.Modules.{AreNumbersOf}
use Rattle.chunk_groups.specs.ChunkGroups.{entry_group, numbered_entries}
use Rattle.chunk_groups.proofs.Adding.{mapped, numbered-at}
use Rattle.chunk_groups.proofs.filing.entry_groups.Goals as goal

pub loop-number-preserved : goal.loop-number-preserved
loop-number-preserved c =
    let entries = c.args.entries.now in
    let number = c.loop-number.number in
    let roots = c.args.graph.now.roots in
    let inside : number < length (numbered_entries entries) = omega (arith, length-enumerate_from 0 entries, c.loop-number-test.true) in
    record {
      groups = mapped (entry_group roots) (numbered_entries entries) number (0, c.index-entries-number.result) inside _ _ _ c.in_ok-push.ensures.items c.loop-number.invariant.groups
          (c.in_ok-entry_group.ensures.group ∙ ap (entry_group roots) (numbered-at entries number c.index-entries-number.result c.loop-number-test.true c.index-entries-number.is));
      roots = λ e l. elim (cases_lt e number) [
        | inl before ↦ c.loop-number.invariant.roots e before
        | inr after ↦
            let last : number ≡ e = omega arith in
            subst (λ (n : ℕ). AreNumbersOf c.args.graph.now.records (slice_index_or roots n [])) last c.in_ok-entry_group.ensures.roots
      ];
    }

pub returns-clause-groups : goal.returns-clause-groups
returns-clause-groups c =
    let all = take_all c.loop-number.number (numbered_entries c.args.entries.now) (omega (arith, length-enumerate_from 0 c.args.entries.now, c.loop-number-test.false)) in
    c.loop-number.invariant.groups ∙ ap (map (entry_group c.args.graph.now.roots)) all
