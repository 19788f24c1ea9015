use Rattle.std.proofs.Common.{◌≡◌, ℕ, ◌≤◌, List, [], ◌++◌, map, length, append-nil, ap, subst, sym, ◌∙◌, arith}
use Rattle.std.specs.Prelude.{Some}
use Rattle.std.proofs.lemmas.List.{take_all}
use Rattle.std.proofs.lemmas.List.FromFn.{length-enumerate_from}
use Rattle.graph_types.specs.declared.block.Block.{Block}
use Rattle.graph_types.specs.Edges.{blocks_of}
use Rattle.graph_types.specs.GroupList.{GroupList}
use Rattle.chunk_groups.specs.ChunkGroups.{groups_with, loaded_by, numbered_blocks, TellsGroups}
use Rattle.chunk_groups.specs.inner.Filing.{groups_so_far}
use Rattle.chunk_groups.proofs.Filed.{groups-count}
use Rattle.chunk_groups.proofs.Telling.{tells-more, tells-none}
use Rattle.chunk_groups.proofs.filing.filed.Goals as goal

pub loop-number-init : goal.loop-number-init
loop-number-init c =
    let graph = c.args.graph.now in
    let entries = c.args.entries.now in
    let first : c.add_named.new.infos.items ≡ groups_so_far graph entries 0 =
    c.in_ok-add_named.ensures ∙ (λ i. c.in_ok-infos.ensures.groups i ++ map (λ name. loaded_by (Some name) []) (c.requires.names i)) ∙ sym (append-nil _) in
    record {
      groups = first;
      tells = tells-none graph entries _ _ first c.new-of_block.ensures.items;
      few = omega (arith, ap length first, groups-count graph entries [], ap length c.requires.names);
    }

pub loop-number-preserved : goal.loop-number-preserved
loop-number-preserved c = record {
  groups = c.in_ok-g.ensures.more;
  tells = tells-more c.loop-number.number c.loop-number.infos.items c.file_block.new.infos.items c.loop-number.of_block.items c.push.new.self.items c.in_ok-g.g c.loop-number.invariant.tells c.in_ok-g.ensures.put c.in_ok-push.ensures.items;
  few = omega (arith, c.loop-number.invariant.few, c.file_block.ensures.len);
}

pub returns-clause-groups : goal.returns-clause-groups
returns-clause-groups c =
    let records = c.args.graph.now.records in
    let past : length (blocks_of records) ≤ c.loop-number.number = subst (λ (l : List Block). length l ≤ c.loop-number.number) c.blocks-number-end.ensures c.loop-number-test.false in
    let all = take_all c.loop-number.number (numbered_blocks records) (omega (arith, length-enumerate_from 0 (blocks_of records))) in
    ap (λ (groups : GroupList). groups.infos) c.new.ensures ∙ c.loop-number.invariant.groups ∙ ap (groups_with c.args.graph.now c.args.entries.now) all

pub returns-clause-tells : goal.returns-clause-tells
returns-clause-tells c =
    let records = c.args.graph.now.records in
    let past : length (blocks_of records) ≤ c.loop-number.number = subst (λ (l : List Block). length l ≤ c.loop-number.number) c.blocks-number-end.ensures c.loop-number-test.false in
    let within : c.loop-number.number ≤ length (blocks_of records) = subst (λ (l : List Block). c.loop-number.number ≤ length l) c.blocks-number-end.ensures c.loop-number.auto.number-end in
    let all : c.loop-number.number ≡ length (blocks_of records) = omega arith in
    subst (TellsGroups (length (blocks_of records))) (sym c.new.ensures) (subst (λ (n : ℕ). TellsGroups n (record { infos = c.loop-number.infos.items; of_block = c.loop-number.of_block.items })) all c.loop-number.invariant.tells)
