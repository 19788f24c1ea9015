use Rattle.std.proofs.Common.{ap, rules, sym, ◌∙◌}
use Rattle.std.specs.Prelude.{None, Some, if◌then◌else◌}
use Rattle.chunk_groups.specs.NameFaults.{entry_on_demand}
use Rattle.chunk_groups.proofs.Faulted.{fault-is}
use Rattle.chunk_groups.proofs.taken.block_fault.Goals as goal

pub returns-then-not-is_entry_name : goal.returns-then-not-is_entry_name
returns-then-not-is_entry_name c =
    let item = c.index-as_slice-block.result in
    let rec = c.rec-rec.result.now in
    let is = rw c.as_slice.ensures at c.index-as_slice-block.is in
    let fault = fault-is c.args.graph.now.records c.args.block.now rec item c.requires.stands c.rec-rec.ensures is c.args.entries.now c.in-Some.name c.in-Some.is in
    sym (fault ∙ ap (λ t. if t then Some (entry_on_demand rec item c.in-Some.name) else None) (sym c.if-not-is_entry_name.ensures))

pub returns : goal.returns
returns c =
    let item = c.index-as_slice-block.result in
    let rec = c.rec-rec.result.now in
    let is = rw c.as_slice.ensures at c.index-as_slice-block.is in
    let fault = fault-is c.args.graph.now.records c.args.block.now rec item c.requires.stands c.rec-rec.ensures is c.args.entries.now c.in-Some.name c.in-Some.is in
    let there = fault ∙ ap (λ t. if t then Some (entry_on_demand rec item c.in-Some.name) else None) (sym c.if-not-is_entry_name.ensures) in
    let named = c.in_ok-clone.ensures.cases in
    let at = c.in_ok-place_at.ensures in
    search (rules, there, named, at)
