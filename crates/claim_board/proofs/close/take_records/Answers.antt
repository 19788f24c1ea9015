use Rattle.std.proofs.Common.{ℕ, ◌+◌, ◌<◌, List, ◌∷◌, ◌++◌, [], length, take, arith, sym, ap, ◌∙◌}
use Rattle.std.specs.Prelude.{Option}
use Rattle.std.specs.Slots.{slots_items, slots_filled, slots_counts}
use Rattle.graph_types.specs.declared.record.ModRecord.{ModRecord}
use Rattle.claim_board.proofs.Closing.{emptied, still_full, take_push, take_all}
use Rattle.claim_board.proofs.close.take_records.Goals as goal

pub take-record-requires : goal.take-record-requires
take-record-requires c =
    let i = c.loop-file.invariant in
    (omega (arith, i.len, c.loop-file-test.true), i.full c.loop-file.file (omega arith) c.loop-file-test.true)

pub loop-file-preserved : goal.loop-file-preserved
loop-file-preserved c =
    let i = c.loop-file.invariant in
    let t = c.take-record.ensures in
    let p = c.push_within.ensures in
    let n : ℕ = c.loop-file.file in
    let filled = slots_filled c.loop-file.closed.slots in
    let wide : n < length filled = omega (arith, (slots_counts c.loop-file.closed.slots).1, i.len, c.loop-file-test.true) in
    record {
      room = omega (arith, i.room, p.1);
      items = t.others.0 ∙ i.items;
      len = t.others.2 ∙ i.len;
      empty = emptied filled (slots_filled c.take-record.new.self.slots) n t.others.1 wide i.empty;
      full = still_full filled (slots_filled c.take-record.new.self.slots) n c.args.files t.others.1 i.full;
      records = p.0 ∙ ap (λ (l : List (Option ModRecord)). l ++ c.take-record.result ∷ []) i.records ∙ sym (take_push (slots_items c.loop-file.closed.slots) n c.take-record.result t.value) ∙ ap (take (n + 1)) (sym t.others.0);
    }

pub returns : goal.returns
returns c =
    let i = c.loop-file.invariant in
    let items = slots_items c.loop-file.closed.slots in
    record {
      records = i.records ∙ take_all items c.loop-file.file (omega (arith, (slots_counts c.loop-file.closed.slots).0, i.len, c.loop-file-test.false)) ∙ i.items;
      empty = λ file below. i.empty file (omega (arith, i.len, c.loop-file-test.false, below));
    }
