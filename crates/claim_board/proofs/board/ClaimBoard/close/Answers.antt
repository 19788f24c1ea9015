use Rattle.std.proofs.Common.{List, length, sym, ap, ◌∙◌}
use Rattle.std.specs.Prelude.{Option}
use lib.ListN.{get_elem?}
use Rattle.graph_types.specs.declared.record.ModRecord.{ModRecord}
use Rattle.claim_board.proofs.Gathering.{Token}
use Rattle.claim_board.proofs.Whole.{last_state, numbers_of, inside_of, words_fit, closes}
use Rattle.claim_board.proofs.board.ClaimBoard.close.Goals as goal

pub read_owners-list-requires-clause-fit : goal.read_owners-list-requires-clause-fit
read_owners-list-requires-clause-fit c =
    let last = last_state c.args.self.files c.args.self.seats _ c.args.self.keyed _ _ _ _ c.args.seats.items c.close_with-closed.ensures.values.2 (ap (λ (m : Token). m.0) c.gather-all.ensures.1) c.requires.0 in
    words_fit _ _ _ _ _ last.1

pub returns : goal.returns
returns c =
    let all = c.args.seats.items in
    let records = c.take_records-records.ensures.records in
    let last = last_state c.args.self.files c.args.self.seats _ c.args.self.keyed _ _ _ _ all c.close_with-closed.ensures.values.2 (ap (λ (m : Token). m.0) c.gather-all.ensures.1) c.requires.0 in
    record {
      ok = closes c.args.self.files c.args.self.seats _ _ all last.1 (numbers_of c.args.self all c.requires.1) (inside_of c.args.self all c.requires.1) (λ j seat e. seat.idle) _ _ c.read_owners-list.ensures.len c.read_owners-list.ensures.owners (last.2 ∙ ap length (sym records))
          (λ file slot e. ap (λ (l : List (Option ModRecord)). get_elem? l file) records ∙ last.3 file slot e);
      err = tt;
    }
