use Rattle.std.proofs.Common.{◌≡◌, ◌+◌, ℕ, List, replicate, rules, sym, subst, ◌∙◌}
use Rattle.std.specs.Prelude.{None}
use Rattle.graph_types.specs.declared.record.ModRecord.{ModRecord}
use Rattle.atomic_table.specs.Table.{opening}
use Rattle.board_seats.specs.Seats.{Seated, numbered}
use Rattle.board_seats.proofs.Steps.{opens}
use Rattle.claim_board.specs.Lists.{empty_lists}
use Rattle.claim_board.specs.Rule.{IsKept}
use Rattle.claim_board.proofs.Gathering.{begins}
use Rattle.claim_board.proofs.board.ClaimBoard.new.Goals as goal

-- the board at its start, where its words are all 0
starts : (files seats : ℕ) (words : List ℕ) → words ≡ replicate (files + 1) 0 → IsKept {T = ModRecord} files seats words (mathlib.Core.List.map mathlib.Core.Option.some (replicate files None)) (replicate seats empty_lists)
    → Seated (IsKept {T = ModRecord} files seats) (opening words (replicate files None) (numbered 0 (replicate seats empty_lists)))
starts files seats words zero kept = opens (IsKept {T = ModRecord} files seats) words (replicate files None) (replicate seats empty_lists) kept

pub vacant-requires : goal.vacant-requires
vacant-requires c =
    let zero = c.as_slice.ensures.value ∙ c.in_ok-words.ensures.items_if_clones_equal (λ y h. h) in
    starts c.args.files c.args.seats _ zero
    (subst (λ (w : List ℕ). IsKept {T = ModRecord} c.args.files c.args.seats w (mathlib.Core.List.map mathlib.Core.Option.some (replicate c.args.files None)) (replicate c.args.seats empty_lists)) (sym zero) (begins c.args.files c.args.seats (search rules)))
