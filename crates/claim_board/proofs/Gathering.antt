-- Seats in their order, as they are dealt and gathered, and the board at its start.
use Rattle.std.proofs.Common.{◌≡◌, ℕ, suc, ◌+◌, ◌<◌, ◌^◌, List, [], ◌∷◌, ◌++◌, length, replicate, map, append_assoc, append-nil, refl, sym, ap, subst, ◌∙◌, inl, arith}
use Rattle.std.specs.Prelude.{Some, None, slice_index}
use Rattle.std.specs.Prelude as std
use Rattle.std.specs.List.{AllByRecursion}
use Rattle.std.proofs.lemmas.List.{length-replicate, get_or-replicate}
use mathlib.Core.Option.{some, some-injective}
use lib.ListN.{length-map}
use Rattle.atomic_table.specs.Table.{Me}
use Rattle.atomic_table.proofs.Lists.{at_map}
use Rattle.board_seats.specs.Seats.{only, numbered}
use Rattle.board_seats.proofs.Lists.{below_length, at_replicate}
use Rattle.graph_types.specs.declared.record.ModRecord.{ModRecord}
use Rattle.claim_board.specs.declared.board.ClaimBoard.{ClaimBoard}
use Rattle.claim_board.specs.declared.lists.Lists.{Lists}
use Rattle.claim_board.specs.declared.seat.ClaimSeat.{ClaimSeat}
use Rattle.claim_board.specs.Claims.{lists_of, IsSeatOf, AreSeatsFrom}
use Rattle.claim_board.specs.Lists.{empty_lists}
use Rattle.claim_board.specs.Rule.{unclaimed, IsKept, Fits}
use Rattle.claim_board.proofs.Found.{false≢true}

abbrev pub Token : Type 0
Token = Me (std.Option ModRecord) (List (ℕ × Lists ModRecord))

abbrev pub IsNewSeat : ClaimSeat → Type 0
IsNewSeat seat = lists_of seat ≡ empty_lists

pub seats-push : (board : ClaimBoard) (from : ℕ) (seats : List ClaimSeat) (seat : ClaimSeat) → AreSeatsFrom board from seats → IsSeatOf board seat → seat.number ≡ from + length seats
    → AreSeatsFrom board from (seats ++ seat ∷ [])
seats-push board from [] seat are is e = (is, omega arith, tt)
seats-push board from (x ∷ xs) seat are is e = (are.0, are.1, seats-push board (suc from) xs seat are.2 is (omega arith))

pub new-push : (seats : List ClaimSeat) (seat : ClaimSeat) → AllByRecursion IsNewSeat seats → IsNewSeat seat → AllByRecursion IsNewSeat (seats ++ seat ∷ [])
new-push [] seat are is = (is, tt)
new-push (x ∷ xs) seat are is = (are.0, new-push xs seat are.1 is)

-- the next of the seats still to be gathered
pub gathered : (board : ClaimBoard) (next : ℕ) (seat : ClaimSeat) (left after : List ClaimSeat) (whole all : List (ℕ × Lists ModRecord)) → left ≡ seat ∷ after → AreSeatsFrom board next left
    → whole ≡ all ++ numbered next (map lists_of left) → seat.token.me ≡ (only seat.number (lists_of seat), [])
    → IsSeatOf board seat × AreSeatsFrom board (suc next) after × (whole ≡ (all ++ seat.token.me.0) ++ numbered (suc next) (map lists_of after))
gathered board next seat left after whole all is are has alone =
    let here = subst (AreSeatsFrom board next) is are in
    let list : whole ≡ all ++ numbered next (map lists_of (seat ∷ after)) = has ∙ ap (λ (l : List ClaimSeat). all ++ numbered next (map lists_of l)) is in
    let one : seat.token.me.0 ≡ only next (lists_of seat) = ap (λ (m : Token). m.0) alone ∙ ap (λ (n : ℕ). only n (lists_of seat)) here.1 in
    (here.0, here.2, list ∙ sym (append_assoc all (only next (lists_of seat)) (numbered (suc next) (map lists_of after))) ∙ ap (λ (l : List (ℕ × Lists ModRecord)). (all ++ l) ++ numbered (suc next) (map lists_of after)) (sym one))

-- no seat is left to be gathered
pub all_gathered : (me : Token) (next : ℕ) (left : List ClaimSeat) (whole : List (ℕ × Lists ModRecord)) → whole ≡ me.0 ++ numbered next (map lists_of left)
    → length left ≡ 0 → me.1 ≡ [] → me ≡ (whole, [])
all_gathered me next [] whole has none idle = λ k. (sym (has ∙ append-nil me.0) k, idle k)
all_gathered me next (x ∷ xs) whole has none idle = absurd (omega arith)

module _ {T : Type 0} where
  pub begins : (files seats : ℕ) → seats < 2 ^ 32 → IsKept {T = T} files seats (replicate (files + 1) 0) (map some (replicate files None)) (replicate seats empty_lists)
  begins files seats few = record {
    wide = length-replicate (files + 1) 0;
    deep = length-map (replicate files None) some ∙ length-replicate files None;
    as_many = length-replicate seats empty_lists;
    few = omega arith;
    stage = λ _. unclaimed;
    each = λ file inside. record {
      word_is = get_or-replicate (files + 1) (file + 1) 0 0 (omega arith);
      below = tt;
      fits = λ seat lists e.
          let there = below_length (replicate seats empty_lists) seat lists e in
          let long = length-replicate seats (empty_lists {T = T}) in
          let same : empty_lists ≡ lists = some-injective empty_lists lists (sym (at_replicate seats seat empty_lists (omega arith)) ∙ e) in
          subst (Fits seat file unclaimed) same (record {
            won = refl;
            published = refl;
            seen = λ owner q. absurd (false≢true q);
            seen_published = λ q. absurd (false≢true q);
            out = λ q. absurd (false≢true q);
          });
      home = inl (at_map some (replicate files None) file None (at_replicate files file None inside));
    };
  }
