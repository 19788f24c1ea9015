use Rattle.std.proofs.Common.{◌≡◌, ℕ, ◌<◌, ◌≤◌, true, false, take, get_or, vec_capacity}
use Rattle.std.specs.Slots.{slots_items, slots_filled, slots_len}
use Rattle.claim_board.proofs.close.take_records.Given as goal

abbrev pub invariant-loop-file : goal.invariant-loop-file
invariant-loop-file l = record {
  room : l.files ≤ vec_capacity l.records;
  items : slots_items l.closed.slots ≡ slots_items l.fn.closed.slots;
  len : slots_len l.closed.slots ≡ l.files;
  empty : (file : ℕ) → file < l.file → get_or (slots_filled l.closed.slots) file false ≡ false;
  full : (file : ℕ) → l.file ≤ file → file < l.files → get_or (slots_filled l.closed.slots) file false ≡ true;
  records : l.records.items ≡ take l.file (slots_items l.closed.slots);
}
