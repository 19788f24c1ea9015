use Rattle.std.proofs.Common.{◌≡◌, ℕ, ◌+◌, ◌<◌, ◌≤◌, length, vec_capacity}
use Rattle.std.specs.Slots.{slots_items}
use mathlib.Core.Option.{some}
use lib.ListN.{get_elem?}
use Rattle.claim_board.specs.Shown.{owner_shown}
use Rattle.claim_board.proofs.close.read_owners.Given as goal

abbrev pub invariant-loop-file : goal.invariant-loop-file
invariant-loop-file l = record {
  room : l.files ≤ vec_capacity l.owners;
  len : length l.owners.items ≡ l.file;
  owners : (file word : ℕ) → file < l.file → get_elem? (slots_items l.closed.words) (file + 1) ≡ some word → get_elem? l.owners.items file ≡ some (owner_shown word);
}
