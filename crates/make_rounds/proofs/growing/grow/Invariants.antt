use Rattle.std.proofs.Common.{◌≡◌, ◌+◌, ◌*◌, ◌<◌, drop, length}
use Rattle.std.specs.List.{AllByRecursion, AllZip}
use Rattle.build_round.specs.Readers.{AllTell}
use Rattle.claim_board.specs.Claims.{AreSeatsOf}
use Rattle.outside.specs.Tree.{Tree}
use Rattle.resolve_path.specs.Caches.{AreTrue}
use Rattle.tree_listing.specs.Listing.{IsListingOf}
use Rattle.make_rounds.specs.inner.Answered.{numbers_of}
use Rattle.make_rounds.specs.inner.Counting.{IsAllowed}
use Rattle.make_rounds.specs.inner.Found.{IsCounted, marked}
use Rattle.make_rounds.specs.inner.Growing.{AreGrowing, AreMet, HasBuilt, HasWon}
use Rattle.make_rounds.proofs.Rounds.{total_room}
use Rattle.make_rounds.proofs.growing.grow.Given as goal

abbrev pub invariant-loop-alloc : goal.invariant-loop-alloc
invariant-loop-alloc g l =
    let count = length l.listing.files in
    let workers = length l.fn.seats.items in
    let first = numbers_of l.fn.first.items in
    record {
      follow : AllZip g.R.TreeReader.follows l.fn.readers.items l.readers.items;
      others : drop workers l.readers.items ≡ drop workers l.fn.readers.items;
      as_many : length l.seats.items ≡ workers;
      as_many_caches : length l.caches.items ≡ length l.seats.items;
      seats : AreSeatsOf l.board l.seats.items;
      won : AllByRecursion (HasWon count) l.seats.items;
      built : AllByRecursion HasBuilt l.seats.items;
      within : AllByRecursion (λ file. file.0 < count) l.frontier.items;
      met : AreMet first (numbers_of l.frontier.items) l.seats.items;
      counted : IsCounted l.listing.files l.found;
      allowed : IsAllowed l.found.counts;
      told : (tree : Tree) → AllTell g.R.TreeReader.view l.fn.readers.items tree → IsListingOf tree l.listing → AllByRecursion (AreTrue tree) l.fn.caches.items
          → AreGrowing g.R.TreeReader.view tree l.config first l.fn.readers.items l.readers.items l.caches.items (numbers_of l.frontier.items) (marked l.found.marks) l.seats.items;
    }

abbrev pub decreases-loop-alloc : goal.decreases-loop-alloc
decreases-loop-alloc g l = 18446744073709551616 * total_room (length l.listing.files) l.seats.items + length l.frontier.items
