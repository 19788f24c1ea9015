use Rattle.std.proofs.Common.{◌≡◌, ◌≤◌, ◌+◌, ◌++◌, length}
use Rattle.std.specs.Prelude.{vec_capacity}
use Rattle.std.specs.Vec.Iter.{into_iter_items}
use Rattle.build_round.specs.inner.Handing.{caches_of, hands_of, readers_of, seats_of}
use Rattle.build_round.proofs.handing.hand_back.Given as goal

abbrev pub invariant-loop-part : goal.invariant-loop-part
invariant-loop-part g l = record {
  readers : l.readers.items ++ readers_of (into_iter_items l.part-iterator) ≡ readers_of l.fn.handed.parts.items;
  seats : l.seats.items ++ seats_of (into_iter_items l.part-iterator) ≡ seats_of l.fn.handed.parts.items;
  caches : l.caches.items ++ caches_of (into_iter_items l.part-iterator) ≡ caches_of l.fn.handed.parts.items;
  hands : l.hands.items ++ hands_of (into_iter_items l.part-iterator) ≡ hands_of l.fn.handed.parts.items;
  others : l.others ≡ l.fn.handed.others;
  room : (length l.fn.handed.parts.items + length l.fn.handed.others.items ≤ vec_capacity l.readers) × (length l.fn.handed.parts.items ≤ vec_capacity l.seats) × (length l.fn.handed.parts.items ≤ vec_capacity l.caches) × (length l.fn.handed.parts.items ≤ vec_capacity l.hands);
}
