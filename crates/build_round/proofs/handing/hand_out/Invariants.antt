use Rattle.std.proofs.Common.{◌≡◌, ◌≤◌, ◌+◌, ◌++◌, length, take}
use Rattle.std.specs.Prelude.{reverse, vec_capacity}
use Rattle.std.specs.List.{AllByRecursion}
use Rattle.build_round.specs.inner.Handing.{IsIdle, caches_of, hands_of, readers_of, seats_of}
use Rattle.build_round.proofs.handing.hand_out.Given as goal

abbrev pub invariant-loop-alloc : goal.invariant-loop-alloc
invariant-loop-alloc g l = record {
  readers : l.readers.items ++ readers_of (reverse l.parts.items) ≡ take (length l.fn.seats.items) l.fn.readers.items;
  seats : l.seats.items ++ seats_of (reverse l.parts.items) ≡ l.fn.seats.items;
  caches : l.caches.items ++ caches_of (reverse l.parts.items) ≡ l.fn.caches.items;
  hands : l.hands.items ++ hands_of (reverse l.parts.items) ≡ l.fn.hands.items;
  idle : AllByRecursion IsIdle (reverse l.parts.items);
  as_many : (length l.readers.items ≡ length l.seats.items) × (length l.caches.items ≡ length l.seats.items) × (length l.hands.items ≡ length l.seats.items);
  space : length l.parts.items + length l.seats.items ≤ vec_capacity l.parts;
  room : (length l.fn.readers.items ≤ vec_capacity l.readers) × (length l.fn.seats.items ≤ vec_capacity l.seats) × (length l.fn.seats.items ≤ vec_capacity l.caches) × (length l.fn.seats.items ≤ vec_capacity l.hands);
}

abbrev pub decreases-loop-alloc : goal.decreases-loop-alloc
decreases-loop-alloc g l = length l.seats.items
