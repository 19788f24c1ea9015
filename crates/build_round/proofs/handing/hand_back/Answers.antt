use Rattle.std.proofs.Common.{◌≡◌, ℕ, suc, ◌<◌, ◌≤◌, List, ◌∷◌, ◌++◌, length, map, arith, ap, length-append}
use Rattle.std.proofs.lemmas.List.{length-map}
use Rattle.std.specs.Prelude.{vec_capacity}
use Rattle.std.specs.Vec.Iter.{into_iter_items}
use Rattle.build_round.specs.declared.part.Part.{Part}
use Rattle.build_round.proofs.handing.hand_back.Goals as goal

-- room is left where one more is to come
one_more : {X Y : Type 0} (of : X → Y) (done : List Y) (x : X) (left now all : List X) (room : ℕ) → left ≡ x ∷ now → done ++ map of left ≡ map of all → length all ≤ room → length done < room
one_more of done x left now all room is parts enough =
    let here : length left ≡ suc (length now) = ap length is in
    let whole : length (done ++ map of left) ≡ length (map of all) = ap length parts in
    omega (arith, here, whole, length-append done (map of left), length-map left of, length-map all of)

pub push_within-requires : goal.push_within-requires
push_within-requires g c =
    let i = c.loop-part.invariant in
    let room : length c.args.handed.parts.items ≤ vec_capacity c.loop-part.readers = omega (arith, i.room.0) in
    one_more (λ (part : Part g.row.R.Denot). part.bench.reader) c.loop-part.readers.items c.in-Some.part (into_iter_items c.loop-part.part-iterator) (into_iter_items c.next.new.self) c.args.handed.parts.items (vec_capacity c.loop-part.readers) c.in-Some.ensures.steps.0 i.readers room

pub push_within-requires-in-loop-part : goal.push_within-requires-in-loop-part
push_within-requires-in-loop-part g c =
    let i = c.loop-part.invariant in
    one_more (λ (part : Part g.row.R.Denot). part.bench.seat) c.loop-part.seats.items c.in-Some.part (into_iter_items c.loop-part.part-iterator) (into_iter_items c.next.new.self) c.args.handed.parts.items (vec_capacity c.loop-part.seats) c.in-Some.ensures.steps.0 i.seats i.room.1

pub push_within-requires-in-loop-part-2 : goal.push_within-requires-in-loop-part-2
push_within-requires-in-loop-part-2 g c =
    let i = c.loop-part.invariant in
    one_more (λ (part : Part g.row.R.Denot). part.bench.cache) c.loop-part.caches.items c.in-Some.part (into_iter_items c.loop-part.part-iterator) (into_iter_items c.next.new.self) c.args.handed.parts.items (vec_capacity c.loop-part.caches) c.in-Some.ensures.steps.0 i.caches i.room.2

pub push_within-requires-in-loop-part-3 : goal.push_within-requires-in-loop-part-3
push_within-requires-in-loop-part-3 g c =
    let i = c.loop-part.invariant in
    one_more (λ (part : Part g.row.R.Denot). part.hand) c.loop-part.hands.items c.in-Some.part (into_iter_items c.loop-part.part-iterator) (into_iter_items c.next.new.self) c.args.handed.parts.items (vec_capacity c.loop-part.hands) c.in-Some.ensures.steps.0 i.hands i.room.3
