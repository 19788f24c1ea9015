use Rattle.std.proofs.Common.{Global, ◌≡◌, ◌<◌, ◌++◌, ℕ, List, length, drop, arith, sym, ap, subst, ◌∙◌}
use Rattle.std.proofs.lemmas.List.{length-drop, length-map}
use Rattle.std.proofs.lemmas.List.Elements.{All-from_recursion}
use Rattle.std.specs.Prelude.{flat_map, IsOk, Vec}
use Rattle.std.specs.List.{AllByRecursion, AllZip}
use Rattle.claim_board.specs.Claims.{IsSeatOf}
use Rattle.claim_board.specs.declared.seat.ClaimSeat.{ClaimSeat}
use Rattle.draw_board.specs.Draws.{AreSeatsFrom, Closes, IsNewSeat, board_len}
use Rattle.draw_board.specs.declared.seat.DrawSeat.{DrawSeat}
use Rattle.pack_util.specs.declared.number.FileId.{FileId}
use Rattle.resolve_path.specs.declared.kept.KeptManifest.{KeptManifest}
use Rattle.build_round.specs.Readers.{AllTell, SomeRose}
use Rattle.build_round.specs.Rounds.{IsDone, Wins, WorksOn, workers_of}
use Rattle.build_round.specs.declared.part.Part.{Part}
use Rattle.build_round.specs.inner.Handing.{hands_of, readers_of, seats_of}
use Rattle.build_round.specs.inner.Parts.{IsReady, SomeFailed, kept_by}
use Rattle.build_round.proofs.Lists.{all_zip_drop, all_zip_itself, both_ok, drop-front}
use Rattle.build_round.proofs.Together.{done_all, follow_all, hands_all, many, readers_before, ready_all, rose_some, told_all, told_none, wins_all, wins_none}
use Rattle.build_round.proofs.rounds.round.Goals as goal

pub returns-in_err-draws-clause-wins : goal.returns-in_err-draws-clause-wins
returns-in_err-draws-clause-wins g c =
    let count = length c.args.listing.now.files in
    all_zip_itself (Wins count c.args.frontier.now) c.args.seats.now.items (wins_none count c.args.frontier.now)

pub returns-in_err-draws-clause-told : goal.returns-in_err-draws-clause-told
returns-in_err-draws-clause-told g c = λ tree told listed.
    told_none g.R.TreeReader.view tree c.args.config.now c.args.readers.now.items c.args.seats.now.items c.args.caches.now.items

pub returns-in_err-parts-clause-wins : goal.returns-in_err-parts-clause-wins
returns-in_err-parts-clause-wins g c =
    let count = length c.args.listing.now.files in
    subst (AllZip (Wins count c.args.frontier.now) c.args.seats.now.items) (sym c.in_err-parts.ensures.err.1) (all_zip_itself (Wins count c.args.frontier.now) c.args.seats.now.items (wins_none count c.args.frontier.now))

pub returns-in_err-parts-clause-told : goal.returns-in_err-parts-clause-told
returns-in_err-parts-clause-told g c = λ tree told listed.
    let view = g.R.TreeReader.view in
    let readers = c.args.readers.now.items in
    let seats = c.args.seats.now.items in
    let caches = c.args.caches.now.items in
    let same = c.in_err-parts.ensures.err in
    let Is = AllByRecursion (WorksOn tree c.args.config.now) in
    subst (λ (after : List g.row.R.Denot). Is (workers_of view readers after seats c.hand_out.new.seats.items caches c.hand_out.new.caches.items)) (sym same.0)
    (subst (λ (after : List ClaimSeat). Is (workers_of view readers readers seats after caches c.hand_out.new.caches.items)) (sym same.1)
    (subst (λ (after : List (List KeptManifest)). Is (workers_of view readers readers seats seats caches after)) (sym same.2) (told_none view tree c.args.config.now readers seats caches)))

pub do_all-requires-clause-ready : goal.do_all-requires-clause-ready
do_all-requires-clause-ready g c κs within =
    let parts = c.in_ok-parts.field-0.parts.items in
    let board = c.args.board.now in
    let draws = c.in_ok-draws.draws in
    let made = c.in_ok-parts.ensures.parts in
    All-from_recursion (IsReady board draws) parts
    (ready_all board draws 0 parts (subst (AllByRecursion (IsSeatOf board)) made.seats_are c.requires.of_board) (subst (AreSeatsFrom draws 0) made.hands_are c.in_ok-draws.ensures.all.1)
    (subst (AllByRecursion IsNewSeat) made.hands_are c.in_ok-draws.ensures.new) c.in_ok-parts.ensures.idle)

pub hand_back-requires-clause-room : goal.hand_back-requires-clause-room
hand_back-requires-clause-room g c =
    let before = c.in_ok-parts.field-0.parts.items in
    let after = c.do_all.new.parts.items in
    let made = c.in_ok-parts.ensures.parts in
    let room = c.in_ok-parts.ensures.room in
    let enough = c.requires.readers in
    let same : length after ≡ length before = many g.R.TreeReader.view g.R.TreeReader.follows c.args.listing.now c.args.config.now c.args.frontier.now before after c.do_all.ensures in
    let number : length c.args.seats.now.items ≡ length before = ap length made.seats_are ∙ length-map before (λ (part : Part g.row.R.Denot). part.bench.seat) in
    let rest : length c.in_ok-parts.field-0.others.items ≡ length (drop (length c.args.seats.now.items) c.args.readers.now.items) = ap length c.in_ok-parts.ensures.others in
    let left = length-drop (length c.args.seats.now.items) c.args.readers.now.items in
    (omega (arith, room.0, enough, same, number, rest, left), omega (arith, room.1, same, number), omega (arith, room.2, same, number), omega (arith, room.3, same, number))

pub close-requires : goal.close-requires
close-requires g c =
    let before = c.in_ok-parts.field-0.parts.items in
    let after = c.do_all.new.parts.items in
    let draws = c.in_ok-draws.draws in
    let made = c.in_ok-parts.ensures.parts in
    let now = c.hand_back.ensures.parts in
    let all = c.in_ok-draws.ensures.all in
    let hand = λ (part : Part g.row.R.Denot). part.hand in
    let same : length after ≡ length before = many g.R.TreeReader.view g.R.TreeReader.follows c.args.listing.now c.args.config.now c.args.frontier.now before after c.do_all.ensures in (
      ap length now.hands_are ∙ length-map after hand ∙ same ∙ sym (ap length made.hands_are ∙ length-map before hand) ∙ all.0,
      subst (AreSeatsFrom draws 0) (sym now.hands_are)
          (hands_all g.R.TreeReader.view g.R.TreeReader.follows c.args.listing.now c.args.config.now c.args.frontier.now draws 0 before after c.do_all.ensures (subst (AreSeatsFrom draws 0) made.hands_are all.1)),
    )

pub returns-clause-follow : goal.returns-clause-follow
returns-clause-follow g c =
    let before = c.in_ok-parts.field-0.parts.items in
    let after = c.do_all.new.parts.items in
    let others = c.in_ok-parts.field-0.others.items in
    let readers = c.args.readers.now.items in
    let number = length c.args.seats.now.items in
    let follows = g.R.TreeReader.follows in
    let rest = c.in_ok-parts.ensures.others in
    let itself : AllZip follows readers readers = subst (λ (all : List g.row.R.Denot). AllZip follows all all) c.as_slice.ensures.value c.follow_themselves.ensures in
    let theirs : AllZip follows others others = subst (λ (all : List g.row.R.Denot). AllZip follows all all) (sym rest) (all_zip_drop follows number readers itself) in
    subst (λ (all : List g.row.R.Denot). AllZip follows all c.hand_back.new.readers.items) (sym (readers_before number readers others before c.in_ok-parts.ensures.parts.readers_are rest))
    (subst (λ (all : List g.row.R.Denot). AllZip follows (readers_of before ++ others) all) (sym c.hand_back.ensures.readers)
    (follow_all g.R.TreeReader.view follows c.args.listing.now c.args.config.now c.args.frontier.now others before after theirs c.do_all.ensures))

pub returns-clause-others : goal.returns-clause-others
returns-clause-others g c =
    let before = c.in_ok-parts.field-0.parts.items in
    let after = c.do_all.new.parts.items in
    let others = c.in_ok-parts.field-0.others.items in
    let made = c.in_ok-parts.ensures.parts in
    let same : length after ≡ length before = many g.R.TreeReader.view g.R.TreeReader.follows c.args.listing.now c.args.config.now c.args.frontier.now before after c.do_all.ensures in
    let number : length c.args.seats.now.items ≡ length (readers_of after) =
    ap length made.seats_are ∙ length-map before (λ (part : Part g.row.R.Denot). part.bench.seat) ∙ sym same ∙ sym (length-map after (λ (part : Part g.row.R.Denot). part.bench.reader)) in
    ap (drop (length c.args.seats.now.items)) c.hand_back.ensures.readers ∙ ap (λ (count : ℕ). drop count (readers_of after ++ others)) number ∙ drop-front (readers_of after) others ∙ c.in_ok-parts.ensures.others

pub returns-clause-caches : goal.returns-clause-caches
returns-clause-caches g c =
    let before = c.in_ok-parts.field-0.parts.items in
    let after = c.do_all.new.parts.items in
    let cache = λ (part : Part g.row.R.Denot). part.bench.cache in
    let same : length after ≡ length before = many g.R.TreeReader.view g.R.TreeReader.follows c.args.listing.now c.args.config.now c.args.frontier.now before after c.do_all.ensures in
    ap length c.hand_back.ensures.parts.caches_are ∙ length-map after cache ∙ same ∙ sym (ap length c.in_ok-parts.ensures.parts.caches_are ∙ length-map before cache)

pub returns-clause-cause : goal.returns-clause-cause
returns-clause-cause g c = λ is.
    let before = c.in_ok-parts.field-0.parts.items in
    let after = c.do_all.new.parts.items in
    let others = c.in_ok-parts.field-0.others.items in
    let readers = c.args.readers.now.items in
    let view = g.R.TreeReader.view in
    let failed : SomeFailed after = subst (λ (parts : List (Part g.row.R.Denot)). SomeFailed parts) c.as_slice-2.ensures.value (c.answer-answer.ensures.cause is) in
    subst (λ (all : List g.row.R.Denot). SomeRose view all c.hand_back.new.readers.items) (sym (readers_before (length c.args.seats.now.items) readers others before c.in_ok-parts.ensures.parts.readers_are c.in_ok-parts.ensures.others))
    (subst (λ (all : List g.row.R.Denot). SomeRose view (readers_of before ++ others) all) (sym c.hand_back.ensures.readers)
    (rose_some view g.R.TreeReader.follows c.args.listing.now c.args.config.now c.args.frontier.now others before after failed c.do_all.ensures))

pub returns-clause-wins : goal.returns-clause-wins
returns-clause-wins g c =
    let Is = AllZip (Wins (length c.args.listing.now.files) c.args.frontier.now) in
    subst (λ (seats : List ClaimSeat). Is seats c.hand_back.new.seats.items) (sym c.in_ok-parts.ensures.parts.seats_are)
    (subst (Is (seats_of c.in_ok-parts.field-0.parts.items)) (sym c.hand_back.ensures.parts.seats_are)
    (wins_all g.R.TreeReader.view g.R.TreeReader.follows c.args.listing.now c.args.config.now c.args.frontier.now c.in_ok-parts.field-0.parts.items c.do_all.new.parts.items c.do_all.ensures))

pub returns-clause-done : goal.returns-clause-done
returns-clause-done g c =
    let before = c.in_ok-parts.field-0.parts.items in
    let after = c.do_all.new.parts.items in
    let count = length c.args.listing.now.files in
    let frontier = c.args.frontier.now in
    let view = g.R.TreeReader.view in
    let follows = g.R.TreeReader.follows in
    let made = c.in_ok-parts.ensures.parts in
    let now = c.hand_back.ensures.parts in
    let shown = c.as_slice-2.ensures.value in
    let number : length c.args.seats.now.items ≡ length before = ap length made.seats_are ∙ length-map before (λ (part : Part g.row.R.Denot). part.bench.seat) in
    let same : length after ≡ length before = many view follows c.args.listing.now c.args.config.now frontier before after c.do_all.ensures in
    let some : 0 < length after = omega (arith, c.requires.some, number, same) in
    let len : board_len c.in_ok-draws.draws ≡ length frontier = c.in_ok-draws.ensures.len_is in
    let closes : Closes (length frontier) (hands_of after) c.close.result = subst (λ (hands : List DrawSeat). Closes (length frontier) hands c.close.result) now.hands_are
    (subst (λ (len : ℕ). Closes len c.hand_back.new.hands.items c.close.result) len c.close.ensures) in
    let Is = λ (olds news : List ClaimSeat) (answer : Vec FileId Global). IsDone count frontier olds news answer.items in
    both_ok c.answer-answer.result (λ answer. answer.items ≡ flat_map kept_by c.as_slice-2.result.now) (λ _. AllByRecursion (λ part. IsOk part.end) c.as_slice-2.result.now) (Is c.args.seats.now.items c.hand_back.new.seats.items) c.answer-answer.ensures.kept
    c.answer-answer.ensures.well
    (λ answer kept well.
    subst (λ (olds : List ClaimSeat). Is olds c.hand_back.new.seats.items answer) (sym made.seats_are)
    (subst (λ (news : List ClaimSeat). Is (seats_of before) news answer) (sym now.seats_are)
    (done_all view follows c.args.listing.now c.args.config.now frontier c.close.result before after answer.items some c.in_ok-parts.ensures.idle (subst (λ (parts : List (Part g.row.R.Denot)). AllByRecursion (λ part. IsOk part.end) parts) shown well)
    c.do_all.ensures closes (kept ∙ ap (flat_map kept_by) shown))))

pub returns-clause-told : goal.returns-clause-told
returns-clause-told g c = λ tree told listed.
    let before = c.in_ok-parts.field-0.parts.items in
    let after = c.do_all.new.parts.items in
    let others = c.in_ok-parts.field-0.others.items in
    let readers = c.args.readers.now.items in
    let view = g.R.TreeReader.view in
    let made = c.in_ok-parts.ensures.parts in
    let now = c.hand_back.ensures.parts in
    let all = readers_before (length c.args.seats.now.items) readers others before made.readers_are c.in_ok-parts.ensures.others in
    let Is = AllByRecursion (WorksOn tree c.args.config.now) in
    let tells : AllTell view (readers_of before ++ others) tree = subst (λ (all : List g.row.R.Denot). AllTell view all tree) all told in
    let works = told_all view g.R.TreeReader.follows c.args.listing.now c.args.config.now c.args.frontier.now tree others before after listed tells c.do_all.ensures in
    rw (all, c.hand_back.ensures.readers, made.seats_are, now.seats_are, made.caches_are, now.caches_are) works
