use Rattle.std.proofs.Common.{◌≡◌, ◌⊎◌, ℕ, ◌+◌, ◌*◌, ◌<◌, ◌==◌, false, List, [], ◌++◌, drop, length, length-append, take, vec_len, Err, refl, sym, ap, subst, ◌∙◌, inl, inr, arith}
use Rattle.std.proofs.lemmas.Bool.Decides.{nat_tests}
use Rattle.std.proofs.lemmas.List.{take-append-drop}
use Rattle.std.proofs.lemmas.Result.{err_from_is_err_and}
use Rattle.std.specs.List.{AllByRecursion}
use Rattle.build_round.specs.Rounds.{Wins}
use Rattle.claim_board.specs.declared.seat.ClaimSeat.{ClaimSeat}
use Rattle.pack_util.specs.declared.number.FileId.{FileId}
use Rattle.outside.specs.declared.outside_end.OutsideEnd.TheVariants.{NoMemory}
use Rattle.make_rounds.specs.inner.Answered.{numbers_of}
use Rattle.make_rounds.specs.inner.Found.{marked}
use Rattle.make_rounds.specs.inner.Growing.{AreGrowing, AreMet}
use Rattle.make_rounds.proofs.Lists.{all-append, all-left, all-right, zip-length}
use Rattle.make_rounds.proofs.OneRound.{all_new_built, all_new_won, counted_more, found_exceeds, growing_new, growing_none, limit_end, met_new, round_end, round_on}
use Rattle.make_rounds.proofs.Rounds.{all_built, all_met, all_won, less, seats_are, seats_of, total_room}
use Rattle.make_rounds.proofs.growing.grow.Goals as goal

-- the frontier is the files that the round takes, and those behind them
parted : (frontier given piece : List FileId) → given ≡ frontier → piece ≡ take (length piece) given → frontier ≡ piece ++ drop (length piece) frontier
parted frontier given piece same front =
    sym (take-append-drop (length piece) frontier) ∙ ap (λ first. first ++ drop (length piece) frontier) (ap (take (length piece)) (sym same) ∙ sym front)

front_within : (count : ℕ) (frontier piece later : List FileId) → frontier ≡ piece ++ later → AllByRecursion (λ (file : FileId). file.0 < count) frontier → AllByRecursion (λ (file : FileId). file.0 < count) piece
front_within count frontier piece later split all = all-left (λ (file : FileId). file.0 < count) piece later (subst (AllByRecursion (λ (file : FileId). file.0 < count)) split all)

above_zero : (n : ℕ) → false ≡ (n == 0) → 0 < n
above_zero n is = grind (arith, nat_tests)

-- the room for claims falls, or the frontier does
fewer : (count : ℕ) (frontier piece later named next : List FileId) (seats seats' : List ClaimSeat) → frontier ≡ piece ++ later → 0 < length piece → next ≡ later ++ named → length next < 18446744073709551616
    → (total_room count seats' < total_room count seats) ⊎ ((total_room count seats' ≡ total_room count seats) × (named ≡ []))
    → 18446744073709551616 * total_room count seats' + length next < 18446744073709551616 * total_room count seats + length frontier
fewer count frontier piece later named next seats seats' split some is short (inl less) = omega (arith, less, short)
fewer count frontier piece later named next seats seats' split some is short (inr same) =
    let old = ap length split ∙ length-append piece later in
    let new = ap length is ∙ length-append later named ∙ ap (λ n. length later + n) (ap length same.1) in
    omega (arith, same.0, old, new, some)

pub returns-in_err-found-clause-won : goal.returns-in_err-found-clause-won
returns-in_err-found-clause-won g c = all_new_won (length c.args.listing.now.files) c.args.seats.now.items c.requires.new

pub returns-in_err-found-clause-told : goal.returns-in_err-found-clause-told
returns-in_err-found-clause-told g c = λ tree told listed trusted.
    let p = err_from_is_err_and c.from_residual.result c.from_residual.ensures.1 in
    growing_none g.R.TreeReader.view tree c.args.config.now (numbers_of c.args.first.items) c.args.readers.now.items c.args.caches.now.items c.args.seats.now.items c.from_residual.result (p.1 ∙ ap Err p.2) c.requires.readers c.requires.new

pub loop-alloc-init : goal.loop-alloc-init
loop-alloc-init g c =
    let count = length c.args.listing.now.files in
    let seats = c.args.seats.now.items in
    let first = numbers_of c.args.first.items in
    record {
      follow = c.reader_laws.ensures.itself c.args.readers.now.items;
      others = refl;
      as_many = refl;
      as_many_caches = c.requires.caches;
      seats = c.requires.seats;
      won = all_new_won count seats c.requires.new;
      built = all_new_built seats c.requires.new;
      within = c.requires.within;
      met = met_new first seats c.requires.new;
      counted = c.in_ok-found.ensures.counted;
      allowed = c.in_ok-found.ensures.allowed;
      told = λ tree told listed trusted. growing_new g.R.TreeReader.view tree c.args.config.now first (marked c.in_ok-found.found.marks) c.args.readers.now.items c.args.caches.now.items seats c.requires.readers c.requires.new trusted c.in_ok-found.ensures.none;
    }

pub returns-in_err-add-clause-told : goal.returns-in_err-add-clause-told
returns-in_err-add-clause-told g c = λ tree told listed trusted.
    let before = c.loop-alloc.invariant in
    let p = err_from_is_err_and c.from_residual-in_err-add.result c.from_residual-in_err-add.ensures.1 in
    let frontier = c.loop-alloc.frontier.items in
    let piece = c.first_piece-piece.result.now in
    let split = parted frontier c.deref.result.now piece c.deref.ensures.value c.first_piece-piece.ensures.front in
    let growing = before.told tree told listed trusted in
    let first = numbers_of c.args.first.items in
    let limit = c.in_err-add.field-0.0 in
    limit_end g.R.TreeReader.view g.R.TreeReader.follows tree c.args.config.now first (length c.args.listing.now.files) frontier piece (drop (length piece) frontier) split before.within
    c.args.readers.now.items c.loop-alloc.readers.items c.loop-alloc.readers.items c.loop-alloc.seats.items c.loop-alloc.seats.items c.loop-alloc.caches.items c.loop-alloc.caches.items (marked c.loop-alloc.found.marks) growing limit
    (λ readings are.
    found_exceeds tree c.args.config.now c.args.listing.now c.add.new.self listed c.in_ok-found.ensures.ascending c.in_err-add.ensures.counted readings first
    (counted_more g.R.TreeReader.view g.R.TreeReader.follows tree c.args.config.now first (length c.args.listing.now.files) frontier piece (drop (length piece) frontier) split before.within
    c.args.readers.now.items c.loop-alloc.readers.items c.loop-alloc.readers.items c.loop-alloc.seats.items c.loop-alloc.seats.items c.loop-alloc.caches.items c.loop-alloc.caches.items (marked c.loop-alloc.found.marks) growing
    (marked c.add.new.self.marks) c.in_err-add.ensures.among readings are)
    limit c.in_err-add.ensures.exceeded)
    c.from_residual-in_err-add.result (p.1 ∙ ap Err p.2)

pub round-requires-clause-of_board : goal.round-requires-clause-of_board
round-requires-clause-of_board g c κs within = seats_are c.args.board.now 0 c.loop-alloc.seats.items c.loop-alloc.invariant.seats.1

pub round-requires-clause-readers : goal.round-requires-clause-readers
round-requires-clause-readers g c κs within =
    let before = c.loop-alloc.invariant in
    let long = zip-length g.R.TreeReader.follows c.args.readers.now.items c.loop-alloc.readers.items before.follow in
    omega (arith, long, before.as_many, c.requires.readers)

pub returns-in_err-named-clause-seats : goal.returns-in_err-named-clause-seats
returns-in_err-named-clause-seats g c =
    seats_of (length c.args.listing.now.files) c.first_piece-piece.result.now c.args.board.now c.loop-alloc.seats.items c.round.new.seats.items c.in_err-named.ensures.wins c.loop-alloc.invariant.seats

pub returns-in_err-named-clause-won : goal.returns-in_err-named-clause-won
returns-in_err-named-clause-won g c =
    let before = c.loop-alloc.invariant in
    let frontier = c.loop-alloc.frontier.items in
    let piece = c.first_piece-piece.result.now in
    let split = parted frontier c.deref.result.now piece c.deref.ensures.value c.first_piece-piece.ensures.front in
    let count = length c.args.listing.now.files in
    all_won count piece (front_within count frontier piece (drop (length piece) frontier) split before.within) c.loop-alloc.seats.items c.round.new.seats.items c.in_err-named.ensures.wins before.won before.built

pub returns-in_err-frontier-clause-seats : goal.returns-in_err-frontier-clause-seats
returns-in_err-frontier-clause-seats g c =
    seats_of (length c.args.listing.now.files) c.first_piece-piece.result.now c.args.board.now c.loop-alloc.seats.items c.round.new.seats.items c.in_ok-named.ensures.wins c.loop-alloc.invariant.seats

pub returns-in_err-frontier-clause-won : goal.returns-in_err-frontier-clause-won
returns-in_err-frontier-clause-won g c =
    let before = c.loop-alloc.invariant in
    let frontier = c.loop-alloc.frontier.items in
    let piece = c.first_piece-piece.result.now in
    let split = parted frontier c.deref.result.now piece c.deref.ensures.value c.first_piece-piece.ensures.front in
    let count = length c.args.listing.now.files in
    all_won count piece (front_within count frontier piece (drop (length piece) frontier) split before.within) c.loop-alloc.seats.items c.round.new.seats.items c.in_ok-named.ensures.wins before.won before.built

pub returns-in_err-named-clause-told : goal.returns-in_err-named-clause-told
returns-in_err-named-clause-told g c = λ tree told listed trusted.
    let before = c.loop-alloc.invariant in
    let p = err_from_is_err_and c.from_residual-in_err-named.result c.from_residual-in_err-named.ensures.1 in
    let frontier = c.loop-alloc.frontier.items in
    let piece = c.first_piece-piece.result.now in
    let split = parted frontier c.deref.result.now piece c.deref.ensures.value c.first_piece-piece.ensures.front in
    let one = c.in_err-named.ensures in
    let long = zip-length g.R.TreeReader.follows c.args.readers.now.items c.loop-alloc.readers.items before.follow in
    round_end g.R.TreeReader.view g.R.TreeReader.follows tree c.args.config.now (numbers_of c.args.first.items) (length c.args.listing.now.files) frontier piece (drop (length piece) frontier) split before.within
    c.args.readers.now.items c.loop-alloc.readers.items c.round.new.readers.items c.loop-alloc.seats.items c.round.new.seats.items c.loop-alloc.caches.items c.round.new.caches.items (marked c.loop-alloc.found.marks) (before.told tree told listed trusted)
    before.built one.wins one.follow one.others (omega (arith, long, before.as_many, c.requires.readers)) before.as_many_caches one.caches
    (one.told tree (c.reader_laws.ensures.tell c.args.readers.now.items c.loop-alloc.readers.items before.follow tree told) listed)
    c.in_err-named.field-0.0 c.from_residual-in_err-named.result (p.1 ∙ ap Err p.2)

pub returns-in_err-frontier-clause-told : goal.returns-in_err-frontier-clause-told
returns-in_err-frontier-clause-told g c = λ tree told listed trusted.
    let before = c.loop-alloc.invariant in
    let p = err_from_is_err_and c.from_residual-in_err-frontier.result c.from_residual-in_err-frontier.ensures.1 in
    let frontier = c.loop-alloc.frontier.items in
    let piece = c.first_piece-piece.result.now in
    let split = parted frontier c.deref.result.now piece c.deref.ensures.value c.first_piece-piece.ensures.front in
    let one = c.in_ok-named.ensures in
    let long = zip-length g.R.TreeReader.follows c.args.readers.now.items c.loop-alloc.readers.items before.follow in
    round_end g.R.TreeReader.view g.R.TreeReader.follows tree c.args.config.now (numbers_of c.args.first.items) (length c.args.listing.now.files) frontier piece (drop (length piece) frontier) split before.within
    c.args.readers.now.items c.loop-alloc.readers.items c.round.new.readers.items c.loop-alloc.seats.items c.round.new.seats.items c.loop-alloc.caches.items c.round.new.caches.items (marked c.loop-alloc.found.marks) (before.told tree told listed trusted)
    before.built one.wins one.follow one.others (omega (arith, long, before.as_many, c.requires.readers)) before.as_many_caches one.caches
    (one.told tree (c.reader_laws.ensures.tell c.args.readers.now.items c.loop-alloc.readers.items before.follow tree told) listed)
    NoMemory c.from_residual-in_err-frontier.result (p.1 ∙ ap Err p.2)

pub loop-alloc-preserved : goal.loop-alloc-preserved
loop-alloc-preserved g c =
    let before = c.loop-alloc.invariant in
    let count = length c.args.listing.now.files in
    let first = numbers_of c.args.first.items in
    let start = c.args.readers.now.items in
    let readers = c.loop-alloc.readers.items in
    let readers' = c.round.new.readers.items in
    let seats = c.loop-alloc.seats.items in
    let seats' = c.round.new.seats.items in
    let frontier = c.loop-alloc.frontier.items in
    let piece = c.first_piece-piece.result.now in
    let later = drop (length piece) frontier in
    let named = c.in_ok-named.named.items in
    let split = parted frontier c.deref.result.now piece c.deref.ensures.value c.first_piece-piece.ensures.front in
    let within = front_within count frontier piece later split before.within in
    let one = c.in_ok-named.ensures in
    let next : c.in_ok-frontier.frontier.items ≡ later ++ named = c.in_ok-frontier.ensures in
    let long = zip-length g.R.TreeReader.follows start readers before.follow in
    let many = zip-length (Wins count piece) seats seats' one.wins in
    record {
      follow = c.reader_laws.ensures.on start readers readers' before.follow one.follow;
      others = subst (λ n. drop n readers' ≡ drop n readers) before.as_many one.others ∙ before.others;
      as_many = many ∙ before.as_many;
      as_many_caches = one.caches ∙ before.as_many_caches ∙ sym many;
      seats = seats_of count piece c.args.board.now seats seats' one.wins before.seats;
      won = all_won count piece within seats seats' one.wins before.won before.built;
      built = all_built count piece within seats seats' one.wins one.done.published before.built;
      within = subst (AllByRecursion (λ (file : FileId). file.0 < count)) (sym next)
          (all-append (λ (file : FileId). file.0 < count) later named (all-right (λ (file : FileId). file.0 < count) piece later (subst (AllByRecursion (λ (file : FileId). file.0 < count)) split before.within)) one.done.within);
      met = subst (λ files. AreMet first (numbers_of files) seats') (sym next)
          (all_met count piece within later named seats seats' one.wins one.done first (subst (λ files. AreMet first (numbers_of files) seats) split before.met));
      counted = c.in_ok-add.ensures.counted;
      allowed = c.in_ok-add.ensures.allowed refl;
      told = λ tree told listed trusted.
          subst (λ files. AreGrowing g.R.TreeReader.view tree c.args.config.now first start readers' c.round.new.caches.items (numbers_of files) (marked c.add.new.self.marks) seats') (sym next)
          (round_on g.R.TreeReader.view g.R.TreeReader.follows tree c.args.config.now first count frontier piece later split before.within
          start readers readers' seats seats' c.loop-alloc.caches.items c.round.new.caches.items (marked c.loop-alloc.found.marks) (before.told tree told listed trusted)
          before.built one.wins one.follow one.others (omega (arith, long, before.as_many, c.requires.readers)) before.as_many_caches one.caches
          (one.told tree (c.reader_laws.ensures.tell start readers before.follow tree told) listed)
          named (marked c.add.new.self.marks) one.done c.in_ok-add.ensures.among);
    }

pub loop-alloc-smaller : goal.loop-alloc-smaller
loop-alloc-smaller g c =
    let before = c.loop-alloc.invariant in
    let count = length c.args.listing.now.files in
    let seats = c.loop-alloc.seats.items in
    let seats' = c.round.new.seats.items in
    let frontier = c.loop-alloc.frontier.items in
    let piece = c.first_piece-piece.result.now in
    let later = drop (length piece) frontier in
    let named = c.in_ok-named.named.items in
    let split = parted frontier c.deref.result.now piece c.deref.ensures.value c.first_piece-piece.ensures.front in
    let within = front_within count frontier piece later split before.within in
    let one = c.in_ok-named.ensures in
    let next : c.in_ok-frontier.frontier.items ≡ later ++ named = c.in_ok-frontier.ensures in
    let holds = all_won count piece within seats seats' one.wins before.won before.built in
    let nonempty : 0 < length frontier = omega (arith, above_zero (vec_len c.loop-alloc.frontier) c.loop-alloc-test.ensures, c.loop-alloc.frontier.ok.0) in
    fewer count frontier piece later named c.in_ok-frontier.frontier.items seats seats' split (c.first_piece-piece.ensures.some (subst (λ (files : List FileId). 0 < length files) (sym c.deref.ensures.value) nonempty)) next
    (omega (arith, c.in_ok-frontier.frontier.ok.0, c.in_ok-frontier.frontier.ok.1, c.in_ok-frontier.frontier.small))
    (less count piece within later named seats seats' one.wins one.done holds)
