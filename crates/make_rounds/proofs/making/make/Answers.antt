use Rattle.std.proofs.Common.{◌≡◌, ℕ, zero, suc, ◌≤◌, List, [], ◌∷◌, drop, length, Err, IfErr, IfOk, refl, sym, ap, subst, ◌∙◌, arith}
use Rattle.std.proofs.lemmas.Result.{err_from_is_err_and}
use Rattle.std.specs.Prelude.{Result}
use Rattle.fault_place.specs.declared.fault.Fault.{Fault}
use Rattle.pack_util.specs.declared.number.FileId.{FileId}
use Rattle.graph_types.specs.Fits.{Fits}
use Rattle.claim_board.specs.declared.seat.ClaimSeat.{ClaimSeat}
use Rattle.make_rounds.specs.Make.{AreOwned}
use Rattle.make_rounds.specs.declared.grown.Grown.{Grown}
use Rattle.make_rounds.specs.declared.make_end.MakeEnd.{MakeEnd}
use Rattle.make_rounds.specs.inner.Answered.{numbers_of}
use Rattle.make_rounds.specs.inner.Closed.{EndsFrom, IsGrownFrom}
use Rattle.make_rounds.proofs.Makes.{all_fit, all_made, all_owned, begun_end, failed_by}
use Rattle.make_rounds.proofs.making.make.Goals as goal

drop_next : {A : Type 0} (n : ℕ) (xs : List A) → drop (suc n) xs ≡ drop n (drop 1 xs)
drop_next zero [] = refl
drop_next (suc n) [] = refl
drop_next n (x ∷ xs) = refl

-- what is the same behind the first is the same behind more
drop_more : {A : Type 0} (n : ℕ) (xs ys : List A) → 1 ≤ n → drop 1 xs ≡ drop 1 ys → drop n xs ≡ drop n ys
drop_more zero xs ys some same = absurd (omega (arith, some))
drop_more (suc n) xs ys some same = drop_next n xs ∙ ap (drop n) same ∙ sym (drop_next n ys)

-- what was put together, of as many files as the listing has and of the entries that were found
of_listing : (files count : ℕ) (seats : List ClaimSeat) (given entries : List (List FileId)) (faults : List Fault) (result : Result Grown MakeEnd) → files ≡ count → given ≡ entries
    → IfOk result (IsGrownFrom files seats given faults) → IfOk result (IsGrownFrom count seats entries faults)
of_listing files count seats given entries faults result same is from =
    subst (λ entries. IfOk result (IsGrownFrom count seats entries faults)) is (subst (λ files. IfOk result (IsGrownFrom files seats given faults)) same from)

pub returns-in_err-start-clause-told : goal.returns-in_err-start-clause-told
returns-in_err-start-clause-told g c = λ tree told listed.
    let p = err_from_is_err_and c.from_residual.result c.from_residual.ensures.1 in
    begun_end g.R.TreeReader.view tree c.args.config.now c.args.config_path.now c.args.readers.now.items c.begin.new.readers.items c.in_err-start.field-0.0 c.from_residual.result (p.1 ∙ ap Err p.2) (c.in_err-start.ensures.told tree told listed).read

pub returns-clause-follow : goal.returns-clause-follow
returns-clause-follow g c = c.reader_laws.ensures.on c.args.readers.now.items c.begin.new.readers.items c.grow-end.new.readers.items c.in_ok-start.ensures.follow c.grow-end.ensures.follow

pub returns-clause-others : goal.returns-clause-others
returns-clause-others g c =
    let new = c.in_ok-start.ensures.ready.new in
    let mids = c.begin.new.readers.items in
    let news = c.grow-end.new.readers.items in
    subst (λ n. drop n news ≡ drop n mids) (new.all.0 ∙ new.seats_are) c.grow-end.ensures.others ∙ drop_more c.args.workers mids c.args.readers.now.items c.requires.some c.in_ok-start.ensures.others

pub returns-clause-cause : goal.returns-clause-cause
returns-clause-cause g c = λ is.
    c.reader_laws.ensures.rose_then c.args.readers.now.items c.begin.new.readers.items c.grow-end.new.readers.items c.in_ok-start.ensures.follow
    (c.grow-end.ensures.cause (failed_by c.in_ok-start.start.board.files c.grow-end.new.seats.items c.grow-end.result c.finish.result c.finish.ensures.err is))

pub returns-clause-fit : goal.returns-clause-fit
returns-clause-fit g c =
    let start = c.in_ok-start.start in
    let ready = c.in_ok-start.ensures.ready in
    let seats = c.grow-end.new.seats.items in
    let count = length c.args.listing.now.files in
    let entries = start.entries.files.items in
    let faults = start.entries.faults.items in
    let from = of_listing start.board.files count seats c.deref.result.now entries faults c.finish.result ready.new.files_are c.deref.ensures.value c.finish.ensures.ok in
    subst (λ n. IfOk c.finish.result (λ (grown : Grown). Fits n grown.graph)) ready.as_many
    (all_fit count seats c.grow-end.result (numbers_of start.first.items) entries faults c.grow-end.ensures.won c.grow-end.ensures.finished c.finish.result from)

pub returns-clause-owned : goal.returns-clause-owned
returns-clause-owned g c =
    let start = c.in_ok-start.start in
    let ready = c.in_ok-start.ensures.ready in
    let seats = c.grow-end.new.seats.items in
    let count = length c.args.listing.now.files in
    let entries = start.entries.files.items in
    let faults = start.entries.faults.items in
    let from = of_listing start.board.files count seats c.deref.result.now entries faults c.finish.result ready.new.files_are c.deref.ensures.value c.finish.ensures.ok in
    subst (λ n. IfOk c.finish.result (λ (grown : Grown). AreOwned count n grown.graph grown.owners)) (c.grow-end.ensures.seats.0 ∙ ready.new.seats_are)
    (all_owned count seats c.grow-end.result (numbers_of start.first.items) entries faults c.grow-end.ensures.won c.grow-end.ensures.finished start.board c.grow-end.ensures.seats.1 c.finish.result c.finish.ensures.ended from)

pub returns-clause-told : goal.returns-clause-told
returns-clause-told g c = λ tree told listed.
    let view = g.R.TreeReader.view in
    let start = c.in_ok-start.start in
    let ready = c.in_ok-start.ensures.ready in
    let olds = c.args.readers.now.items in
    let mids = c.begin.new.readers.items in
    let news = c.grow-end.new.readers.items in
    let seats = c.grow-end.new.seats.items in
    let count = length c.args.listing.now.files in
    let from = of_listing start.board.files count seats c.deref.result.now start.entries.files.items start.entries.faults.items c.finish.result ready.new.files_are c.deref.ensures.value c.finish.ensures.ok in
    let why = subst (λ files. IfErr c.finish.result (EndsFrom files seats c.grow-end.result)) ready.new.files_are c.finish.ensures.err in
    let begun = c.in_ok-start.ensures.told tree told listed in
    let told_now = c.reader_laws.ensures.tell olds mids c.in_ok-start.ensures.follow tree told in
    all_made view tree c.args.config.now c.args.config_path.now count olds mids news seats start c.grow-end.result ready.first_is begun.read begun.on
    (c.grow-end.ensures.told tree told_now listed begun.on.trusted) c.grow-end.ensures.won c.grow-end.ensures.finished
    start.board c.grow-end.ensures.seats.1 c.finish.result c.finish.ensures.ended from why
