use Rattle.std.proofs.Common.{ℕ, ◌<◌, List, filter_map, length, refl, sym, subst}
use Rattle.std.proofs.lemmas.Result.{err_from_is_err_and}
use Rattle.std.specs.Prelude.{IfSome, Err}
use Rattle.std.specs.List.{AllByRecursion}
use Rattle.claim_board.specs.Claims.{board_files}
use Rattle.graph_types.specs.Targets.{item_target}
use Rattle.graph_types.specs.declared.item.Item.{Item}
use Rattle.outside.specs.declared.outside_end.OutsideEnd.TheVariants.{NoMemory}
use Rattle.build_round.specs.inner.Parts.{Keeps}
use Rattle.build_round.proofs.Seats.{stays}
use Rattle.build_round.proofs.Works.{builds_none, builds_one, cause_as, cause_memory, cause_well, on_built, on_failed, on_unpublished}
use Rattle.build_round.proofs.taking.build.Goals as goal

pub returns-in_err-rec : goal.returns-in_err-rec
returns-in_err-rec g c =
    let p = err_from_is_err_and c.from_residual.result c.from_residual.ensures.1 in
    let old = c.args.bench.now in
    let file = c.args.file.0 in
    let before = g.R.TreeReader.view old.reader in
    let now = g.R.TreeReader.view c.build_one.new.reader in
    rw (p.1, p.2) (builds_none g.R.TreeReader.view g.R.TreeReader.follows c.args.listing.now c.args.config.now file old (record { reader = c.build_one.new.reader; seat = old.seat; cache = c.build_one.new.cache; kept = old.kept }) c.in_err-rec.field-0.0
    c.in_err-rec.ensures.follows (cause_as before.faults now.faults c.in_err-rec.field-0.0 (Err c.in_err-rec.field-0.0) (Err c.in_err-rec.field-0.0) refl refl c.in_err-rec.ensures.cause)
    (λ tree told listed. on_failed tree c.args.config.now file old.cache c.build_one.new.cache before now c.in_err-rec.field-0.0 (c.in_err-rec.ensures.told tree told listed))
    (stays old.seat old.seat (refl, refl) refl))

pub keep_free-requires-clause-within : goal.keep_free-requires-clause-within
keep_free-requires-clause-within g c =
    let Within = λ (count : ℕ) (items : List Item). AllByRecursion (λ item. IfSome item.target (λ target. target.0 < count)) items in
    subst (Within (board_files c.args.board.now)) (sym c.as_slice.ensures) (subst (λ (count : ℕ). Within count c.in_ok-rec.rec.items) (sym c.requires.files) c.in_ok-rec.ensures.shape.within)

pub returns-in_err-keep_free : goal.returns-in_err-keep_free
returns-in_err-keep_free g c =
    let p = err_from_is_err_and c.from_residual-in_err-keep_free.result c.from_residual-in_err-keep_free.ensures.1 in
    let old = c.args.bench.now in
    let file = c.args.file.0 in
    let before = g.R.TreeReader.view old.reader in
    let now = g.R.TreeReader.view c.build_one.new.reader in
    rw (p.1, p.2) (builds_none g.R.TreeReader.view g.R.TreeReader.follows c.args.listing.now c.args.config.now file old
    (record { reader = c.build_one.new.reader; seat = c.keep_free.new.seat; cache = c.build_one.new.cache; kept = c.keep_free.new.kept }) NoMemory c.in_ok-rec.ensures.follows
    (cause_memory before.faults now.faults c.in_ok-rec.rec c.in_ok-rec.ensures.cause)
    (λ tree told listed. on_unpublished tree c.args.config.now file old.cache c.build_one.new.cache before now c.in_ok-rec.rec (c.in_ok-rec.ensures.told tree told listed)) c.keep_free.ensures.seat)

pub returns : goal.returns
returns g c =
    let old = c.args.bench.now in
    let file = c.args.file.0 in
    let rec = c.in_ok-rec.rec in
    let before = g.R.TreeReader.view old.reader in
    let now = g.R.TreeReader.view c.build_one.new.reader in
    let seat = c.keep_free.new.seat in
    let Is = λ (count : ℕ) (items : List Item). Keeps count seat (filter_map item_target items) old.kept.items c.keep_free.new.kept.items in
    builds_one g.R.TreeReader.view g.R.TreeReader.follows c.args.listing.now c.args.config.now file old
    (record { reader = c.build_one.new.reader; seat = c.publish.new.seat; cache = c.build_one.new.cache; kept = c.keep_free.new.kept }) seat rec c.in_ok-rec.ensures.follows
    (cause_well before.faults now.faults rec tt c.in_ok-rec.ensures.cause)
    (λ tree told listed. on_built tree c.args.config.now file old.cache c.build_one.new.cache before now rec (c.in_ok-rec.ensures.told tree told listed)) c.in_ok-rec.ensures.shape c.keep_free.ensures.seat
    c.publish.ensures.board c.publish.ensures.lists
    (subst (Is (length c.args.listing.now.files)) c.as_slice.ensures (subst (λ (count : ℕ). Is count c.as_slice.result.now) c.requires.files c.in_ok-keep_free.ensures.kept))
