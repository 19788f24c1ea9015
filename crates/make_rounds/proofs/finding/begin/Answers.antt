use Rattle.std.proofs.Common.{◌<◌, List, [], length, flat_map, sym, ap, subst, ◌∙◌}
use Rattle.std.proofs.lemmas.List.{length-replicate}
use Rattle.std.proofs.lemmas.Result.{err_from_is_err_and}
use Rattle.std.specs.List.{AllByRecursion}
use Rattle.claim_board.specs.Claims.{AreNew}
use Rattle.pack_util.specs.declared.number.FileId.{FileId}
use Rattle.resolve_path.specs.Caches.{AreTrue}
use Rattle.make_rounds.specs.inner.Growing.{HasReadNone}
use Rattle.make_rounds.proofs.Lists.{all-flat, all-replicate}
use Rattle.make_rounds.proofs.ReaderLists.{zip-itself}
use Rattle.make_rounds.proofs.Reading.{none_read}
use Rattle.make_rounds.proofs.finding.begin.Goals as goal

pub returns-in_err-caches-clause-follow : goal.returns-in_err-caches-clause-follow
returns-in_err-caches-clause-follow g c = zip-itself g.R.TreeReader.follows g.met.R.TreeReader.follows_itself c.args.readers.now.items

pub returns-in_err-caches-clause-told : goal.returns-in_err-caches-clause-told
returns-in_err-caches-clause-told g c = λ tree told listed.
    let view = g.R.TreeReader.view in
    let p = err_from_is_err_and c.from_residual.result c.from_residual.ensures.1 in
    record { read = zip-itself (λ old new. HasReadNone (view old) (view new)) (none_read view tree) c.args.readers.now.items; on = rw p.1 tt }

pub returns-clause-ready : goal.returns-clause-ready
returns-clause-ready g c =
    let files = c.in_ok-entries.entries.files.items in
    let count = length c.args.listing.now.files in
    let first = c.in_ok-first.ensures ∙ ap (flat_map (λ (entry : List FileId). entry)) c.deref.ensures.value in
    record {
      as_many = c.in_ok-entries.ensures.count;
      first_is = first;
      within = subst (AllByRecursion (λ (file : FileId). file.0 < count)) (sym first) (all-flat (λ (file : FileId). file.0 < count) (λ (entry : List FileId). entry) files c.in_ok-entries.ensures.within);
      new = subst (λ count. AreNew count c.args.workers c.in_ok-board.board c.in_ok-board.seats.items) c.count.ensures.count c.in_ok-board.ensures;
      as_many_caches = c.in_ok-entries.ensures.caches ∙ ap length c.in_ok-caches.ensures ∙ length-replicate c.args.workers [];
    }

pub returns-clause-told : goal.returns-clause-told
returns-clause-told g c = λ tree told listed.
    let one = c.in_ok-entries.ensures.told tree told listed in
    let none = subst (AllByRecursion (AreTrue tree)) (sym c.in_ok-caches.ensures) (all-replicate (AreTrue tree) c.args.workers [] tt) in
    record { read = one.read; on = record { trusted = one.trusted none; found = one.found none } }
