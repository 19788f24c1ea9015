use Rattle.std.proofs.Common.{◌≡◌, ◌<◌, length, Some, arith}
use Rattle.module_build.proofs.Gains.{only_manifests}
use Rattle.resolve_path.specs.Caches.{AreTrue}
use Rattle.make_rounds.specs.inner.Growing.{HasReadNone}
use Rattle.make_rounds.proofs.ReaderLists.{all-first, all-set_first, zip-first}
use Rattle.make_rounds.proofs.Reading.{none_read}
use Rattle.make_rounds.proofs.finding.find_first.Goals as goal

pub returns-clause-follow : goal.returns-clause-follow
returns-clause-follow g c =
    zip-first g.R.TreeReader.follows g.met.R.TreeReader.follows_itself c.args.readers.now.items c.index_mut.result.now c.find_entries.new.reader (omega (arith, c.requires.reader)) c.index_mut.ensures.value c.find_entries.ensures.follows

pub returns-clause-told : goal.returns-clause-told
returns-clause-told g c = λ tree told listed.
    let view = g.R.TreeReader.view in
    let readers = c.args.readers.now.items in
    let caches = c.args.caches.now.items in
    let some : 0 < length readers = omega (arith, c.requires.reader) in
    let cached : 0 < length caches = omega (arith, c.requires.cache) in
    let first = c.index_mut.result.now in
    let own = all-first (λ reader. (view reader).tree ≡ Some tree) readers first some c.index_mut.ensures.value told in
    let keeps = c.find_entries.ensures.keeps tree own in
    record {
      read = zip-first (λ old new. HasReadNone (view old) (view new)) (none_read view tree) readers first c.find_entries.new.reader some c.index_mut.ensures.value
          (record { no_stray = keeps.no_stray listed; reads = (keeps.log.0, keeps.log.1, only_manifests keeps.log.0 keeps.log.2) });
      trusted = λ all. all-set_first (AreTrue tree) caches c.find_entries.new.cache all (keeps.cache (all-first (AreTrue tree) caches c.index_mut-2.result.now cached c.index_mut-2.ensures.value all));
      found = λ all readings are. c.find_entries.ensures.finds tree own listed (all-first (AreTrue tree) caches c.index_mut-2.result.now cached c.index_mut-2.ensures.value all) readings are;
    }
