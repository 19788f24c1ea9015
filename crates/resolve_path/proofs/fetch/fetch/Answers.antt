use Rattle.std.proofs.Common.{◌≡◌, append-nil, sym, subst, ◌∙◌}
use Rattle.std.proofs.lemmas.Result.{err_from_is_err_and}
use Rattle.resolve_path.proofs.Fetching.{fresh_is, keeps_read, kept_is, last_is, missing_is, there_is}
use Rattle.resolve_path.proofs.Keeping.{keeps_all}
use Rattle.resolve_path.proofs.Caching.{true_more}
use Rattle.resolve_path.specs.Caches.{AreTrue, IsManifestAt}
use Rattle.resolve_path.specs.Manifests.{manifest_path}
use Rattle.resolve_path.proofs.fetch.fetch.Goals as goal

pub returns-then-is_none-clause-told : goal.returns-then-is_none-clause-told
returns-then-is_none-clause-told g c = λ tree told.
    let at : c.as_str.result.now ≡ manifest_path c.args.folder.now = c.as_str.ensures.value ∙ c.in_ok-put.ensures ∙ append-nil (manifest_path c.args.folder.now) in
    record {
      keeps = keeps_all tree c.args.listing.now c.args.cache.now (g.R.TreeReader.view c.args.reader.now);
      is = λ of true reading is. missing_is tree c.args.listing.now c.as_str.result.now c.find.result of c.find.ensures c.if-is_none.ensures c.args.folder.now at reading;
    }

pub returns-in-Some-clause-told : goal.returns-in-Some-clause-told
returns-in-Some-clause-told g c = λ tree told.
    let at : c.as_str-2.result.now ≡ manifest_path c.args.folder.now = c.as_str-2.ensures.value ∙ c.in_ok-put.ensures ∙ append-nil (manifest_path c.args.folder.now) in
    record {
      keeps = keeps_all tree c.args.listing.now c.args.cache.now (g.R.TreeReader.view c.args.reader.now);
      is = λ of all reading is. kept_is tree c.args.cache.now c.args.folder.now c.as_str-2.result.now c.in-Some.place reading at is all c.in-Some.ensures;
    }

pub returns-in_err-answer-clause-told : goal.returns-in_err-answer-clause-told
returns-in_err-answer-clause-told g c = λ tree told.
    let p = err_from_is_err_and c.from_residual-in_err-answer.result c.from_residual-in_err-answer.ensures.1 in
    let same : c.get.result.now ≡ c.as_str.result.now = c.get.ensures ∙ c.in_ok-path.ensures ∙ c.as_str-3.ensures.value ∙ sym c.as_str.ensures.value in
    rw p.1 (record {
      keeps = keeps_read tree c.args.listing.now c.args.cache.now c.args.cache.now c.get.result.now _ _ c.read.result (c.read.ensures.told tree told)
          (λ of. there_is tree c.args.listing.now c.get.result.now c.find.result of (rw same c.find.ensures) c.if-is_none.ensures) (λ all. all);
      is = λ of all reading is. tt;
    })

pub returns-then-not-has_room-clause-told : goal.returns-then-not-has_room-clause-told
returns-then-not-has_room-clause-told g c = λ tree told.
    let same : c.get.result.now ≡ c.as_str.result.now = c.get.ensures ∙ c.in_ok-path.ensures ∙ c.as_str-3.ensures.value ∙ sym c.as_str.ensures.value in
    let at : c.get.result.now ≡ manifest_path c.args.folder.now = same ∙ c.as_str.ensures.value ∙ c.in_ok-put.ensures ∙ append-nil (manifest_path c.args.folder.now) in
    let reads = c.in_ok-answer.ensures.told tree told in
    record {
      keeps = record {
        log = reads.log;
        listed = reads.listed;
        no_stray = λ of. reads.no_stray (there_is tree c.args.listing.now c.get.result.now c.find.result of (rw same c.find.ensures) c.if-is_none.ensures);
        cache = λ all. all;
      };
      is = λ of all reading is. fresh_is tree c.args.folder.now c.get.result.now c.in_ok-answer.answer reading at is reads.is;
    }

pub returns-clause-told : goal.returns-clause-told
returns-clause-told g c = λ tree told.
    let same : c.get.result.now ≡ c.as_str.result.now = c.get.ensures ∙ c.in_ok-path.ensures ∙ c.as_str-3.ensures.value ∙ sym c.as_str.ensures.value in
    let at : c.get.result.now ≡ manifest_path c.args.folder.now = same ∙ c.as_str.ensures.value ∙ c.in_ok-put.ensures ∙ append-nil (manifest_path c.args.folder.now) in
    let reads = c.in_ok-answer.ensures.told tree told in
    record {
      keeps = record {
        log = reads.log;
        listed = reads.listed;
        no_stray = λ of. reads.no_stray (there_is tree c.args.listing.now c.get.result.now c.find.result of (rw same c.find.ensures) c.if-is_none.ensures);
        cache = λ all. subst (AreTrue tree) (sym c.in_ok-add.ensures.ok)
            (true_more tree c.args.cache.now c.in_ok-path.path c.in_ok-answer.answer all (subst (λ path. IsManifestAt tree path c.in_ok-answer.answer) c.get.ensures reads.is));
      };
      is = λ of all reading is.
          last_is c.args.cache.now c.add.new.self (record { path = c.in_ok-path.path; answer = c.in_ok-answer.answer }) c.len-place.result c.in_ok-add.ensures.ok c.len-place.ensures
          ∙ fresh_is tree c.args.folder.now c.get.result.now c.in_ok-answer.answer reading at is reads.is;
    }
