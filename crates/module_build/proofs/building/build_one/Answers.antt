use Rattle.std.proofs.Common.{◌≡◌, ◌<◌, [], ◌∷◌, ◌++◌, append-nil, append_assoc, sym, ap, subst, ◌∙◌, length, inl}
use Rattle.std.proofs.lemmas.Result.{IfOk-weaker, err_from_is_err_and}
use Rattle.graph_types.specs.declared.record.ModRecord.{ModRecord}
use Rattle.module_parse.specs.Bare.{long_record}
use Rattle.outside.specs.declared.entry.Why.TheVariants.{Module}
use Rattle.path_text.specs.Path.{parent_of}
use Rattle.tree_listing.specs.Listing.{lengths_of, length_at, path_at}
use Rattle.module_build.specs.Reads.{ReadsPaths}
use Rattle.module_build.specs.Record.{got_record, named_in, record_of, resolved}
use Rattle.module_build.specs.Shape.{IsSimple}
use Rattle.module_build.proofs.Gains.{one_read, only_manifests, read_module, reads_more, reads_none}
use Rattle.module_build.proofs.Shapes.{long_simple}
use Rattle.module_build.proofs.Trees.{there, read_is}
use Rattle.module_build.proofs.building.build_one.Goals as goal

pub returns-in_err-text-clause-told : goal.returns-in_err-text-clause-told
returns-in_err-text-clause-told g c = λ tree told listed.
    let p = err_from_is_err_and c.from_residual.result c.from_residual.ensures.1 in
    let reads = c.in_err-text.ensures.reads.told tree told in
    let path : c.path-path.result.now ≡ path_at (lengths_of tree) c.args.file.0 = c.path-path.ensures.path ∙ ap (λ files. path_at files c.args.file.0) listed.files in
    let within : c.args.file.0 < length (lengths_of tree) = subst (λ files. c.args.file.0 < length files) listed.files c.requires in
    rw p.1 (record {
      record_is = λ true readings are. tt;
      cache = λ true. true;
      reads = record {
        no_stray = reads.no_stray (rw path (there tree c.args.file.0 within));
        reads = ([], reads.log ∙ sym (append-nil (g.R.TreeReader.view c.args.reader.now).log), inl reads_none);
      };
    })

pub returns-in_ok-rec-in-Whole-clause-told : goal.returns-in_ok-rec-in-Whole-clause-told
unfolding record_of
returns-in_ok-rec-in-Whole-clause-told g c = λ tree told listed.
    let file = c.args.file in
    let config = c.args.config.now in
    let one = c.path-path.result.now in
    let reads = c.in_ok-text.ensures.reads.told tree told in
    let start = g.R.TreeReader.view c.args.reader.now in
    let path : one ≡ path_at (lengths_of tree) file.0 = c.path-path.ensures.path ∙ ap (λ files. path_at files file.0) listed.files in
    let within : file.0 < length (lengths_of tree) = subst (λ files. file.0 < length files) listed.files c.requires in
    let told_now = (g.met.R.TreeReader.keeps c.args.reader.now c.read.new.self c.read.ensures.follows).tree ∙ told in
    let kept = c.resolved.ensures.keeps tree told_now in
    record {
      record_is = λ true readings are.
          IfOk-weaker c.resolved.result _ _
          (λ (rec : ModRecord) is.
          is ∙ ap (resolved (named_in readings tree config (parent_of one))) (c.in_ok-rec-in-Whole.ensures.is readings.json are.json)
          ∙ ap (got_record readings tree config file one (length_at (lengths_of tree) file.0)) (sym c.in-Whole.is)
          ∙ ap (λ path. got_record readings tree config file path (length_at (lengths_of tree) file.0) c.in_ok-text.field-0) path
          ∙ ap (got_record readings tree config file (path_at (lengths_of tree) file.0) (length_at (lengths_of tree) file.0)) (read_is tree file.0 _ c.in_ok-text.field-0 path reads.got))
          (c.resolved.ensures.is tree told_now listed true readings.manifest are.manifest);
      cache = kept.cache;
      reads = record {
        no_stray = kept.no_stray listed ∙ reads.no_stray (rw path (there tree file.0 within));
        reads = (
          ((one, Module) ∷ []) ++ kept.log.0,
          kept.log.1 ∙ ap (λ log. log ++ kept.log.0) reads.log ∙ append_assoc start.log ((one, Module) ∷ []) kept.log.0,
          read_module (path_at (lengths_of tree) file.0) (((one, Module) ∷ []) ++ kept.log.0) c.resolved.result
              (reads_more (path_at (lengths_of tree) file.0 ∷ []) [] ((one, Module) ∷ []) kept.log.0
              (subst (λ path. ReadsPaths (path ∷ []) ((one, Module) ∷ [])) path (one_read one)) (only_manifests kept.log.0 kept.log.2)),
        );
      };
    }

pub returns-in_ok-long_record-in-TooLong-clause-shape : goal.returns-in_ok-long_record-in-TooLong-clause-shape
returns-in_ok-long_record-in-TooLong-clause-shape g c =
    subst (IsSimple (length c.args.listing.now.files) c.args.file) (sym c.in_ok-long_record-in-TooLong.ensures)
    (long_simple (length c.args.listing.now.files) c.args.file c.path-path.result.now c.length.result)

pub returns-in_ok-long_record-in-TooLong-clause-told : goal.returns-in_ok-long_record-in-TooLong-clause-told
unfolding record_of
returns-in_ok-long_record-in-TooLong-clause-told g c = λ tree told listed.
    let file = c.args.file in
    let config = c.args.config.now in
    let one = c.path-path.result.now in
    let reads = c.in_ok-text.ensures.reads.told tree told in
    let path : one ≡ path_at (lengths_of tree) file.0 = c.path-path.ensures.path ∙ ap (λ files. path_at files file.0) listed.files in
    let within : file.0 < length (lengths_of tree) = subst (λ files. file.0 < length files) listed.files c.requires in
    let size : c.length.result ≡ length_at (lengths_of tree) file.0 = c.length.ensures ∙ ap (λ files. length_at files file.0) listed.files in
    record {
      record_is = λ true readings are.
          c.in_ok-long_record-in-TooLong.ensures ∙ ap (long_record file one) size
          ∙ ap (got_record readings tree config file one (length_at (lengths_of tree) file.0)) (sym c.in-TooLong.is)
          ∙ ap (λ path. got_record readings tree config file path (length_at (lengths_of tree) file.0) c.in_ok-text.field-0) path
          ∙ ap (got_record readings tree config file (path_at (lengths_of tree) file.0) (length_at (lengths_of tree) file.0)) (read_is tree file.0 _ c.in_ok-text.field-0 path reads.got);
      cache = λ true. true;
      reads = record {
        no_stray = reads.no_stray (rw path (there tree file.0 within));
        reads = ((one, Module) ∷ [], reads.log, subst (λ path. ReadsPaths (path ∷ []) ((one, Module) ∷ [])) path (one_read one));
      };
    }
