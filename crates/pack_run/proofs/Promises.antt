-- What a command promises, once the last line is tried.
use Rattle.std.proofs.Common.{◌≡◌, ℕ, ◌≤◌, List, length, le_trans}
use Rattle.outside.specs.Views.{ReaderView, SinkView}
use Rattle.outside.specs.declared.asset_sink.Asset.{Asset}
use Rattle.pack_run.specs.Last.{TriesLast}
use Rattle.pack_run.specs.Run.{Promise}
use Rattle.pack_run.specs.declared.end.End.{End}
use Rattle.pack_run.specs.declared.end.End.TheVariants.{LineFault}
use Rattle.pack_run.specs.inner.Carried.{Carries}
use Rattle.pack_run.proofs.Ends.{decided_by, unverdicted}
use Rattle.pack_run.proofs.Jobs.{OneJob, build_or_sample, none_missing}

pub finished : {R : Type 0} (follows : R → R → Type 0) (view : R → ReaderView) (one_job : OneJob) (words : List (List ℕ)) (readers readers' : List R) (sink sink' : SinkView Asset) (lines between lines' : SinkView (List ℕ)) (end : End)
    → Carries follows view words readers readers' sink sink' lines between end → TriesLast end between lines' → between.faults ≤ lines'.faults
    → Promise follows view words readers readers' sink sink' lines lines' end
finished follows view one_job words readers readers' sink sink' lines between lines' end carries tries low =
    let line_cause = λ (at : end ≡ LineFault). le_trans (carries.line_cause at) low in
    record {
      follow = carries.follow;
      read_cause = carries.read_cause;
      write_cause = carries.write_cause;
      line_cause = line_cause;
      decided = λ no_read no_write no_line.
          decided_by end (λ at. no_read (carries.read_cause at)) (λ at. no_write (carries.write_cause at)) (λ at. no_line (line_cause at));
      usage = carries.usage;
      nothing_put = carries.nothing_put;
      no_stray = carries.no_stray;
      missing = λ tree told missing.
          let ended = carries.verdict tree told (λ n is. build_or_sample one_job words (length readers) missing.0 n missing.1 is) in
          unverdicted words (length readers) tree ended.0 sink sink' lines between (none_missing one_job words (length readers) tree missing) end ended.2;
      verdict = λ tree told none. (let ended = carries.verdict tree told none in (ended.0, ended.1, (between, ended.2, tries)));
      sample = λ n is. (let samples = carries.sample n is in record { readers_stay = samples.readers_stay; sink_stays = samples.sink_stays; ends = (between, samples.ends, tries) });
    }
