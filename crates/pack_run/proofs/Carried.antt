-- What the words leave that are no build's, and those that memory ran out for.
use Rattle.std.proofs.Common.{◌≡◌, ℕ, List, [], length, inl, inr, refl, subst}
use Rattle.std.proofs.lemmas.List.Sorted.{IsPermutation-refl}
use Rattle.outside.specs.Cause.{Rose}
use Rattle.outside.specs.Views.{ReaderView, SinkView}
use Rattle.outside.specs.declared.asset_sink.Asset.{Asset}
use Rattle.pack_run.specs.Accepted.{IsRefused, IsSample}
use Rattle.pack_run.specs.Report.{Leaves, MayEnd}
use Rattle.pack_run.specs.Sample.{EndsSample}
use Rattle.pack_run.specs.declared.end.End.{End}
use Rattle.pack_run.specs.declared.end.End.TheVariants.{LineFault, NoMemory, ReadFault, Usage, WriteFault}
use Rattle.pack_run.specs.declared.verdict.Verdict.TheVariants as verdicts
use Rattle.pack_run.specs.inner.Carried.{Carries}
use Rattle.pack_run.specs.inner.Conclusion.{ReportsOf}
use Rattle.pack_run.specs.inner.First.{AreReaders}
use Rattle.pack_run.proofs.Ends.{ends_by, never_read_fault, nothing_at, nothing_by, usage_ends}
use Rattle.pack_run.proofs.Jobs.{OneJob, one_sample, refused_sample}
use Rattle.pack_run.proofs.Readers.{AllZip-itself, logs_none, strays_none}

module _ {R : Type 0} (follows : R → R → Type 0) (view : R → ReaderView) (are : AreReaders follows view) (words : List (List ℕ)) (readers : List R) (sink : SinkView Asset) (lines : SinkView (List ℕ)) where
  -- memory ran out for the words
  pub unread : Carries follows view words readers readers sink sink lines lines NoMemory
  unread = record {
    follow = AllZip-itself follows are.itself readers;
    read_cause = λ at. cc;
    write_cause = λ at. cc;
    line_cause = λ at. cc;
    usage = record { only = λ at. cc; refused = λ refused. inr (inr refl) };
    nothing_put = tt;
    no_stray = λ tree told there. strays_none view readers;
    verdict = λ tree told none. ([], logs_none view readers, inl (record { config = inl refl }, refl, refl));
    sample = λ n is. record { readers_stay = refl; sink_stays = refl; ends = inl refl };
  }

  module _ (lines' : SinkView (List ℕ)) (end : End) where
    -- words that are refused
    pub refused : (sink' : SinkView Asset) → IsRefused words (length readers) → ReportsOf verdicts.Usage sink sink' lines lines' end → Carries follows view words readers readers sink sink' lines lines' end
    refused sink' not reports = record {
      follow = AllZip-itself follows are.itself readers;
      read_cause = λ at. absurd (never_read_fault verdicts.Usage (subst (MayEnd verdicts.Usage) at reports.may_end));
      write_cause = reports.write_cause;
      line_cause = reports.line_cause;
      usage = record { only = λ at. not; refused = λ again. usage_ends end reports.may_end };
      nothing_put = nothing_by verdicts.Usage end (Leaves sink sink') reports.may_end reports.nothing;
      no_stray = λ tree told there. strays_none view readers;
      verdict = λ tree told none. (
        [],
        logs_none view readers,
        ends_by words (length readers) tree [] sink sink' lines lines' end verdicts.Usage [] (inl (not, record { verdict_is = refl; paths_are = refl }))
            (record { config = inl (not, refl); modules = IsPermutation-refl [] }) reports.reports,
      );
      sample = λ n is. absurd (refused_sample words (length readers) n not is);
    }

    -- a sample, which has no such end
    never : (n : ℕ) (other : End) → (EndsSample n lines lines' other → ⊥) → EndsSample n lines lines' end → end ≡ other → ⊥
    never n other none ends at = none (subst (EndsSample n lines lines') at ends)

    pub sampled : (one_job : OneJob) (n : ℕ) → IsSample words (length readers) n → EndsSample n lines lines' end → (end ≡ LineFault → Rose lines.faults lines'.faults) → Carries follows view words readers readers sink sink lines lines' end
    sampled one_job n is ends cause = record {
      follow = AllZip-itself follows are.itself readers;
      read_cause = λ at. absurd (never n ReadFault (λ none. none) ends at);
      write_cause = λ at. absurd (never n WriteFault (λ none. none) ends at);
      line_cause = cause;
      usage = record {
        only = λ at. absurd (never n Usage (λ none. none) ends at);
        refused = λ not. absurd (refused_sample words (length readers) n not is);
      };
      nothing_put = nothing_at end (Leaves sink sink) refl;
      no_stray = λ tree told there. strays_none view readers;
      verdict = λ tree told none. absurd (none n is);
      sample = λ other also. record {
        readers_stay = refl;
        sink_stays = refl;
        ends = subst (λ n. EndsSample n lines lines' end) (one_sample one_job words (length readers) n other is also) ends;
      };
    }
