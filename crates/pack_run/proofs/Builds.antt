-- What a build leaves, from what it comes to and what is reported of it.
use Rattle.std.proofs.Common.{◌≡◌, ℕ, List, length, inl, inr, refl, sym, ap, subst}
use Rattle.std.specs.Prelude.{IfOk, IsErrOf, Result, Ok, Err}
use Rattle.outside.specs.Cause.{Rose}
use Rattle.outside.specs.Logs.{is_config, paths_for}
use Rattle.outside.specs.Tree.{Tree, bytes_at}
use Rattle.outside.specs.Views.{ReaderView, SinkView}
use Rattle.outside.specs.declared.asset_sink.Asset.{Asset}
use Rattle.outside.specs.declared.entry.Why.{Why}
use Rattle.outside.specs.declared.outside_end.OutsideEnd.{OutsideEnd}
use Rattle.outside.specs.declared.outside_end.OutsideEnd.TheVariants as outside
use Rattle.pack_run.specs.Accepted.{IsBuild}
use Rattle.pack_run.specs.End.{OnNothingPut}
use Rattle.pack_run.specs.Reads.{ReadsInPart}
use Rattle.pack_run.specs.Report.{IsOfBuild, Leaves, MayEnd}
use Rattle.pack_run.specs.Run.{Ends}
use Rattle.pack_run.specs.Verdict.{IsTextVerdict}
use Rattle.pack_run.specs.declared.end.End.{End}
use Rattle.pack_run.specs.declared.end.End.TheVariants.{LineFault, ReadFault, Usage, WriteFault}
use Rattle.pack_run.specs.declared.verdict.Verdict.{Verdict}
use Rattle.pack_run.specs.inner.Carried.{Carries}
use Rattle.pack_run.specs.inner.Conclusion.{Concludes}
use Rattle.pack_run.specs.inner.Decision.{Decides, DecidesAt, ReadsConfig, ReadsFor}
use Rattle.pack_run.proofs.Ends.{ends_by, never_read_fault, nothing_by, usage_only}
use Rattle.pack_run.proofs.Jobs.{OneJob, build_or_sample, is_there, refused_build}

-- ---- the causes

module _ (sink sink' : SinkView Asset) (lines lines' : SinkView (List ℕ)) (end : End) where
  read_failed : (decided : Result Verdict OutsideEnd) → Concludes decided sink sink' lines lines' end → end ≡ ReadFault → IsErrOf decided outside.Failed
  read_failed (Ok verdict) concludes at = absurd (never_read_fault verdict (subst (MayEnd verdict) at concludes.may_end))
  read_failed (Err outside.Failed) concludes at = refl
  read_failed (Err outside.NoMemory) concludes at = let is = concludes.end_is in cc

  write_failed : (decided : Result Verdict OutsideEnd) → Concludes decided sink sink' lines lines' end → end ≡ WriteFault → Rose sink.faults sink'.faults
  write_failed (Ok verdict) concludes at = concludes.write_cause at
  write_failed (Err outside.Failed) concludes at = let is = concludes.end_is in cc
  write_failed (Err outside.NoMemory) concludes at = let is = concludes.end_is in cc

  line_failed : (decided : Result Verdict OutsideEnd) → Concludes decided sink sink' lines lines' end → end ≡ LineFault → Rose lines.faults lines'.faults
  line_failed (Ok verdict) concludes at = concludes.line_cause at
  line_failed (Err outside.Failed) concludes at = let is = concludes.end_is in cc
  line_failed (Err outside.NoMemory) concludes at = let is = concludes.end_is in cc

  never_usage : (decided : Result Verdict OutsideEnd) → IfOk decided IsOfBuild → Concludes decided sink sink' lines lines' end → end ≡ Usage → ⊥
  never_usage (Ok verdict) build concludes at = subst IsOfBuild (usage_only verdict end concludes.may_end at) build
  never_usage (Err outside.Failed) build concludes at = let is = concludes.end_is in cc
  never_usage (Err outside.NoMemory) build concludes at = let is = concludes.end_is in cc

  put_nothing : (decided : Result Verdict OutsideEnd) → Concludes decided sink sink' lines lines' end → OnNothingPut end (Leaves sink sink')
  put_nothing (Ok verdict) concludes = nothing_by verdict end (Leaves sink sink') concludes.may_end concludes.nothing
  put_nothing (Err outside.Failed) concludes = subst (λ end. OnNothingPut end (Leaves sink sink')) (sym concludes.end_is) (ap (λ (view : SinkView Asset). view.held) concludes.sink_stays)
  put_nothing (Err outside.NoMemory) concludes = subst (λ end. OnNothingPut end (Leaves sink sink')) (sym concludes.end_is) tt

-- ---- the end

module _ (words : List (List ℕ)) (readers : ℕ) (config : List ℕ) (names : IsBuild words readers config) where
  in_part : (reads : List (List ℕ × Why)) (end : OutsideEnd) → ReadsConfig config (Err end) (paths_for is_config reads) → ReadsInPart words readers reads
  in_part reads end (inl none) = record { config = inl none }
  in_part reads end (inr one) = record { config = inr (inr (config, names, one)) }

  module _ (tree : Tree) (reads : List (List ℕ × Why)) (sink sink' : SinkView Asset) (lines lines' : SinkView (List ℕ)) (end : End) where
    ends_of : (decided : Result Verdict OutsideEnd) → ReadsConfig config decided (paths_for is_config reads) → ReadsFor (IsTextVerdict tree config (bytes_at tree config)) tree decided reads
        → Concludes decided sink sink' lines lines' end → Ends words readers tree reads sink sink' lines lines' end
    ends_of (Ok verdict) configs modules concludes =
        ends_by words readers tree reads sink sink' lines lines' end verdict modules.0 (inr (config, names, modules.1))
        (record { config = inr (config, names, configs); modules = modules.2 }) concludes.reports
    ends_of (Err outside.Failed) configs modules concludes =
        subst (Ends words readers tree reads sink sink' lines lines') (sym concludes.end_is)
        (in_part reads outside.Failed configs, modules, ap (λ (view : SinkView Asset). view.held) concludes.sink_stays, ap (λ (view : SinkView (List ℕ)). view.held) concludes.lines_stay)
    ends_of (Err outside.NoMemory) configs modules concludes =
        subst (Ends words readers tree reads sink sink' lines lines') (sym concludes.end_is)
        (inl (in_part reads outside.NoMemory configs, ap (λ (view : SinkView Asset). view.held) concludes.sink_stays, ap (λ (view : SinkView (List ℕ)). view.held) concludes.lines_stay))

-- what a build leaves
pub built : {R : Type 0} (follows : R → R → Type 0) (view : R → ReaderView) (one_job : OneJob) (words : List (List ℕ)) (readers readers' : List R) (sink sink' : SinkView Asset) (lines lines' : SinkView (List ℕ)) (end : End)
    (config : List ℕ) (decided : Result Verdict OutsideEnd) → IsBuild words (length readers) config → IfOk decided IsOfBuild
    → Decides follows view readers readers' decided (λ tree. DecidesAt view config tree readers readers' decided)
    → Concludes decided sink sink' lines lines' end
    → Carries follows view words readers readers' sink sink' lines lines' end
built follows view one_job words readers readers' sink sink' lines lines' end config decided names build decides concludes = record {
  follow = decides.follow;
  read_cause = λ at. decides.cause (read_failed sink sink' lines lines' end decided concludes at);
  write_cause = write_failed sink sink' lines lines' end decided concludes;
  line_cause = line_failed sink sink' lines lines' end decided concludes;
  usage = record {
    only = λ at. absurd (never_usage sink sink' lines lines' end decided build concludes at);
    refused = λ refused. absurd (refused_build words (length readers) config refused names);
  };
  nothing_put = put_nothing sink sink' lines lines' end decided concludes;
  no_stray = λ tree told there. (decides.told tree told).no_stray (is_there words (length readers) tree config names there);
  verdict = λ tree told none.
      let at = (decides.told tree told).reads in
      (at.0, at.1, ends_of words (length readers) config names tree at.0 sink sink' lines lines' end decided at.2 at.3 concludes);
  sample = λ n also. absurd (build_or_sample one_job words (length readers) config n names also);
}
