-- What is reported of what a build comes to.
use Rattle.std.proofs.Common.{◌≡◌, ℕ, List, Ok, Err, refl, sym, subst}
use Rattle.std.specs.Prelude.{Result}
use Rattle.outside.specs.Views.{SinkView}
use Rattle.outside.specs.declared.asset_sink.Asset.{Asset}
use Rattle.outside.specs.declared.outside_end.OutsideEnd.{OutsideEnd}
use Rattle.pack_run.specs.declared.end.End.{End}
use Rattle.pack_run.specs.declared.verdict.Verdict.{Verdict}
use Rattle.pack_run.specs.inner.Conclusion.{Concludes, ReportsOf, end_without}

pub reported : (sink sink' : SinkView Asset) (lines lines' : SinkView (List ℕ)) (decided : Result Verdict OutsideEnd) (verdict : Verdict) (end : End) → decided ≡ Ok verdict → ReportsOf verdict sink sink' lines lines' end → Concludes decided sink sink' lines lines' end
reported sink sink' lines lines' decided verdict end is reports = subst (λ (decided : Result Verdict OutsideEnd). Concludes decided sink sink' lines lines' end) (sym is) reports

-- nothing is reported
pub ended : (sink : SinkView Asset) (lines : SinkView (List ℕ)) (decided : Result Verdict OutsideEnd) (by : OutsideEnd) (end : End) → decided ≡ Err by → end ≡ end_without by → Concludes decided sink sink lines lines end
ended sink lines decided by end is same =
    subst (λ (decided : Result Verdict OutsideEnd). Concludes decided sink sink lines lines end) (sym is) (record { end_is = same; sink_stays = refl; lines_stay = refl })
