use Rattle.std.proofs.Common.{◌≡◌, ◌⊎◌}
use Rattle.pack_run.specs.WithinLimits.{IsLimit}
use Rattle.pack_run.proofs.Uniqueness.{Laws, both_verdicts, one_or_limits, one_within}
use Rattle.pack_run.proofs.laws.one_verdict.Goals as goal

pub returns-clause-within : goal.returns-clause-within
returns-clause-within c = λ words readers tree one other paths others none.
    let laws : Laws = record { jobs = c.one_job.ensures; config = c.one_configuration_or_one_fault.ensures; readings = c.one_record.ensures.only; graph = c.one_graph.ensures; seal = c.one_outcome.ensures } in
    both_verdicts laws words readers tree one other paths others (one ≡ other) (one_within words readers tree one other none)

pub returns-clause-or_limits : goal.returns-clause-or_limits
returns-clause-or_limits c = λ words readers tree one other paths others.
    let laws : Laws = record { jobs = c.one_job.ensures; config = c.one_configuration_or_one_fault.ensures; readings = c.one_record.ensures.only; graph = c.one_graph.ensures; seal = c.one_outcome.ensures } in
    both_verdicts laws words readers tree one other paths others ((one ≡ other) ⊎ (IsLimit one × IsLimit other)) (one_or_limits words readers tree one other)
