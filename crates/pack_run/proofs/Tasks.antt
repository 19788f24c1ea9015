-- What words ask for, where there are readers for its workers.
use Rattle.std.proofs.Common.{◌≡◌, ℕ, ◌≤◌, List, Some, None, Err, refl, sym, subst, ap, ◌∙◌, arith}
use Rattle.std.proofs.Math.Nat.{min-le_left, le-min}
use Rattle.std.specs.Prelude.{Option, Result, min, unwrap_or}
use Rattle.cli_words.specs.Words.{AreWorkers, IsJob}
use Rattle.cli_words.specs.declared.job.Job.{Job}
use Rattle.cli_words.specs.declared.job.Job.TheVariants as jobs
use Rattle.cli_words.specs.declared.words_end.WordsEnd.{WordsEnd}
use Rattle.pack_run.specs.Accepted.{HasReaders, IsRefused, workers_in}
use Rattle.pack_run.specs.declared.task.Task.{Task}
use Rattle.pack_run.specs.inner.Tasks.{AnswersTask, AnswersWorkers, AreManned}
use Rattle.pack_run.proofs.Jobs.{OneJob}

usual_some : (readers : ℕ) → 1 ≤ readers → 1 ≤ min 4 readers
usual_some readers some = le-min (omega arith) some

usual_few : (readers : ℕ) → min 4 readers ≤ 32
usual_few readers = let few = min-le_left 4 readers in omega (arith, few)

-- as many workers as the option's value says, or the usual number
pub are_manned : (readers workers : ℕ) (values : List (List ℕ)) (asked : Option ℕ) → 1 ≤ readers → AreWorkers values asked → workers ≡ unwrap_or asked (min 4 readers) → workers ≤ readers → AreManned readers workers
are_manned readers workers values None some are is few =
    record { some = subst (λ n. 1 ≤ n) (sym is) (usual_some readers some); few = subst (λ n. n ≤ 32) (sym is) (usual_few readers); manned = few }
are_manned readers workers values (Some number) some are is few =
    record { some = subst (λ n. 1 ≤ n) (sym is) are.2.at_least; few = subst (λ n. n ≤ 32) (sym is) are.2.at_most; manned = few }

-- where there are too few readers for the one job of the words, they are refused
pub too_few : OneJob → (words : List (List ℕ)) (readers : ℕ) (job : Job) → IsJob words job → (HasReaders readers job → ⊥) → IsRefused words readers
too_few one_job words readers job is few other accepted = few (subst (HasReaders readers) (one_job words other job accepted.0 is) accepted.1)

module _ (one_job : OneJob) (words : List (List ℕ)) (readers : ℕ) (manned : Result ℕ WordsEnd) (end : WordsEnd) (result : Result Task WordsEnd) (fails : manned ≡ Err end) (is : result ≡ Err end) where
  by_refusal : (job : Job) (asked : Option ℕ) → IsJob words job → workers_in readers job ≡ unwrap_or asked (min 4 readers) → AnswersWorkers asked readers manned → AnswersTask words readers result
  by_refusal job asked named same answers =
      let few : AnswersWorkers asked readers (Err end) = subst (AnswersWorkers asked readers) fails answers in
      let refused = too_few one_job words readers job named (λ has. (let less : workers_in readers job ≤ readers = has in let more = few.1 in omega (arith, less, more, same))) in
      subst (AnswersTask words readers) (sym (is ∙ ap (λ (end : WordsEnd). Err end) few.0)) refused

  pub refused_build : (config : List ℕ) (asked : Option ℕ) → IsJob words (jobs.Build config asked) → AnswersWorkers asked readers manned → AnswersTask words readers result
  refused_build config asked named answers = by_refusal (jobs.Build config asked) asked named refl answers

  pub refused_sample : (n : ℕ) (asked : Option ℕ) → IsJob words (jobs.Sample n asked) → AnswersWorkers asked readers manned → AnswersTask words readers result
  refused_sample n asked named answers = by_refusal (jobs.Sample n asked) asked named refl answers
