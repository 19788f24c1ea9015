-- What words ask for where there are readers for its workers (this project).
use Rattle.std.specs.Prelude.{◌≡◌, ℕ, ◌≤◌, ◌<◌, List, Option, Result, Ok, Err, min, unwrap_or}
use Rattle.cli_words.specs.declared.words_end.WordsEnd.{WordsEnd}
use Rattle.cli_words.specs.declared.words_end.WordsEnd.TheVariants.{NoMemory, Usage}
use Rattle.pack_run.specs.Accepted.{IsBuild, IsRefused, IsSample}
use Rattle.pack_run.specs.declared.task.Task.{Task}
use Rattle.pack_run.specs.declared.task.Task.TheVariants.{Build, Sample}

abbrev pub IsTask : List (List ℕ) → ℕ → Task → Type 0
IsTask words readers (Build config workers) = IsBuild words readers config
IsTask words readers (Sample n workers) = IsSample words readers n

-- a task that the words ask for, or usage exactly where they are refused
abbrev pub AnswersTask : List (List ℕ) → ℕ → Result Task WordsEnd → Type 0
AnswersTask words readers (Ok task) = IsTask words readers task
AnswersTask words readers (Err Usage) = IsRefused words readers
AnswersTask words readers (Err NoMemory) = Unit {0}

-- at least one worker, and no more than there may be and there are readers
pub record AreManned (readers workers : ℕ) : Type 0 where
  pub some : 1 ≤ workers
  pub few : workers ≤ 32
  pub manned : workers ≤ readers

-- a task is done by workers that are so many, and a sample is one that there is
abbrev pub IsManned : ℕ → Task → Type 0
IsManned readers (Build config workers) = AreManned readers workers
IsManned readers (Sample n workers) = AreManned readers workers × (1 ≤ n) × (n ≤ 20_000)

-- so many workers as are asked for, or the usual number, where there are readers for them
abbrev pub AnswersWorkers : Option ℕ → ℕ → Result ℕ WordsEnd → Type 0
AnswersWorkers asked readers (Ok workers) = (workers ≡ unwrap_or asked (min 4 readers)) × (workers ≤ readers)
AnswersWorkers asked readers (Err end) = (end ≡ Usage) × (readers < unwrap_or asked (min 4 readers))
