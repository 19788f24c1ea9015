-- When the words of a command are carried out (this project): they are those of a job, and it has no more workers than there
-- are readers.
use Rattle.std.specs.Prelude.{ℕ, ◌≤◌, min, unwrap_or, List, Option}
use Rattle.cli_words.specs.Words.{IsJob}
use Rattle.cli_words.specs.declared.job.Job.{Job}
use Rattle.cli_words.specs.declared.job.Job.TheVariants.{Build, Sample}

-- how many workers a job has over so many readers: as many as it asks for, and else the lesser of 4 and that many
abbrev pub workers_in : ℕ → Job → ℕ
workers_in readers (Build config number) = unwrap_or number (min 4 readers)
workers_in readers (Sample n number) = unwrap_or number (min 4 readers)

abbrev pub HasReaders : ℕ → Job → Type 0
HasReaders readers job = workers_in readers job ≤ readers

abbrev pub IsAccepted : List (List ℕ) → ℕ → Job → Type 0
IsAccepted words readers job = IsJob words job × HasReaders readers job

-- the words are no job's, or it asks for more workers than there are readers
abbrev pub IsRefused : List (List ℕ) → ℕ → Type 0
IsRefused words readers = (job : Job) → IsAccepted words readers job → ⊥

-- the words ask for a build by the configuration at this path
abbrev pub IsBuild : List (List ℕ) → ℕ → List ℕ → Type 0
IsBuild words readers config = (number : Option ℕ) × IsAccepted words readers (Build config number)

-- the words ask for a sample of so many modules
abbrev pub IsSample : List (List ℕ) → ℕ → ℕ → Type 0
IsSample words readers n = (number : Option ℕ) × IsAccepted words readers (Sample n number)
