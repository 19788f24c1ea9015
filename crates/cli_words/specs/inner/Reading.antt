-- What words ask for, as it is read (this project). proofs/Jobs.antt shows that it is what specs/Words.antt says.
use Rattle.std.specs.Prelude.{ℕ, Bool, ◌&&◌, List, [], ◌∷◌, length, codes, bytes_eq, nat_le, Result, Ok, Err, Option, Some, None, option_map, option_and_then, if◌then◌else◌}
use Rattle.std.specs.Str.{all_ascii_digits}
use Rattle.std.specs.Str.Parse.{digits_value}
use Rattle.path_text.specs.Path.{normal_of}
use Rattle.path_text.specs.declared.path_end.PathEnd.{PathEnd}
use Rattle.cli_words.specs.Words.{IsJob, Word}
use Rattle.cli_words.specs.declared.job.Job.{Job}
use Rattle.cli_words.specs.declared.job.Job.TheVariants.{Build, Sample}

abbrev pub has_digits : Word → Bool
has_digits word = nat_le 1 (length word) && nat_le (length word) 9 && all_ascii_digits word

abbrev pub within : ℕ → ℕ → ℕ → Option ℕ
within low high number = if nat_le low number && nat_le number high then Some number else None

abbrev pub number_within : ℕ → ℕ → Word → Option ℕ
number_within low high word = if has_digits word then within low high (digits_value 10 word) else None

abbrev pub workers_in : Option Word → Option (Option ℕ)
workers_in None = Some None
workers_in (Some value) = option_map (λ number. Some number) (number_within 1 32 value)

abbrev pub build_at : Option ℕ → Result Word PathEnd → Option Job
build_at workers (Ok []) = None
build_at workers (Ok (byte ∷ bytes)) = Some (Build (byte ∷ bytes) workers)
build_at workers (Err end) = None

abbrev pub build_of : Word → Option ℕ → Option Job
build_of word workers = build_at workers (normal_of word)

abbrev pub sample_of : Word → Option ℕ → Option Job
sample_of word workers = option_map (λ n. Sample n workers) (number_within 1 20_000 word)

abbrev pub named_job : Word → Word → Option ℕ → Option Job
named_job command word workers =
    if bytes_eq command (codes "build") then build_of word workers
    else (if bytes_eq command (codes "sample") then sample_of word workers else None)

-- what is asked for with this one positional word and this value of `--workers`
abbrev pub job_with : Word → Word → Option Word → Option Job
job_with command word value = option_and_then (named_job command word) (workers_in value)

-- the words ask for this job, or for none
abbrev pub AnswersJob : List Word → Option Job → Type 0
AnswersJob words (Some job) = IsJob words job
AnswersJob words None = (job : Job) → IsJob words job → ⊥
