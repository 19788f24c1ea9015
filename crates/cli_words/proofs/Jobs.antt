-- What is read from words is what they ask for.
use Rattle.std.proofs.Common.{◌≡◌, ℕ, Bool, true, false, cond, List, [], ◌∷◌, codes, drop, bytes_eq, Option, Some, None, option_map, option_and_then, Result, Ok, Err, refl, sym, ap, subst, ◌∙◌}
use Rattle.std.proofs.lemmas.Slice.Eq.{bytes_eq-Decides}
use Rattle.std.specs.Option.{option_to_list}
use Rattle.path_text.specs.Path.{normal_of}
use Rattle.path_text.specs.declared.path_end.PathEnd.{PathEnd}
use Rattle.cli_words.specs.Numbers.{IsNumber}
use Rattle.cli_words.specs.Words.{AreWorkers, Gives, IsCommand, IsFilePath, IsJob, Word}
use Rattle.cli_words.specs.inner.Arguments.{AnswersArguments}
use Rattle.cli_words.specs.inner.Reading.{AnswersJob, build_at, build_of, job_with, named_job, number_within, sample_of, workers_in}
use Rattle.cli_words.specs.declared.job.Job.{Job}
use Rattle.cli_words.specs.declared.job.Job.TheVariants.{Build, Sample}
use Rattle.cli_words.proofs.Lines.{gives_taken}
use Rattle.cli_words.proofs.Numbers.{is_number, number_read, some_same}

-- ---- what words ask for is read

build_read : (path word : Word) (number : Option ℕ) → IsFilePath path word → build_of word number ≡ Some (Build path number)
build_read [] word number is = absurd (is.1 refl)
build_read (byte ∷ bytes) word number is = ap (build_at number) is.0

-- what a job's words give, and that it is read from them
record Reads (words : List Word) (job : Job) : Type 0 where
  pub command : Word
  pub rest : List Word
  pub word : Word
  pub value : Option Word
  pub number : Option ℕ
  pub words_are : words ≡ command ∷ rest
  pub gives : Gives rest (word ∷ []) (option_to_list value)
  pub workers : AreWorkers (option_to_list value) number
  pub job_is : job_with command word value ≡ Some job

-- the value of `--workers`, where there is one
workers_given : (values : List Word) (number : Option ℕ) → AreWorkers values number → (value : Option Word) × (values ≡ option_to_list value) × (workers_in value ≡ Some number)
workers_given values None is = (None, is, refl)
workers_given values (Some number) is = (Some is.0, is.1, ap (option_map (λ n. Some n)) (number_read 1 32 is.0 number is.2))

module _ (name : Word) (Is : Word → Type 0) (number : Option ℕ) (words : List Word) (is : IsCommand name Is number words) (job : Job) where
  command_reads : named_job name is.word number ≡ Some job → Reads words job
  command_reads asked =
      let given = workers_given is.values number is.workers_are in
      record {
        command = name;
        rest = is.rest;
        word = is.word;
        value = given.0;
        number = number;
        words_are = is.named;
        gives = subst (λ vs. Gives is.rest (is.word ∷ []) vs) given.1 is.gives;
        workers = subst (λ vs. AreWorkers vs number) given.1 is.workers_are;
        job_is = ap (option_and_then (named_job name is.word)) given.2 ∙ asked;
      }

reads : (words : List Word) (job : Job) → IsJob words job → Reads words job
reads words (Build config number) is = command_reads (codes "build") (IsFilePath config) number words is (Build config number) (build_read config is.word number is.word_is)
reads words (Sample n number) is =
    command_reads (codes "sample") (λ word. IsNumber 1 20_000 word n) number words is (Sample n number)
    (ap (option_map (λ m. Sample m number)) (number_read 1 20_000 is.word n is.word_is))

-- ---- words give one word and one value

abbrev first_or : Word → List Word → Word
first_or word [] = word
first_or word (first ∷ rest) = first

same_value : (one other : Option Word) → option_to_list one ≡ option_to_list other → one ≡ other
same_value None None e = refl
same_value None (Some other) e = absurd (cc)
same_value (Some one) None e = absurd (cc)
same_value (Some one) (Some other) e = ap (λ words. Some (first_or one words)) e

module _ (command : Word) (rest : List Word) (word : Word) (value : Option Word) (gives : Gives rest (word ∷ []) (option_to_list value)) (job : Job) where
  job_read : Reads (command ∷ rest) job → job_with command word value ≡ Some job
  job_read read =
      let same_rest : rest ≡ read.rest = ap (drop 1) read.words_are in
      let one = gives_taken rest (word ∷ []) (option_to_list value) gives in
      let other = gives_taken rest (read.word ∷ []) (option_to_list read.value) (subst (λ words. Gives words (read.word ∷ []) (option_to_list read.value)) (sym same_rest) read.gives) in
      let same_word : word ≡ read.word = ap (first_or word) (sym one.positionals ∙ other.positionals) in
      ap (λ name. job_with name word value) (ap (first_or command) read.words_are)
      ∙ ap (λ w. job_with read.command w value) same_word
      ∙ ap (job_with read.command read.word) (same_value value read.value (sym one.values ∙ other.values))
      ∙ read.job_is

-- ---- what is read is what they ask for

by_number : (value : Word) (found number : Option ℕ) → number_within 1 32 value ≡ found → option_map (λ n. Some n) found ≡ Some number → AreWorkers (value ∷ []) number
by_number value None number is e = absurd (cc)
by_number value (Some n) number is e = subst (AreWorkers (value ∷ [])) (some_same (Some n) number e) (value, refl, is_number 1 32 value n is)

are_workers : (value : Option Word) (number : Option ℕ) → workers_in value ≡ Some number → AreWorkers (option_to_list value) number
are_workers None number e = subst (AreWorkers []) (some_same None number e) refl
are_workers (Some value) number e = by_number value (number_within 1 32 value) number refl e

module _ (command : Word) (rest : List Word) (word : Word) (values : List Word) (number : Option ℕ) (gives : Gives rest (word ∷ []) values) (workers : AreWorkers values number) where
  abbrev Asks : Word → Job → Type 0
  Asks name job = IsJob (name ∷ rest) job

  built : (name : Word) (result : Result Word PathEnd) (job : Job) → normal_of word ≡ result → build_at number result ≡ Some job → Asks (codes "build") job
  built name (Ok []) job is e = absurd (cc)
  built name (Ok (byte ∷ bytes)) job is e =
      subst (Asks (codes "build")) (some_same (Build (byte ∷ bytes) number) job e) (record {
        rest = rest;
        word = word;
        values = values;
        named = refl;
        gives = gives;
        word_is = (is, λ none. absurd (cc));
        workers_are = workers;
      })
  built name (Err end) job is e = absurd (cc)

  sampled : (found : Option ℕ) (job : Job) → number_within 1 20_000 word ≡ found → option_map (λ n. Sample n number) found ≡ Some job → Asks (codes "sample") job
  sampled None job is e = absurd (cc)
  sampled (Some n) job is e =
      subst (Asks (codes "sample")) (some_same (Sample n number) job e) (record {
        rest = rest;
        word = word;
        values = values;
        named = refl;
        gives = gives;
        word_is = is_number 1 20_000 word n is;
        workers_are = workers;
      })

  by_sample : (b : Bool) (job : Job) → bytes_eq command (codes "sample") ≡ b → cond b (sample_of word number) None ≡ Some job → Asks command job
  by_sample true job is e = subst (λ name. Asks name job) (sym ((bytes_eq-Decides command (codes "sample")).0 is)) (sampled (number_within 1 20_000 word) job refl e)
  by_sample false job is e = absurd (cc)

  by_build : (b : Bool) (job : Job) → bytes_eq command (codes "build") ≡ b → cond b (build_of word number) (cond (bytes_eq command (codes "sample")) (sample_of word number) None) ≡ Some job → Asks command job
  by_build true job is e = subst (λ name. Asks name job) (sym ((bytes_eq-Decides command (codes "build")).0 is)) (built command (normal_of word) job refl e)
  by_build false job is e = by_sample (bytes_eq command (codes "sample")) job refl e

  named : (job : Job) → named_job command word number ≡ Some job → Asks command job
  named job e = by_build (bytes_eq command (codes "build")) job refl e

module _ (command : Word) (rest : List Word) (word : Word) (value : Option Word) (gives : Gives rest (word ∷ []) (option_to_list value)) where
  by_workers : (number : Option (Option ℕ)) (job : Job) → workers_in value ≡ number → option_and_then (named_job command word) number ≡ Some job → IsJob (command ∷ rest) job
  by_workers None job is e = absurd (cc)
  by_workers (Some number) job is e = named command rest word (option_to_list value) number gives (are_workers value number is) job e

  by_job : (found : Option Job) → job_with command word value ≡ found → AnswersJob (command ∷ rest) found
  by_job (Some job) e = by_workers (workers_in value) job refl e
  by_job None e = λ job is.
      let bad = sym e ∙ job_read command rest word value gives job (reads (command ∷ rest) job is) in
      cc

  pub answers_given : AnswersJob (command ∷ rest) (job_with command word value)
  answers_given = by_job (job_with command word value) refl

-- ---- words that give nothing that a command may have

pub answers_none : (command : Word) (rest : List Word) → AnswersArguments rest None → AnswersJob (command ∷ rest) None
answers_none command rest none = λ job is.
    let read = reads (command ∷ rest) job is in
    let same_rest : rest ≡ read.rest = ap (drop 1) read.words_are in
    none read.word (option_to_list read.value) read.number (subst (λ words. Gives words (read.word ∷ []) (option_to_list read.value)) (sym same_rest) read.gives) read.workers

-- ---- so there is one

pub one_job : (words : List Word) (one other : Job) → IsJob words one → IsJob words other → one ≡ other
one_job words one other is_one is_other =
    let read = reads words one is_one in
    let again = subst (λ given. Reads given other) read.words_are (reads words other is_other) in
    some_same one other (sym read.job_is ∙ job_read read.command read.rest read.word read.value read.gives other again)
