use Rattle.std.proofs.Common.{◌≡◌, ◌≤◌, ◌-◌, List, [], ◌∷◌, length, take, drop, get_or, map, String, string_bytes, None, ap, ap₂, sym, subst, ◌∙◌, arith}
use Rattle.std.proofs.lemmas.List.{take_all}
use Rattle.std.proofs.lemmas.Result.{IfOk-weaker}
use Rattle.std.specs.Prelude.{option_copied}
use Rattle.cli_words.specs.inner.Arguments.{AnswersArguments}
use Rattle.cli_words.specs.inner.Reading.{AnswersJob, job_with}
use Rattle.cli_words.proofs.Jobs.{answers_given, answers_none}
use Rattle.cli_words.proofs.reading.read_job.Goals as goal

-- words are the first and the rest
parts : {Z : Type 0} (words : List (String Z)) (first : String Z) → 1 ≤ length words → first ≡ get_or words 0 first →
    map string_bytes words ≡ string_bytes first ∷ map string_bytes (take (length words - 1) (drop 1 words))
parts [] first some is = absurd (omega (arith, some))
parts (word ∷ words) first some is = ap₂ (λ x xs. string_bytes x ∷ map string_bytes xs) (sym is) (sym (take_all (length (word ∷ words) - 1) words (omega arith)))

pub returns-in_default-2 : goal.returns-in_default-2
returns-in_default-2 c =
    let words = c.args.words.now in
    let rest = map string_bytes (take (length words - 1) (drop 1 words)) in
    let none = subst (AnswersArguments rest) c.in_default-2.is c.in_ok-arguments.ensures in
    subst (λ given. AnswersJob given None) (sym (parts words c.command-item.result c.in-len1-up.len_at_least c.command-item.is))
    (answers_none (string_bytes c.command-item.result) rest none)

pub returns : goal.returns
returns c =
    let words = c.args.words.now in
    let command = c.command-item.result in
    let arguments = c.in-Some.arguments in
    let rest = map string_bytes (take (length words - 1) (drop 1 words)) in
    let gives = subst (AnswersArguments rest) c.in-Some.is c.in_ok-arguments.ensures in
    let answer = answers_given (string_bytes command) rest arguments.word.now (option_copied arguments.workers) gives in
    let job_is = ap (λ name. job_with name arguments.word.now (option_copied arguments.workers)) c.as_str.ensures.value in
    IfOk-weaker c.job_with.result _ _
    (λ job e. subst (λ given. AnswersJob given job) (sym (parts words command c.in-len1-up.len_at_least c.command-item.is)) (subst (AnswersJob (string_bytes command ∷ rest)) (sym (e ∙ job_is)) answer))
    c.job_with.ensures
