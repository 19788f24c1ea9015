use Rattle.std.proofs.Common.{◌∙◌, map, string_bytes, Err, ap, subst}
use Rattle.std.proofs.lemmas.Result.{err_from_is_err_and}
use Rattle.cli_words.specs.Words.{IsJob}
use Rattle.cli_words.specs.declared.words_end.WordsEnd.{WordsEnd}
use Rattle.pack_run.proofs.Tasks.{refused_build, refused_sample}
use Rattle.pack_run.proofs.accept.accept.Goals as goal

pub returns-in_err-workers-in-Build-clause-answer : goal.returns-in_err-workers-in-Build-clause-answer
returns-in_err-workers-in-Build-clause-answer c =
    let words = map string_bytes c.args.words.now in
    let p = err_from_is_err_and c.from_residual-in_err-workers-in-Build.result c.from_residual-in_err-workers-in-Build.ensures.1 in
    refused_build c.one_job.ensures words c.args.readers c.manned.result c.in_err-workers-in-Build.field-0.0 c.from_residual-in_err-workers-in-Build.result
    c.in_err-workers-in-Build.was (p.1 ∙ ap (λ (end : WordsEnd). Err end) p.2) c.in-Build.config c.in-Build.workers
    (subst (IsJob words) c.in-Build.is c.in_ok-config.ensures) c.manned.ensures

pub returns-in_err-workers-in-Sample-clause-answer : goal.returns-in_err-workers-in-Sample-clause-answer
returns-in_err-workers-in-Sample-clause-answer c =
    let words = map string_bytes c.args.words.now in
    let p = err_from_is_err_and c.from_residual-in_err-workers-in-Sample.result c.from_residual-in_err-workers-in-Sample.ensures.1 in
    refused_sample c.one_job.ensures words c.args.readers c.manned-in-Sample.result c.in_err-workers-in-Sample.field-0.0 c.from_residual-in_err-workers-in-Sample.result
    c.in_err-workers-in-Sample.was (p.1 ∙ ap (λ (end : WordsEnd). Err end) p.2) c.in-Sample.n c.in-Sample.workers
    (subst (IsJob words) c.in-Sample.is c.in_ok-config.ensures) c.manned-in-Sample.ensures
