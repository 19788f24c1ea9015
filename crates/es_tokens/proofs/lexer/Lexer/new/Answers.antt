use Rattle.std.proofs.Common.{ℕ, ◌≡◌, ◌∙◌, List, [], ap}
use Rattle.es_tokens.specs.Answers.{answers_of}
use Rattle.es_tokens.specs.Context.{context_of}
use Rattle.es_tokens.specs.inner.Left.{left_of}
use Rattle.es_tokens.proofs.AnswerLemmas.{left-all, not-utf8, made-of}
use Rattle.es_tokens.proofs.lexer.Lexer.new.Goals as goal

pub returns-in-Ok : goal.returns-in-Ok
returns-in-Ok c =
    let most = c.args.most_depth in
    let e : left_of most c.in-Ok.text.now (context_of [] []) 0 c.in-Ok.text.now ≡ answers_of most c.args.text.now =
    ap (λ (text : List ℕ). left_of most text (context_of [] []) 0 text) c.in-Ok.ensures.cases.0 ∙ left-all most c.args.text.now c.in-Ok.ensures.cases.1 in
    made-of c.start.result _ _ e c.start.ensures

pub returns-in-Err : goal.returns-in-Err
returns-in-Err c =
    let offset = c.valid_up_to.ensures ∙ c.in-Err.ensures.valid_len in
    made-of c.start-in-Err.result _ _ (rw offset (not-utf8 c.args.most_depth c.args.text.now c.in-Err.ensures.cases.0)) c.start-in-Err.ensures
