use Rattle.std.proofs.Common.{◌≡◌, false, refl}
use Rattle.std.specs.Str.{is_utf8}
use Rattle.std.proofs.lemmas.Str.{is_utf8-from_IsUtf8, IsUtf8-from_is_utf8}
use Rattle.std.proofs.lemmas.Bool.{false_from_ne_true}
use Rattle.es_tokens.specs.Tokens.{tokens_of}
use Rattle.es_tokens.proofs.list.tokens.Goals as goal

pub returns-in-Ok : goal.returns-in-Ok
unfolding tokens_of
returns-in-Ok c =
    rw (is_utf8-from_IsUtf8 c.args.text.now c.in-Ok.ensures.cases.1) (rw c.in-Ok.ensures.cases.0 at c.all_tokens.ensures)

pub returns-in-Err : goal.returns-in-Err
unfolding tokens_of
returns-in-Err c =
    let text = c.args.text.now in
    let not_utf8 : is_utf8 text ≡ false = false_from_ne_true (is_utf8 text) (λ e. c.in-Err.ensures.cases.0 (IsUtf8-from_is_utf8 text e)) in
    rw (not_utf8, c.valid_up_to.ensures, c.in-Err.ensures.valid_len) refl
