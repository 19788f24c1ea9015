-- Where nothing stands at any token, nothing is given.
use Rattle.std.proofs.Common.{◌≡◌, ℕ, suc, zero, Bool, true, false, cond, List, map, length, refl, sym, ap, ◌∙◌, add-one, append-nil}
use Rattle.es_tokens.specs.declared.token.Token.{Token}
use Rattle.form_shapes.specs.Standing.{standing_at, keyword_at, is_behind}
use Rattle.form_shapes.specs.declared.sign.Sign.TheVariants as sign
use Rattle.form_shapes.specs.declared.standing.Standing.{Standing}
use Rattle.form_shapes.specs.declared.standing.Standing.TheVariants.{Nothing}
use Rattle.es_scan.specs.Flaws.{fault_of_flaw}
use Rattle.es_scan.specs.Quiet.{IsQuiet, quiet_scan}
use Rattle.es_scan.specs.Scan.{scan_of}
use Rattle.es_scan.specs.inner.Given.{joined, given_upto}
use Rattle.es_scan.proofs.ScanLemmas.{given_more, nothing_here, same_given, shown}

no_keyword : (text : List ℕ) (tokens : List Token) (at : ℕ) → IsQuiet text tokens → keyword_at text tokens at ≡ Nothing
no_keyword text tokens at quiet = rw (quiet.imports at, quiet.exports at, quiet.requires at) refl

either : (b : Bool) (standing : Standing) → standing ≡ Nothing → cond b Nothing standing ≡ Nothing
either true standing e = refl
either false standing e = e

quiet_standing : (text : List ℕ) (tokens : List Token) (at : ℕ) → IsQuiet text tokens → standing_at text tokens at ≡ Nothing
unfolding standing_at
quiet_standing text tokens at quiet = either (is_behind text tokens sign.Member at) (keyword_at text tokens at) (no_keyword text tokens at quiet)

quiet_upto : (text : List ℕ) (tokens : List Token) (at : ℕ) → IsQuiet text tokens → given_upto text tokens at ≡ given_upto text tokens zero
quiet_upto text tokens zero quiet = refl
quiet_upto text tokens (suc at) quiet =
    ap (given_upto text tokens) (sym (add-one at)) ∙ sym (given_more text tokens at)
    ∙ ap (joined (given_upto text tokens at)) (nothing_here text tokens at (quiet_standing text tokens at quiet))
    ∙ same_given (given_upto text tokens at) ∙ quiet_upto text tokens at quiet

pub quiet_whole : (path text : List ℕ) (tokens : List Token) → IsQuiet text tokens → scan_of path text tokens ≡ quiet_scan text
unfolding scan_of
quiet_whole path text tokens quiet =
    ap (λ given. shown given (map (fault_of_flaw path text) given.flaws)) (quiet_upto text tokens (length tokens) quiet)
    ∙ rw append-nil refl
