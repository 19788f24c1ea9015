-- The mate of a brace is a brace.
use Rattle.std.proofs.Common.{ℕ, ◌≡◌, ◌<◌, Bool, true, false, cond, List, Option, Some, None, refl, ap, ◌∙◌}
use Rattle.std.specs.Prelude.{codes, option_map, slice_get, unwrap_or}
use Rattle.std.specs.Str.{bytes_eq}
use Rattle.std.proofs.lemmas.Slice.Eq.{bytes_eq-Decides}
use Rattle.es_tokens.specs.AreTokens.{AreTokens}
use Rattle.es_tokens.specs.Braces.{IsClosedBrace, IsPunctuator}
use Rattle.es_tokens.specs.Mates.{played, plays}
use Rattle.es_tokens.specs.TokenRole.{role_of}
use Rattle.es_tokens.specs.TokenText.{token_bytes}
use Rattle.es_tokens.proofs.MateLemmas.{tokens-mates}
use Rattle.es_tokens.specs.declared.role.Bracket.TheVariants.{Curly, Round, Square}
use Rattle.es_tokens.specs.declared.role.Role.{Role}
use Rattle.es_tokens.specs.declared.role.Role.TheVariants.{Value, BlockWord, Control, For, Await, Word, Dot, Open, Close, Operator, Stop}
use Rattle.es_tokens.specs.declared.token.Token.{Token}
use Rattle.es_tokens.specs.declared.token.TokenClass.{TokenClass}
use Rattle.es_tokens.specs.declared.token.TokenClass.TheVariants as class

-- no keyword closes
no-word : (word value block control for await : Bool)
    → unwrap_or (cond word (Some Word) (cond value (Some Value) (cond block (Some BlockWord) (cond control (Some Control) (cond for (Some For) (cond await (Some Await) None)))))) Value ≡ Close Curly → ⊥
no-word true value block control for await e = cc
no-word false true block control for await e = cc
no-word false false true control for await e = cc
no-word false false false true for await e = cc
no-word false false false false true await e = cc
no-word false false false false false true e = cc
no-word false false false false false false e = cc

-- of the marks only `}` closes a brace
only-brace : (dot stop value one two three four five six : Bool)
    → cond dot Dot (cond stop Stop (cond value Value (unwrap_or (cond one (Some (Open Round)) (cond two (Some (Close Round)) (cond three (Some (Open Curly))
    (cond four (Some (Close Curly)) (cond five (Some (Open Square)) (cond six (Some (Close Square)) None)))))) Operator))) ≡ Close Curly → four ≡ true
only-brace true stop value one two three four five six e = cc
only-brace false true value one two three four five six e = cc
only-brace false false true one two three four five six e = cc
only-brace false false false true two three four five six e = cc
only-brace false false false false true three four five six e = cc
only-brace false false false false false true four five six e = cc
only-brace false false false false false false true five six e = refl
only-brace false false false false false false false true six e = cc
only-brace false false false false false false false false true e = cc
only-brace false false false false false false false false false e = cc

closer-is : (of : TokenClass) (bytes : List ℕ) → role_of of bytes ≡ Close Curly → (of ≡ class.Punct) × (bytes ≡ codes "}")
closer-is class.Punct bytes e = (refl, (bytes_eq-Decides bytes (codes "}")).0 (only-brace _ _ _ _ _ _ (bytes_eq bytes (codes "}")) _ _ e))
closer-is class.Keyword bytes e = absurd (no-word _ _ _ _ _ _ e)
closer-is class.Head bytes e = cc
closer-is class.Tail bytes e = cc
closer-is class.Middle bytes e = cc
closer-is class.Name bytes e = cc
closer-is class.PrivateName bytes e = cc
closer-is class.Number bytes e = cc
closer-is class.Str bytes e = cc
closer-is class.Template bytes e = cc
closer-is class.Regex bytes e = cc

opener-role : (of : TokenClass) (bytes : List ℕ) → of ≡ class.Punct → bytes ≡ codes "{" → role_of of bytes ≡ Open Curly
opener-role of bytes is e = rw (is, e) refl

played-by : (text : List ℕ) (some : Option Token) (role : Role) (mate : ℕ) → option_map (played text) some ≡ Some (role, mate)
    → (token : Token) × (some ≡ Some token) × (role_of token.class (token_bytes text token) ≡ role)
played-by text None role mate h = cc
played-by text (Some token) role mate h = let e : played text token ≡ (role, mate) = cc in (token, refl, ap (λ (pair : Role × ℕ). pair.0) e)

pub brace-closed : (text : List ℕ) (tokens : List Token) (at : ℕ) (brace : Token) → AreTokens text tokens → slice_get tokens at ≡ Some brace
    → IsPunctuator text brace (codes "{") → IsClosedBrace text tokens at brace
brace-closed text tokens at brace are here mark =
    let plays_is : plays text tokens at ≡ Some (Open Curly, brace.mate) =
    ap (option_map (played text)) here ∙ ap (λ (role : Role). Some (role, brace.mate)) (opener-role brace.class (token_bytes text brace) mark.0 mark.1) in
    let told : (at < brace.mate) × (plays text tokens brace.mate ≡ Some (Close Curly, at)) = tokens-mates text tokens are at (Open Curly) brace.mate plays_is in
    let last = played-by text (slice_get tokens brace.mate) (Close Curly) at told.1 in
    record {
      last = last.0;
      behind = told.0;
      there = last.1;
      closes = closer-is last.0.class (token_bytes text last.0) last.2;
    }
