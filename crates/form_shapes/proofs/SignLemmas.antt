-- Where no form begins, by the signs of tokens.
use Rattle.std.proofs.Common.{◌≡◌, ◌<◌, ◌+◌, ℕ, Bool, true, false, cond, List, Option, None, Some, length, refl, sym, ap, subst, ◌∙◌}
use Rattle.std.specs.Prelude.{◌&&◌, ◌||◌, codes, slice_get}
use Rattle.std.specs.Option.{option_map_or}
use Rattle.std.specs.Str.{bytes_eq}
use Rattle.std.proofs.lemmas.Option.{slice_get_within}
use Rattle.std.proofs.lemmas.Slice.Eq.{bytes_eq-Decides}
use Rattle.es_tokens.specs.declared.token.Token.{Token}
use Rattle.es_tokens.specs.declared.token.TokenClass.{TokenClass}
use Rattle.es_tokens.specs.declared.token.TokenClass.TheVariants as class
use Rattle.form_shapes.specs.Apart.{begins_none, begun_at, form_in}
use Rattle.form_shapes.specs.Forms.{behind, form_at}
use Rattle.form_shapes.specs.Shapes.{export_shapes, import_shapes, parts_of, require_shapes}
use Rattle.form_shapes.specs.Sign.{has_sign_of, is_keyword, is_name, is_punct, is_str, is_plain, is_that_keyword, is_that_name, is_that_punct}
use Rattle.form_shapes.specs.Source.{has_sign, is_at, is_outside, text_of}
use Rattle.form_shapes.specs.Standing.{export_at, export_by, import_at, import_by, is_behind, keyword_at, require_at, require_by, standing_at}
use Rattle.form_shapes.specs.declared.sign.Sign.{Sign}
use Rattle.form_shapes.specs.declared.sign.Sign.TheVariants as sign
use Rattle.form_shapes.specs.declared.standing.Standing.{Standing}
use Rattle.form_shapes.specs.declared.standing.Standing.TheVariants.{Nothing}

pub both : (one two : Bool) → (one && two) ≡ true → (one ≡ true) × (two ≡ true)
both true two h = (refl, h)
both false two h = cc

-- classes by their tests
pub keyword-is : (of : TokenClass) → is_keyword of ≡ true → of ≡ class.Keyword
keyword-is class.Keyword h = refl
keyword-is class.Name h = cc
keyword-is class.PrivateName h = cc
keyword-is class.Number h = cc
keyword-is class.Str h = cc
keyword-is class.Template h = cc
keyword-is class.Head h = cc
keyword-is class.Middle h = cc
keyword-is class.Tail h = cc
keyword-is class.Regex h = cc
keyword-is class.Punct h = cc

pub name-is : (of : TokenClass) → is_name of ≡ true → of ≡ class.Name
name-is class.Name h = refl
name-is class.Keyword h = cc
name-is class.PrivateName h = cc
name-is class.Number h = cc
name-is class.Str h = cc
name-is class.Template h = cc
name-is class.Head h = cc
name-is class.Middle h = cc
name-is class.Tail h = cc
name-is class.Regex h = cc
name-is class.Punct h = cc

pub str-is : (of : TokenClass) → is_str of ≡ true → of ≡ class.Str
str-is class.Str h = refl
str-is class.Name h = cc
str-is class.Keyword h = cc
str-is class.PrivateName h = cc
str-is class.Number h = cc
str-is class.Template h = cc
str-is class.Head h = cc
str-is class.Middle h = cc
str-is class.Tail h = cc
str-is class.Regex h = cc
str-is class.Punct h = cc

pub punct-is : (of : TokenClass) → is_punct of ≡ true → of ≡ class.Punct
punct-is class.Punct h = refl
punct-is class.Name h = cc
punct-is class.Keyword h = cc
punct-is class.PrivateName h = cc
punct-is class.Number h = cc
punct-is class.Str h = cc
punct-is class.Template h = cc
punct-is class.Head h = cc
punct-is class.Middle h = cc
punct-is class.Tail h = cc
punct-is class.Regex h = cc

-- a token of a class with these bytes, by a test of both
pub record IsThat (wanted of : TokenClass) (word bytes : List ℕ) : Type 0 where
  pub class_is : of ≡ wanted
  pub bytes_are : bytes ≡ word

pub that : (wanted of : TokenClass) (word bytes : List ℕ) (test : Bool) → (test ≡ true → of ≡ wanted) → (test && bytes_eq bytes word) ≡ true → IsThat wanted of word bytes
that wanted of word bytes test so h =
    let parts = both test (bytes_eq bytes word) h in
    record { class_is = so parts.0; bytes_are = (bytes_eq-Decides bytes word).0 parts.1 }

-- what is said of the token of this class with these bytes is said of each such token
pub said : (P : TokenClass → List ℕ → Type 0) (wanted of : TokenClass) (word bytes : List ℕ) → IsThat wanted of word bytes → P wanted word → P of bytes
said P wanted of word bytes is h = subst (λ o. P o bytes) (sym is.class_is) (subst (P wanted) (sym is.bytes_are) h)

-- neither `import` nor `export` nor `require`
pub record HasNoKeyword (of : TokenClass) (bytes : List ℕ) : Type 0 where
  pub imports : has_sign_of sign.Import of bytes ≡ false
  pub exports : has_sign_of sign.Export of bytes ≡ false
  pub requires : has_sign_of sign.Require of bytes ≡ false

of_punct : (of : TokenClass) (bytes mark : List ℕ) → is_that_punct of bytes mark ≡ true → HasNoKeyword of bytes
unfolding has_sign_of
of_punct of bytes mark h =
    subst (λ o. HasNoKeyword o bytes) (sym (punct-is of (both (is_punct of) (bytes_eq bytes mark) h).0)) (record { imports = refl; exports = refl; requires = refl })

of_keyword : (of : TokenClass) (bytes word : List ℕ) → is_that_keyword of bytes word ≡ true → HasNoKeyword class.Keyword word → HasNoKeyword of bytes
of_keyword of bytes word h = said HasNoKeyword class.Keyword of word bytes (that class.Keyword of word bytes (is_keyword of) (keyword-is of) h)

of_name : (of : TokenClass) (bytes word : List ℕ) → is_that_name of bytes word ≡ true → HasNoKeyword class.Name word → HasNoKeyword of bytes
of_name of bytes word h = said HasNoKeyword class.Name of word bytes (that class.Name of word bytes (is_name of) (name-is of) h)

of_either : (of : TokenClass) (bytes : List ℕ) (one two : Bool) → (one ≡ true → HasNoKeyword of bytes) → (two ≡ true → HasNoKeyword of bytes)
    → (one || two) ≡ true → HasNoKeyword of bytes
of_either of bytes true two first second h = first refl
of_either of bytes false two first second h = second h

-- words and marks with which no form begins
no-keyword : (s : Sign) → begins_none s ≡ true → (of : TokenClass) (bytes : List ℕ) → has_sign_of s of bytes ≡ true → HasNoKeyword of bytes
unfolding has_sign_of
no-keyword sign.Name none of bytes h = cc
no-keyword sign.IdName none of bytes h = cc
no-keyword sign.Import none of bytes h = cc
no-keyword sign.Export none of bytes h = cc
no-keyword sign.Require none of bytes h = cc
no-keyword sign.Str none of bytes h =
    subst (λ o. HasNoKeyword o bytes) (sym (str-is of (both (is_str of) (is_plain bytes) h).0)) (record { imports = refl; exports = refl; requires = refl })
no-keyword sign.Open none of bytes h = of_punct of bytes (codes "(") h
no-keyword sign.Close none of bytes h = of_punct of bytes (codes ")") h
no-keyword sign.Brace none of bytes h = of_punct of bytes (codes "{") h
no-keyword sign.Comma none of bytes h = of_punct of bytes (codes ",") h
no-keyword sign.Colon none of bytes h = of_punct of bytes (codes ":") h
no-keyword sign.Semicolon none of bytes h = of_punct of bytes (codes ";") h
no-keyword sign.Star none of bytes h = of_punct of bytes (codes "*") h
no-keyword sign.Period none of bytes h = of_punct of bytes (codes ".") h
no-keyword sign.Member none of bytes h =
    of_either of bytes (is_that_punct of bytes (codes ".")) (is_that_punct of bytes (codes "?.")) (of_punct of bytes (codes ".")) (of_punct of bytes (codes "?.")) h
no-keyword sign.As none of bytes h = of_name of bytes (codes "as") h (record { imports = refl; exports = refl; requires = refl })
no-keyword sign.From none of bytes h = of_name of bytes (codes "from") h (record { imports = refl; exports = refl; requires = refl })
no-keyword sign.Let none of bytes h = of_name of bytes (codes "let") h (record { imports = refl; exports = refl; requires = refl })
no-keyword sign.Async none of bytes h = of_name of bytes (codes "async") h (record { imports = refl; exports = refl; requires = refl })
no-keyword sign.With none of bytes h = of_keyword of bytes (codes "with") h (record { imports = refl; exports = refl; requires = refl })
no-keyword sign.Default none of bytes h = of_keyword of bytes (codes "default") h (record { imports = refl; exports = refl; requires = refl })
no-keyword sign.Var none of bytes h = of_keyword of bytes (codes "var") h (record { imports = refl; exports = refl; requires = refl })
no-keyword sign.Const none of bytes h = of_keyword of bytes (codes "const") h (record { imports = refl; exports = refl; requires = refl })
no-keyword sign.Function none of bytes h = of_keyword of bytes (codes "function") h (record { imports = refl; exports = refl; requires = refl })
no-keyword sign.Class none of bytes h = of_keyword of bytes (codes "class") h (record { imports = refl; exports = refl; requires = refl })

-- no `(`, where a name, a keyword, `from` or a `,` stands
pub word-no_open : (of : TokenClass) (bytes : List ℕ) → (is_keyword of || (is_name of && is_plain bytes)) ≡ true → has_sign_of sign.Open of bytes ≡ false
unfolding has_sign_of
word-no_open class.Name bytes h = refl
word-no_open class.Keyword bytes h = refl
word-no_open class.PrivateName bytes h = cc
word-no_open class.Number bytes h = cc
word-no_open class.Str bytes h = cc
word-no_open class.Template bytes h = cc
word-no_open class.Head bytes h = cc
word-no_open class.Middle bytes h = cc
word-no_open class.Tail bytes h = cc
word-no_open class.Regex bytes h = cc
word-no_open class.Punct bytes h = cc

pub name-no_open : (of : TokenClass) (bytes : List ℕ) → is_name of ≡ true → has_sign_of sign.Open of bytes ≡ false
unfolding has_sign_of
name-no_open of bytes h = rw (name-is of h) refl

pub comma-no_open : (of : TokenClass) (bytes : List ℕ) → has_sign_of sign.Comma of bytes ≡ true → has_sign_of sign.Open of bytes ≡ false
unfolding has_sign_of
comma-no_open of bytes h =
    said (λ o some. has_sign_of sign.Open o some ≡ false) class.Punct of (codes ",") bytes (that class.Punct of (codes ",") bytes (is_punct of) (punct-is of) h) refl

-- all signs of a `from`, and of a string
pub from-signs : (of : TokenClass) (bytes : List ℕ) → has_sign_of sign.From of bytes ≡ true → (s : Sign) → has_sign_of s of bytes ≡ has_sign_of s class.Name (codes "from")
unfolding has_sign_of
from-signs of bytes h =
    said (λ o some. (s : Sign) → has_sign_of s o some ≡ has_sign_of s class.Name (codes "from")) class.Name of (codes "from") bytes
    (that class.Name of (codes "from") bytes (is_name of) (name-is of) h) (λ s. refl)

pub str-signs : (of : TokenClass) (bytes : List ℕ) → has_sign_of sign.Str of bytes ≡ true → (s : Sign) → has_sign_of s of bytes ≡ has_sign_of s class.Str bytes
unfolding has_sign_of
str-signs of bytes h s = ap (λ o. has_sign_of s o bytes) (str-is of (both (is_str of) (is_plain bytes) h).0)

-- the token of a number that has a sign
pub record HasToken (text : List ℕ) (tokens : List Token) (s : Sign) (at : ℕ) : Type 0 where
  pub token : Token
  pub here : slice_get tokens at ≡ Some token
  pub has : has_sign text s token ≡ true

pub token-here : (text : List ℕ) (tokens : List Token) (s : Sign) (at : ℕ) → is_at text tokens s at ≡ true → HasToken text tokens s at
token-here text tokens s at h = by (slice_get tokens at) refl h
  where
    by : (some : Option Token) → slice_get tokens at ≡ some → option_map_or (has_sign text s) some false ≡ true → HasToken text tokens s at
    by None e h = cc
    by (Some token) e h = record { token = token; here = e; has = h }

pub token-within : (text : List ℕ) (tokens : List Token) (s : Sign) (at : ℕ) → is_at text tokens s at ≡ true → at < length tokens
token-within text tokens s at h = let there = token-here text tokens s at h in slice_get_within tokens at there.token there.here

-- a sign of the token of a number
pub is-at : (text : List ℕ) (tokens : List Token) (s : Sign) (at : ℕ) (token : Token) (b : Bool) → slice_get tokens at ≡ Some token → has_sign text s token ≡ b
    → is_at text tokens s at ≡ b
is-at text tokens s at token b here e = ap (λ some. option_map_or (has_sign text s) some false) here ∙ e

-- no form begins at a token where none of the three keywords begins one
calm-behind : (member : Bool) (standing : Standing) → form_in standing ≡ None → form_in (cond member Nothing standing) ≡ None
calm-behind true standing h = refl
calm-behind false standing h = h

calm-by : (import export require : Bool) (imported exported required : Standing) → (import ≡ true → form_in imported ≡ None)
    → (export ≡ true → form_in exported ≡ None) → (require ≡ true → form_in required ≡ None)
    → form_in (cond import imported (cond export exported (cond require required Nothing))) ≡ None
calm-by true export require imported exported required i e r = i refl
calm-by false true require imported exported required i e r = e refl
calm-by false false true imported exported required i e r = r refl
calm-by false false false imported exported required i e r = refl

module _ (text : List ℕ) (tokens : List Token) (at : ℕ) where
  pub calm-at : (is_at text tokens sign.Import at ≡ true → form_in (import_at text tokens at) ≡ None)
      → (is_at text tokens sign.Export at ≡ true → form_in (export_at text tokens at) ≡ None)
      → (is_at text tokens sign.Require at ≡ true → form_in (require_at text tokens at) ≡ None) → begun_at text tokens at ≡ None
  unfolding standing_at
  calm-at i e r = calm-behind (is_behind text tokens sign.Member at) (keyword_at text tokens at)
      (calm-by (is_at text tokens sign.Import at) (is_at text tokens sign.Export at) (is_at text tokens sign.Require at) (import_at text tokens at) (export_at text tokens at) (require_at text tokens at) i e r)

  pub calm-token : (token : Token) → slice_get tokens at ≡ Some token → HasNoKeyword token.class (text_of text token) → begun_at text tokens at ≡ None
  calm-token token here none = calm-at
      (λ h. let i = is-at text tokens sign.Import at token false here none.imports in absurd (cc))
      (λ h. let e = is-at text tokens sign.Export at token false here none.exports in absurd (cc))
      (λ h. let r = is-at text tokens sign.Require at token false here none.requires in absurd (cc))

  pub calm-sign : (s : Sign) → begins_none s ≡ true → is_at text tokens s at ≡ true → begun_at text tokens at ≡ None
  calm-sign s none h = let there = token-here text tokens s at h in
      calm-token there.token there.here (no-keyword s none there.token.class (text_of text there.token) there.has)

  pub no-import : (opens alone : Bool) → form_in (import_by None opens alone) ≡ None
  no-import true alone = refl
  no-import false true = refl
  no-import false false = refl

  no-export : (alone : Bool) → form_in (export_by None alone) ≡ None
  no-export true = refl
  no-export false = refl

  no-require : (odd : Bool) → form_in (require_by None odd) ≡ None
  no-require true = refl
  no-require false = refl

  -- without a `(` no call begins
  pub no-call : is_at text tokens sign.Open (at + 1) ≡ false → form_in (require_at text tokens at) ≡ None
  unfolding require_at require_shapes form_at parts_of behind
  no-call closed = rw closed (by (is_outside tokens at))
    where
      by : (outside : Bool) → form_in (require_by (cond (outside || true) None None) false) ≡ None
      by true = refl
      by false = refl

  -- in brackets no declaration begins, and without a `(` no call
  pub calm-inside : is_outside tokens at ≡ false → is_at text tokens sign.Open (at + 1) ≡ false → begun_at text tokens at ≡ None
  unfolding import_at import_shapes export_at export_shapes form_at parts_of behind
  calm-inside inside closed = calm-at (λ h. imports) (λ h. exports) (λ h. no-call closed)
    where
      imports : form_in (import_at text tokens at) ≡ None
      imports = rw (inside, closed) (no-import false (is_at text tokens sign.Period (at + 1)))

      exports : form_in (export_at text tokens at) ≡ None
      exports = rw inside refl

  -- a name without a `(` behind it begins no form
  pub calm-name : is_at text tokens sign.Name at ≡ true → is_at text tokens sign.Open (at + 1) ≡ false → begun_at text tokens at ≡ None
  unfolding has_sign_of
  calm-name h closed = let there = token-here text tokens sign.Name at h in by there.token there.here
      (name-is there.token.class (both (is_name there.token.class) (is_plain (text_of text there.token)) there.has).0)
    where
      by : (token : Token) → slice_get tokens at ≡ Some token → token.class ≡ class.Name → begun_at text tokens at ≡ None
      by token here is = calm-at
          (λ i. let e = is-at text tokens sign.Import at token false here (rw is refl) in absurd (cc))
          (λ i. let e = is-at text tokens sign.Export at token false here (rw is refl) in absurd (cc))
          (λ i. no-call closed)
