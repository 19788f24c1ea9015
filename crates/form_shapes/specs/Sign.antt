-- What a form asks of one token (ECMA-262 16.2 for the words; that names and strings have no backslash is this project's).
use Rattle.std.specs.Prelude.{ℕ, Bool, true, false, not, ◌&&◌, ◌||◌, ◌==◌, List, codes}
use Rattle.std.specs.List.{list_any}
use Rattle.std.specs.Str.{bytes_eq}
use Rattle.es_tokens.specs.declared.token.TokenClass.{TokenClass}
use Rattle.es_tokens.specs.declared.token.TokenClass.TheVariants as class
use Rattle.form_shapes.specs.declared.sign.Sign.{Sign}
use Rattle.form_shapes.specs.declared.sign.Sign.TheVariants as sign

-- without a backslash
abbrev pub is_plain : List ℕ → Bool
is_plain bytes = not (list_any (λ byte. byte == 0x5c) bytes)

abbrev pub is_name : TokenClass → Bool
is_name class.Name = true
is_name _ = false

abbrev pub is_keyword : TokenClass → Bool
is_keyword class.Keyword = true
is_keyword _ = false

abbrev pub is_str : TokenClass → Bool
is_str class.Str = true
is_str _ = false

abbrev pub is_punct : TokenClass → Bool
is_punct class.Punct = true
is_punct _ = false

abbrev pub is_that_name : TokenClass → List ℕ → List ℕ → Bool
is_that_name of bytes word = is_name of && bytes_eq bytes word

abbrev pub is_that_keyword : TokenClass → List ℕ → List ℕ → Bool
is_that_keyword of bytes word = is_keyword of && bytes_eq bytes word

abbrev pub is_that_punct : TokenClass → List ℕ → List ℕ → Bool
is_that_punct of bytes mark = is_punct of && bytes_eq bytes mark

-- whether a token of a class, with these bytes, has the sign
unfoldable pub has_sign_of : Sign → TokenClass → List ℕ → Bool
has_sign_of sign.Name of bytes = is_name of && is_plain bytes
has_sign_of sign.IdName of bytes = is_keyword of || (is_name of && is_plain bytes)
has_sign_of sign.Str of bytes = is_str of && is_plain bytes
has_sign_of sign.Open of bytes = is_that_punct of bytes (codes "(")
has_sign_of sign.Close of bytes = is_that_punct of bytes (codes ")")
has_sign_of sign.Brace of bytes = is_that_punct of bytes (codes "{")
has_sign_of sign.Comma of bytes = is_that_punct of bytes (codes ",")
has_sign_of sign.Colon of bytes = is_that_punct of bytes (codes ":")
has_sign_of sign.Semicolon of bytes = is_that_punct of bytes (codes ";")
has_sign_of sign.Star of bytes = is_that_punct of bytes (codes "*")
has_sign_of sign.Period of bytes = is_that_punct of bytes (codes ".")
has_sign_of sign.Member of bytes = is_that_punct of bytes (codes ".") || is_that_punct of bytes (codes "?.")
has_sign_of sign.Import of bytes = is_that_keyword of bytes (codes "import")
has_sign_of sign.Export of bytes = is_that_keyword of bytes (codes "export")
has_sign_of sign.Require of bytes = is_that_name of bytes (codes "require")
has_sign_of sign.As of bytes = is_that_name of bytes (codes "as")
has_sign_of sign.From of bytes = is_that_name of bytes (codes "from")
has_sign_of sign.With of bytes = is_that_keyword of bytes (codes "with")
has_sign_of sign.Default of bytes = is_that_keyword of bytes (codes "default")
has_sign_of sign.Var of bytes = is_that_keyword of bytes (codes "var")
has_sign_of sign.Let of bytes = is_that_name of bytes (codes "let")
has_sign_of sign.Const of bytes = is_that_keyword of bytes (codes "const")
has_sign_of sign.Async of bytes = is_that_name of bytes (codes "async")
has_sign_of sign.Function of bytes = is_that_keyword of bytes (codes "function")
has_sign_of sign.Class of bytes = is_that_keyword of bytes (codes "class")
