-- The declarators of an exported `var`, `let` or `const` (ECMA-262 14.3; where a line ends a declaration is this project's).
use Rattle.std.specs.Prelude.{ℕ, Bool, true, false, not, ◌&&◌, ◌||◌, ◌==◌, ◌+◌, List, [], ◌∷◌, Option, None, Some, length, take, drop, codes, if◌then◌else◌}
use Rattle.std.specs.List.{list_all, slice_split}
use Rattle.std.specs.Str.{bytes_eq}
use Rattle.es_tokens.specs.declared.token.Token.{Token}
use Rattle.es_tokens.specs.declared.token.TokenClass.{TokenClass}
use Rattle.es_tokens.specs.declared.token.TokenClass.TheVariants as class
use Rattle.form_shapes.specs.Source.{has_sign, is_at, text_at, text_of}
use Rattle.form_shapes.specs.declared.sign.Sign.TheVariants as sign

-- keywords that are values
abbrev pub is_value_word : List ℕ → Bool
is_value_word bytes =
    bytes_eq bytes (codes "this") || bytes_eq bytes (codes "super") || bytes_eq bytes (codes "null")
    || bytes_eq bytes (codes "true") || bytes_eq bytes (codes "false")

-- keywords that go on with a value
abbrev pub is_operator_word : List ℕ → Bool
is_operator_word bytes = bytes_eq bytes (codes "in") || bytes_eq bytes (codes "instanceof")

abbrev pub is_step : List ℕ → Bool
is_step bytes = bytes_eq bytes (codes "++") || bytes_eq bytes (codes "--")

-- a token that may be the first of a line behind a declaration
abbrev pub begins_line_of : TokenClass → List ℕ → Bool
begins_line_of class.Name bytes = true
begins_line_of class.Keyword bytes = not (is_operator_word bytes)
begins_line_of class.Number bytes = true
begins_line_of class.Str bytes = true
begins_line_of class.PrivateName bytes = true
begins_line_of class.Punct bytes = bytes_eq bytes (codes "{") || is_step bytes
begins_line_of _ bytes = false

-- a token that may be the last of a declaration's line
abbrev pub ends_line_of : TokenClass → List ℕ → Bool
ends_line_of class.Name bytes = true
ends_line_of class.Keyword bytes = is_value_word bytes
ends_line_of class.Number bytes = true
ends_line_of class.Str bytes = true
ends_line_of class.Regex bytes = true
ends_line_of class.Template bytes = true
ends_line_of class.Tail bytes = true
ends_line_of class.Punct bytes =
    bytes_eq bytes (codes ")") || bytes_eq bytes (codes "]") || bytes_eq bytes (codes "}") || is_step bytes
ends_line_of _ bytes = false

abbrev pub begins_line : List ℕ → Token → Bool
begins_line text token = begins_line_of token.class (text_of text token)

abbrev pub ends_line : List ℕ → Token → Bool
ends_line text token = ends_line_of token.class (text_of text token)

-- a declaration ends between two tokens: before a `;`, or at a line's end
unfoldable pub ends_between : List ℕ → Token → Token → Bool
ends_between text before token =
    token.depth == 0 && (has_sign text sign.Semicolon token || (token.new_line && (begins_line text token && ends_line text before)))

-- so many tokens, and those that stand before the first place at which a declaration ends
abbrev pub length_from : List ℕ → ℕ → Token → List Token → ℕ
length_from text count before [] = count
length_from text count before (token ∷ tokens) = if ends_between text before token then count else length_from text (count + 1) token tokens

-- the tokens of a declaration, the first of which is its first name
abbrev pub declaration : List ℕ → List Token → List Token
declaration text [] = []
declaration text (first ∷ tokens) = first ∷ take (length_from text 0 first tokens) tokens

-- a comma outside of brackets
unfoldable pub separates : List ℕ → Token → Bool
separates text token = token.depth == 0 && has_sign text sign.Comma token

-- the declarators of a declaration that begins at a token
abbrev pub declarators : List ℕ → List Token → ℕ → List (List Token)
declarators text tokens at = slice_split (separates text) (declaration text (drop at tokens))

abbrev pub begins_with_name : List ℕ → List Token → Bool
begins_with_name text [] = false
begins_with_name text (name ∷ rest) = has_sign text sign.Name name

-- behind the declarators, each of which begins with a name
abbrev pub behind_variables : List ℕ → List Token → ℕ → Option ℕ
behind_variables text tokens at =
    if list_all (begins_with_name text) (declarators text tokens at) then Some (at + length (declaration text (drop at tokens))) else None

-- the bytes of the first of some tokens: a declarator's name
abbrev pub first_text : List ℕ → List Token → List ℕ
first_text text tokens = text_at text tokens 0

-- `export` with `var`, `let` or `const` stands at a token
abbrev pub exports_variables : List ℕ → List Token → ℕ → Bool
exports_variables text tokens at =
    is_at text tokens sign.Export at
    && (is_at text tokens sign.Var (at + 1) || (is_at text tokens sign.Let (at + 1) || is_at text tokens sign.Const (at + 1)))
