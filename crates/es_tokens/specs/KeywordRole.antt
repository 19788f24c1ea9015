-- What a keyword is to the tokens behind it (this project; the keywords are those of ECMA-262 12.7.2).
use Rattle.std.specs.Prelude.{ℕ, Bool, false, ◌||◌, List, [], ◌∷◌, Option, None, Some, codes, if◌then◌else◌}
use Rattle.std.specs.Str.{bytes_eq}
use Rattle.es_tokens.specs.declared.role.Role.{Role}
use Rattle.es_tokens.specs.declared.role.Role.TheVariants.{Value, BlockWord, Control, For, Await, Word}

-- whether a text is one of these
abbrev pub among : List ℕ → List (List ℕ) → Bool
among text [] = false
among text (word ∷ words) = bytes_eq text word || among text words

unfoldable pub value_words : List (List ℕ)
value_words = codes "this" ∷ codes "super" ∷ codes "null" ∷ codes "true" ∷ codes "false" ∷ []

-- behind these a brace begins a block
unfoldable pub block_words : List (List ℕ)
block_words = codes "else" ∷ codes "do" ∷ codes "try" ∷ codes "finally" ∷ []

-- behind these stands a condition in brackets; `for` is another
unfoldable pub control_words : List (List ℕ)
control_words = codes "if" ∷ codes "while" ∷ codes "with" ∷ []

unfoldable pub statement_words : List (List ℕ)
statement_words =
    codes "break" ∷ codes "case" ∷ codes "catch" ∷ codes "continue" ∷ codes "default" ∷ codes "return" ∷ codes "switch" ∷ codes "throw" ∷ []

unfoldable pub declaration_words : List (List ℕ)
declaration_words =
    codes "class" ∷ codes "const" ∷ codes "debugger" ∷ codes "enum" ∷ codes "export" ∷ codes "extends" ∷ codes "function" ∷ codes "import" ∷ []

unfoldable pub operator_words : List (List ℕ)
operator_words =
    codes "delete" ∷ codes "in" ∷ codes "instanceof" ∷ codes "new" ∷ codes "typeof" ∷ codes "var" ∷ codes "void" ∷ codes "yield" ∷ []

-- the role of a keyword; other names have none
abbrev pub keyword_role : List ℕ → Option Role
keyword_role text =
    if among text statement_words || among text declaration_words || among text operator_words then Some Word
    else (if among text value_words then Some Value
    else (if among text block_words then Some BlockWord
    else (if among text control_words then Some Control
    else (if bytes_eq text (codes "for") then Some For
    else (if bytes_eq text (codes "await") then Some Await else None)))))
