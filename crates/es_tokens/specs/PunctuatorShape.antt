-- Punctuators (ECMA-262 12.8).
use Rattle.std.specs.Prelude.{ℕ, List, [], ◌∷◌, codes}
use Rattle.es_tokens.specs.Shape.{Shape, no_text, empty, seq, char, either}

-- a text of these characters
abbrev pub literal : List ℕ → Shape
literal [] = empty
literal (c ∷ cs) = seq (char c) (literal cs)

abbrev pub any_of : List (List ℕ) → Shape
any_of [] = no_text
any_of (text ∷ texts) = either (literal text) (any_of texts)

-- of one character, with which no other begins
abbrev pub single_punctuators : Shape
single_punctuators = any_of (codes "{" ∷ codes "}" ∷ codes "(" ∷ codes ")" ∷ codes "[" ∷ codes "]" ∷ codes ";" ∷ codes "," ∷ codes "~" ∷ codes ":" ∷ [])

-- those that begin as a comparison does: assignment, arrow, not and shifts too
abbrev pub comparison_punctuators : Shape
comparison_punctuators = any_of (codes "<" ∷ codes "<=" ∷ codes "<<" ∷ codes "<<=" ∷ codes ">" ∷ codes ">=" ∷ codes ">>" ∷ codes ">>=" ∷ codes ">>>" ∷ codes ">>>=" ∷ codes "=" ∷ codes "==" ∷ codes "===" ∷ codes "=>" ∷ codes "!" ∷ codes "!=" ∷ codes "!==" ∷ [])

abbrev pub arithmetic_punctuators : Shape
arithmetic_punctuators = any_of (codes "+" ∷ codes "++" ∷ codes "+=" ∷ codes "-" ∷ codes "--" ∷ codes "-=" ∷ codes "*" ∷ codes "**" ∷ codes "*=" ∷ codes "**=" ∷ codes "/" ∷ codes "/=" ∷ codes "%" ∷ codes "%=" ∷ [])

-- bitwise and logical
abbrev pub bitwise_punctuators : Shape
bitwise_punctuators = any_of (codes "&" ∷ codes "&&" ∷ codes "&=" ∷ codes "&&=" ∷ codes "|" ∷ codes "||" ∷ codes "|=" ∷ codes "||=" ∷ codes "^" ∷ codes "^=" ∷ [])

abbrev pub question_and_dot_punctuators : Shape
question_and_dot_punctuators = any_of (codes "?" ∷ codes "??" ∷ codes "?." ∷ codes "??=" ∷ codes "." ∷ codes "..." ∷ [])

-- all 57
abbrev pub punctuators : Shape
punctuators = either single_punctuators (either comparison_punctuators (either arithmetic_punctuators (either bitwise_punctuators question_and_dot_punctuators)))
