-- Whether a division or a regular expression, and an expression brace or a block, stands behind tokens, of which the last
-- one is first (this project).
use Rattle.std.specs.Prelude.{ℕ, Bool, true, false, not, List, [], ◌∷◌}
use Rattle.es_tokens.specs.Brackets.{opens}
use Rattle.es_tokens.specs.TokenRole.{role_in}
use Rattle.es_tokens.specs.declared.role.Bracket.TheVariants.{Round, Square, Curly, Template}
use Rattle.es_tokens.specs.declared.role.Role.{Role}
use Rattle.es_tokens.specs.declared.role.Role.TheVariants.{Value, BlockWord, Control, For, Await, Word, Dot, Open, Close, Operator}
use Rattle.es_tokens.specs.declared.token.LexToken.{LexToken}

abbrev pub is_dot : Role → Bool
is_dot Dot = true
is_dot _ = false

-- `.` or `?.` is last
abbrev pub after_dot : List ℕ → List LexToken → Bool
after_dot text [] = false
after_dot text (token ∷ before) = is_dot (role_in text token)

abbrev pub is_loop : Role → Bool → Bool
is_loop For dotted = not dotted
is_loop _ dotted = false

-- `for` is last, and not behind a `.`
abbrev pub after_for : List ℕ → List LexToken → Bool
after_for text [] = false
after_for text (token ∷ before) = is_loop (role_in text token) (after_dot text before)

abbrev pub precedes_condition : Role → Bool → Bool → Bool
precedes_condition Control dotted looped = not dotted
precedes_condition For dotted looped = not dotted
precedes_condition Await dotted looped = looped
precedes_condition _ dotted looped = false

-- a `(` behind these opens what `if`, `while`, `for`, `with` or `for await` asks for
abbrev pub opens_condition : List ℕ → List LexToken → Bool
opens_condition text [] = false
opens_condition text (token ∷ before) = precedes_condition (role_in text token) (after_dot text before) (after_for text before)

abbrev pub wants_value : Role → Bool
wants_value Control = true
wants_value For = true
wants_value Await = true
wants_value Word = true
wants_value Operator = true
wants_value (Open Round) = true
wants_value (Open Square) = true
wants_value (Open Curly) = false
wants_value (Open Template) = true
wants_value _ = false

-- a `{` behind these is that of an expression
abbrev pub opens_expression : List ℕ → List LexToken → Bool
opens_expression text [] = false
opens_expression text (token ∷ before) = wants_value (role_in text token)

abbrev pub bracket_holds_value : Role → Bool → Bool → Bool
bracket_holds_value (Open Round) condition expression = not condition
bracket_holds_value (Open Curly) condition expression = expression
bracket_holds_value _ condition expression = true

-- what stands between the opener that is last here and its closer is a value
abbrev pub encloses_value : List ℕ → List LexToken → Bool
encloses_value text [] = false
encloses_value text (opener ∷ before) = bracket_holds_value (role_in text opener) (opens_condition text before) (opens_expression text before)

abbrev pub first_encloses : List ℕ → List (List LexToken) → Bool
first_encloses text [] = false
first_encloses text (opened ∷ outer) = encloses_value text opened

abbrev pub precedes_division : Role → Bool → Bool → Bool
precedes_division Value dotted enclosed = true
precedes_division BlockWord dotted enclosed = dotted
precedes_division Control dotted enclosed = dotted
precedes_division For dotted enclosed = dotted
precedes_division Await dotted enclosed = dotted
precedes_division Word dotted enclosed = dotted
precedes_division (Close bracket) dotted enclosed = enclosed
precedes_division _ dotted enclosed = false

-- a `/` behind these is a division
abbrev pub is_division : List ℕ → List LexToken → Bool
is_division text [] = false
is_division text (token ∷ before) = precedes_division (role_in text token) (after_dot text before) (first_encloses text (opens text before))
