-- The names of a specifier or a declarator (ECMA-262 16.2.2 ImportSpecifier, 16.2.3 ExportSpecifier): its first token's and its last's.
use Rattle.std.specs.Prelude.{ℕ, ◌-◌, List, length}
use Rattle.es_tokens.specs.declared.token.Token.{Token}
use Rattle.form_shapes.specs.Source.{text_at}

abbrev pub left_name : List ℕ → List Token → List ℕ
left_name text part = text_at text part 0

abbrev pub right_name : List ℕ → List Token → List ℕ
right_name text part = text_at text part (length part - 1)
