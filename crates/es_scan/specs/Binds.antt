-- The local names that import declarations bind (ECMA-262 16.2.2 ImportEntries).
use Rattle.std.specs.Prelude.{ℕ, ◌+◌, List, [], ◌∷◌, map, None, Some, codes}
use Rattle.es_tokens.specs.declared.token.Token.{Token}
use Rattle.form_shapes.specs.Source.{text_at}
use Rattle.form_shapes.specs.Names.{specifiers}
use Rattle.form_shapes.specs.declared.shape.Shape.{Shape}
use Rattle.form_shapes.specs.declared.shape.Shape.TheVariants as shape
use Rattle.form_shapes.specs.declared.standing.Standing.{Standing}
use Rattle.form_shapes.specs.declared.standing.Standing.TheVariants.{Declaration}
use Rattle.graph_types.specs.declared.binding.Bind.{Bind}
use Rattle.es_scan.specs.Names.{left_name, right_name}

abbrev pub default_bind : List ℕ → List Token → ℕ → ℕ → Bind
default_bind text tokens item at = record { local = text_at text tokens at; item = item; name = Some (codes "default") }

abbrev pub space_bind : List ℕ → List Token → ℕ → ℕ → Bind
space_bind text tokens item at = record { local = text_at text tokens at; item = item; name = None }

abbrev pub named_bind : List ℕ → ℕ → List Token → Bind
named_bind text item part = record { local = right_name text part; item = item; name = Some (left_name text part) }

-- of the specifiers in the braces at a token
abbrev pub named_binds : List ℕ → List Token → ℕ → ℕ → List Bind
named_binds text tokens item at = map (named_bind text item) (specifiers text tokens at)

-- by the table of shapes, the default name stands behind `import`, a space's name before `from`, and braces behind a comma or `import`
abbrev pub shape_binds : List ℕ → List Token → ℕ → ℕ → Shape → List Bind
shape_binds text tokens item at shape.DefaultImport = default_bind text tokens item (at + 1) ∷ []
shape_binds text tokens item at shape.SpaceImport = space_bind text tokens item (at + 3) ∷ []
shape_binds text tokens item at shape.NamesImport = named_binds text tokens item (at + 1)
shape_binds text tokens item at shape.DefaultSpaceImport = default_bind text tokens item (at + 1) ∷ space_bind text tokens item (at + 5) ∷ []
shape_binds text tokens item at shape.DefaultNamesImport = default_bind text tokens item (at + 1) ∷ named_binds text tokens item (at + 3)
shape_binds text tokens item at _ = []

unfoldable pub binds_by : List ℕ → List Token → ℕ → ℕ → Standing → List Bind
binds_by text tokens item at (Declaration form) = shape_binds text tokens item at form.shape
binds_by text tokens item at _ = []
