-- The names that a module exports (ECMA-262 16.2.3 ExportEntries).
use Rattle.std.specs.Prelude.{ℕ, ◌+◌, ◌-◌, List, [], ◌∷◌, Option, None, Some, map, codes}
use Rattle.es_tokens.specs.declared.token.Token.{Token}
use Rattle.form_shapes.specs.Source.{text_at}
use Rattle.form_shapes.specs.Names.{specifiers}
use Rattle.form_shapes.specs.Variables.{declarators}
use Rattle.form_shapes.specs.declared.form.Form.{Form}
use Rattle.form_shapes.specs.declared.shape.Shape.{Shape}
use Rattle.form_shapes.specs.declared.shape.Shape.TheVariants as shape
use Rattle.form_shapes.specs.declared.standing.Standing.{Standing}
use Rattle.form_shapes.specs.declared.standing.Standing.TheVariants.{Declaration}
use Rattle.graph_types.specs.declared.binding.Export.{Export}
use Rattle.graph_types.specs.declared.binding.ExportFrom.{ExportFrom}
use Rattle.graph_types.specs.declared.binding.ExportFrom.TheVariants.{Local, Name, Space}
use Rattle.es_scan.specs.Default.{default_at}
use Rattle.es_scan.specs.Names.{left_name, right_name}
use Rattle.es_scan.specs.declared.default.Default.{Default}
use Rattle.es_scan.specs.declared.default.Default.TheVariants.{Expression, Named, Unnamed}

abbrev pub space_export : List ℕ → List Token → ℕ → ℕ → Export
space_export text tokens item at = record { name = text_at text tokens at; from = Space item }

-- the local name of what is exported as the default
abbrev pub default_name : List ℕ → List Token → Default → List ℕ
default_name text tokens (Named at) = text_at text tokens at
default_name text tokens Expression = codes "__cp_default"
default_name text tokens (Unnamed at) = codes "__cp_default"

abbrev pub default_export : List ℕ → List Token → ℕ → Export
default_export text tokens at =
    record { name = codes "default"; from = Local (default_name text tokens (default_at text tokens (at + 2))) }

-- a name that a declaration declares and exports
abbrev pub own_export : List ℕ → Export
own_export name = record { name = name; from = Local name }

-- a name of the module that an item names, or without one of this module
abbrev pub specifier_from : Option ℕ → List ℕ → ExportFrom
specifier_from (Some item) name = Name item name
specifier_from None name = Local name

abbrev pub specifier_export : List ℕ → Option ℕ → List Token → Export
specifier_export text item part = record { name = right_name text part; from = specifier_from item (left_name text part) }

-- of the specifiers in the braces at a token
abbrev pub names_exports : List ℕ → List Token → Option ℕ → ℕ → List Export
names_exports text tokens item at = map (specifier_export text item) (specifiers text tokens at)

abbrev pub variable_export : List ℕ → List Token → Export
variable_export text part = own_export (left_name text part)

abbrev pub variables_exports : List ℕ → List Token → ℕ → List Export
variables_exports text tokens at = map (variable_export text) (declarators text tokens at)

-- a function's or a class's name is the last of the form's parts
abbrev pub declared_exports : List ℕ → List Token → Form → List Export
declared_exports text tokens form = own_export (text_at text tokens (form.parts - 1)) ∷ []

abbrev pub shape_exports : List ℕ → List Token → ℕ → ℕ → Form → Shape → List Export
shape_exports text tokens item at form shape.SpaceExport = space_export text tokens item (at + 3) ∷ []
shape_exports text tokens item at form shape.NamesFromExport = names_exports text tokens (Some item) (at + 1)
shape_exports text tokens item at form shape.NamesExport = names_exports text tokens None (at + 1)
shape_exports text tokens item at form shape.DefaultExport = default_export text tokens at ∷ []
shape_exports text tokens item at form shape.VarExport = variables_exports text tokens (at + 2)
shape_exports text tokens item at form shape.LetExport = variables_exports text tokens (at + 2)
shape_exports text tokens item at form shape.ConstExport = variables_exports text tokens (at + 2)
shape_exports text tokens item at form shape.FunctionExport = declared_exports text tokens form
shape_exports text tokens item at form shape.GeneratorExport = declared_exports text tokens form
shape_exports text tokens item at form shape.AsyncFunctionExport = declared_exports text tokens form
shape_exports text tokens item at form shape.AsyncGeneratorExport = declared_exports text tokens form
shape_exports text tokens item at form shape.ClassExport = declared_exports text tokens form
shape_exports text tokens item at form _ = []

abbrev pub form_exports : List ℕ → List Token → ℕ → ℕ → Form → List Export
form_exports text tokens item at form = shape_exports text tokens item at form form.shape

unfoldable pub exports_by : List ℕ → List Token → ℕ → ℕ → Standing → List Export
exports_by text tokens item at (Declaration form) = form_exports text tokens item at form
exports_by text tokens item at _ = []
