-- `export *`, and whether a module is one by its declarations (ECMA-262 16.2.3).
use Rattle.std.specs.Prelude.{ℕ, Bool, true, false, List, [], ◌∷◌}
use Rattle.form_shapes.specs.declared.shape.Shape.{Shape}
use Rattle.form_shapes.specs.declared.shape.Shape.TheVariants as shape
use Rattle.form_shapes.specs.declared.standing.Standing.{Standing}
use Rattle.form_shapes.specs.declared.standing.Standing.TheVariants.{Declaration}
use Rattle.graph_types.specs.declared.binding.Star.{Star}

abbrev pub shape_stars : ℕ → Shape → List Star
shape_stars item shape.StarExport = record { item = item } ∷ []
shape_stars item _ = []

unfoldable pub stars_by : ℕ → Standing → List Star
stars_by item (Declaration form) = shape_stars item form.shape
stars_by item _ = []

-- an import or an export declaration
abbrev pub is_declaration : Standing → Bool
is_declaration (Declaration form) = true
is_declaration _ = false
