-- The forms as rows of parts (ECMA-262 16.2.2 and 16.2.3; calls of `import` as in 13.3.10, of `require` as CommonJS has them).
use Rattle.std.specs.Prelude.{Bool, true, false, List, [], ◌∷◌}
use Rattle.form_shapes.specs.declared.part.Part.{Part}
use Rattle.form_shapes.specs.declared.part.Part.TheVariants.{One, Named, Variables}
use Rattle.form_shapes.specs.declared.part.Side.TheVariants as side
use Rattle.form_shapes.specs.declared.shape.Shape.{Shape}
use Rattle.form_shapes.specs.declared.shape.Shape.TheVariants as shape
use Rattle.form_shapes.specs.declared.sign.Sign.TheVariants as sign

-- the parts behind the keyword
unfoldable pub parts_of : Shape → List Part
parts_of shape.BareImport = One sign.Str ∷ []
parts_of shape.DefaultImport = One sign.Name ∷ One sign.From ∷ One sign.Str ∷ []
parts_of shape.SpaceImport = One sign.Star ∷ One sign.As ∷ One sign.Name ∷ One sign.From ∷ One sign.Str ∷ []
parts_of shape.NamesImport = Named side.Right ∷ One sign.From ∷ One sign.Str ∷ []
parts_of shape.DefaultSpaceImport =
    One sign.Name ∷ One sign.Comma ∷ One sign.Star ∷ One sign.As ∷ One sign.Name ∷ One sign.From ∷ One sign.Str ∷ []
parts_of shape.DefaultNamesImport = One sign.Name ∷ One sign.Comma ∷ Named side.Right ∷ One sign.From ∷ One sign.Str ∷ []
parts_of shape.Call = One sign.Open ∷ One sign.Str ∷ One sign.Close ∷ []
parts_of shape.CommaCall = One sign.Open ∷ One sign.Str ∷ One sign.Comma ∷ One sign.Close ∷ []
parts_of shape.StarExport = One sign.Star ∷ One sign.From ∷ One sign.Str ∷ []
parts_of shape.SpaceExport = One sign.Star ∷ One sign.As ∷ One sign.IdName ∷ One sign.From ∷ One sign.Str ∷ []
parts_of shape.NamesFromExport = Named side.Neither ∷ One sign.From ∷ One sign.Str ∷ []
parts_of shape.NamesExport = Named side.Left ∷ []
parts_of shape.DefaultExport = One sign.Default ∷ []
parts_of shape.VarExport = One sign.Var ∷ Variables ∷ []
parts_of shape.LetExport = One sign.Let ∷ Variables ∷ []
parts_of shape.ConstExport = One sign.Const ∷ Variables ∷ []
parts_of shape.FunctionExport = One sign.Function ∷ One sign.Name ∷ []
parts_of shape.GeneratorExport = One sign.Function ∷ One sign.Star ∷ One sign.Name ∷ []
parts_of shape.AsyncFunctionExport = One sign.Async ∷ One sign.Function ∷ One sign.Name ∷ []
parts_of shape.AsyncGeneratorExport = One sign.Async ∷ One sign.Function ∷ One sign.Star ∷ One sign.Name ∷ []
parts_of shape.ClassExport = One sign.Class ∷ One sign.Name ∷ []

-- what may follow `import`, `export` and `require`
unfoldable pub import_shapes : List Shape
import_shapes =
    shape.BareImport ∷ shape.DefaultImport ∷ shape.SpaceImport ∷ shape.NamesImport ∷ shape.DefaultSpaceImport ∷ shape.DefaultNamesImport
    ∷ shape.Call ∷ shape.CommaCall ∷ []

unfoldable pub export_shapes : List Shape
export_shapes =
    shape.StarExport ∷ shape.SpaceExport ∷ shape.NamesFromExport ∷ shape.NamesExport ∷ shape.DefaultExport
    ∷ shape.VarExport ∷ shape.LetExport ∷ shape.ConstExport
    ∷ shape.FunctionExport ∷ shape.GeneratorExport ∷ shape.AsyncFunctionExport ∷ shape.AsyncGeneratorExport ∷ shape.ClassExport ∷ []

unfoldable pub require_shapes : List Shape
require_shapes = shape.Call ∷ []

-- a call may stand at any depth, a declaration outside of all brackets
abbrev pub is_call : Shape → Bool
is_call shape.Call = true
is_call shape.CommaCall = true
is_call _ = false

-- attributes may follow the request of an import or an export declaration
abbrev pub takes_attributes : Shape → Bool
takes_attributes shape.BareImport = true
takes_attributes shape.DefaultImport = true
takes_attributes shape.SpaceImport = true
takes_attributes shape.NamesImport = true
takes_attributes shape.DefaultSpaceImport = true
takes_attributes shape.DefaultNamesImport = true
takes_attributes shape.StarExport = true
takes_attributes shape.SpaceExport = true
takes_attributes shape.NamesFromExport = true
takes_attributes _ = false
