-- What is told of a module beside its faults (this project).
use Rattle.std.specs.Prelude.{ℕ, List, [], ◌∷◌}
use Rattle.es_tokens.specs.declared.token.Token.{Token}
use Rattle.form_shapes.specs.Source.{start_at}
use Rattle.form_shapes.specs.declared.standing.Standing.{Standing}
use Rattle.form_shapes.specs.declared.standing.Standing.TheVariants.{ImportCall, OddImport, OddRequire}
use Rattle.graph_types.specs.declared.note.Note.{Note}
use Rattle.graph_types.specs.declared.note.NoteKind.TheVariants.{N2}
use Rattle.magic_comments.specs.declared.magic.Magic.{Magic}

-- a call of `import` tells what its magic comments do; a call of `require` without one text is told itself
unfoldable pub notes_by : List Token → ℕ → Magic → Standing → List Note
notes_by tokens at magic (ImportCall form) = magic.notes
notes_by tokens at magic OddImport = magic.notes
notes_by tokens at magic OddRequire = record { at = start_at tokens at; kind = N2; detail = [] } ∷ []
notes_by tokens at magic _ = []
