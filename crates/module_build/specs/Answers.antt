-- What a request's answer comes to (this project): a file, a fault, or a `require` that is left as it is written.
use Rattle.std.specs.Prelude.{ℕ, Bool, true, false, ◌&&◌, List, Option, None, Some, if◌then◌else◌}
use Rattle.fault_place.specs.Place.{place_in}
use Rattle.fault_place.specs.declared.fault.Fault.{Fault}
use Rattle.fault_place.specs.declared.fault.FaultKind.TheVariants as kinds
use Rattle.pack_util.specs.declared.number.FileId.{FileId}
use Rattle.fault_place.specs.declared.place.Place.{Place}
use Rattle.graph_types.specs.Whole.{is_require}
use Rattle.graph_types.specs.declared.item.Item.{Item}
use Rattle.graph_types.specs.declared.item.ItemKind.{ItemKind}
use Rattle.graph_types.specs.declared.note.Note.{Note}
use Rattle.graph_types.specs.declared.note.NoteKind.TheVariants.{N1}
use Rattle.resolve_path.specs.declared.request_kind.RequestKind.{RequestKind}
use Rattle.resolve_path.specs.declared.request_kind.RequestKind.TheVariants as requests
use Rattle.resolve_path.specs.declared.resolution.Resolution.{Resolution}
use Rattle.resolve_path.specs.declared.resolution.Resolution.TheVariants.{File, Unresolved, NotExported, BadManifest, BadTarget}
use Rattle.module_build.specs.declared.asked.Asked.{Asked}

-- `require` asks as such, and every other item as an import does (Node.js, "Conditional exports")
abbrev pub asks_as : ItemKind → RequestKind
asks_as kind = if is_require kind then requests.Require else requests.Import

abbrev pub file_named : Resolution → Option FileId
file_named (File file) = Some file
file_named Unresolved = None
file_named NotExported = None
file_named (BadManifest path) = None
file_named (BadTarget path) = None

-- nothing is named, and no manifest is to blame
abbrev pub is_missing : Resolution → Bool
is_missing (File file) = false
is_missing Unresolved = true
is_missing NotExported = true
is_missing (BadManifest path) = false
is_missing (BadTarget path) = false

-- the fault of a request that names no file, at a place: it tells the request, or the manifest that is to blame
abbrev pub refusal : Place → List ℕ → Resolution → Option Fault
refusal place request (File file) = None
refusal place request Unresolved = Some (record { place = place; kind = kinds.Unresolved; detail = request })
refusal place request NotExported = Some (record { place = place; kind = kinds.NotExported; detail = request })
refusal place request (BadManifest path) = Some (record { place = place; kind = kinds.BadManifest; detail = path })
refusal place request (BadTarget path) = Some (record { place = place; kind = kinds.BadTarget; detail = path })

-- a `require` of what is missing isn't a fault: it stays as written, since it may never be run
abbrev pub is_left : Asked → Bool
is_left asked = is_require asked.item.kind && is_missing asked.answer

abbrev pub request_fault : List ℕ → List ℕ → Asked → Option Fault
request_fault path text asked = if is_left asked then None else refusal (place_in path text asked.item.at) asked.item.request asked.answer

-- and is noted
abbrev pub request_note : Asked → Option Note
request_note asked = if is_left asked then Some (record { at = asked.item.at; kind = N1; detail = asked.item.request }) else None

-- the item with the file that its request names
abbrev pub answered_item : Asked → Item
answered_item asked = record asked.item { target = file_named asked.answer }
