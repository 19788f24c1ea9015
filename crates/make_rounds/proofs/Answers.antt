-- What the answers to the requests of entries come to.
use Rattle.std.proofs.Common.{◌≡◌, ℕ, ◌<◌, List, [], ◌∷◌, ◌++◌, map, refl, ap, ◌∙◌}
use Rattle.std.specs.List.{AllByRecursion}
use Rattle.std.specs.Prelude.{Option, Some, None, filter_map, flat_map, option_map}
use Rattle.pack_util.specs.declared.number.FileId.{FileId}
use Rattle.graph_types.specs.declared.entry.EntryFile.{EntryFile}
use Rattle.graph_types.specs.declared.entry.EntrySpec.{EntrySpec}
use Rattle.module_build.specs.Answers.{file_named}
use Rattle.module_build.specs.Record.{Naming}
use Rattle.resolve_path.specs.Places.{HasFileWithin}
use Rattle.resolve_path.specs.declared.resolution.Resolution.{Resolution}
use Rattle.resolve_path.specs.declared.resolution.Resolution.TheVariants.{File, Unresolved, NotExported, BadManifest, BadTarget}
use Rattle.make_rounds.specs.Entries.{entry_faults, entry_file, entry_files}
use Rattle.make_rounds.specs.declared.entry_answer.EntryAnswer.{EntryAnswer}
use Rattle.make_rounds.specs.inner.Answered.{answer_fault, answer_faults, answered_by, answered_entry, named_files, numbers_of}

next_within : (count : ℕ) (one : EntryAnswer) (answers : List EntryAnswer) (answer : Resolution) → one.answer ≡ answer → HasFileWithin count answer
    → AllByRecursion (λ (file : FileId). file.0 < count) (named_files answers) → AllByRecursion (λ (file : FileId). file.0 < count) (named_files (one ∷ answers))
next_within count one answers (File file) same is all = rw same (is, all)
next_within count one answers Unresolved same is all = rw same all
next_within count one answers NotExported same is all = rw same all
next_within count one answers (BadManifest path) same is all = rw same all
next_within count one answers (BadTarget path) same is all = rw same all

named_within : (count : ℕ) (answers : List EntryAnswer) → AllByRecursion (λ (one : EntryAnswer). HasFileWithin count one.answer) answers → AllByRecursion (λ (file : FileId). file.0 < count) (named_files answers)
named_within count [] all = tt
named_within count (one ∷ answers) all = next_within count one answers one.answer refl all.0 (named_within count answers all.1)

pub all_within : (count : ℕ) (all : List (List EntryAnswer)) → AllByRecursion (AllByRecursion (λ (one : EntryAnswer). HasFileWithin count one.answer)) all
    → AllByRecursion (AllByRecursion (λ (file : FileId). file.0 < count)) (map named_files all)
all_within count [] each = tt
all_within count (answers ∷ all) each = (named_within count answers each.0, all_within count all each.1)

kept_by : {X Y Z : Type 0} (f : X → Y) (h : Y → Option Z) (x : X) (xs : List X) (found : Option Z) → found ≡ h (f x)
    → filter_map h (map f xs) ≡ filter_map (λ x. h (f x)) xs → filter_map h (map f (x ∷ xs)) ≡ filter_map (λ x. h (f x)) (x ∷ xs)
kept_by f h x xs None is rest = rw (← is) rest
kept_by f h x xs (Some z) is rest = rw (← is) (ap (λ zs. z ∷ zs) rest)

filter_map-map : {X Y Z : Type 0} (f : X → Y) (h : Y → Option Z) (xs : List X) → filter_map h (map f xs) ≡ filter_map (λ x. h (f x)) xs
filter_map-map f h [] = refl
filter_map-map f h (x ∷ xs) = kept_by f h x xs (h (f x)) refl (filter_map-map f h xs)

named_by : {X Y Z : Type 0} (g : Y → Z) (h : X → Option Y) (x : X) (xs : List X) (found : Option Y) → found ≡ h x
    → map g (filter_map h xs) ≡ filter_map (λ x. option_map g (h x)) xs → map g (filter_map h (x ∷ xs)) ≡ filter_map (λ x. option_map g (h x)) (x ∷ xs)
named_by g h x xs None is rest = rw (← is) rest
named_by g h x xs (Some y) is rest = rw (← is) (ap (λ zs. g y ∷ zs) rest)

map-filter_map : {X Y Z : Type 0} (g : Y → Z) (h : X → Option Y) (xs : List X) → map g (filter_map h xs) ≡ filter_map (λ x. option_map g (h x)) xs
map-filter_map g h [] = refl
map-filter_map g h (x ∷ xs) = named_by g h x xs (h x) refl (map-filter_map g h xs)

module _ (naming : Naming) where
  numbers : (files : List EntryFile) → numbers_of (named_files (map (answered_by naming) files)) ≡ filter_map (λ (file : EntryFile). option_map (λ (id : FileId). id.0) (entry_file naming file)) files
  numbers files =
      ap numbers_of (filter_map-map (answered_by naming) (λ (one : EntryAnswer). file_named one.answer) files)
      ∙ map-filter_map (λ (id : FileId). id.0) (entry_file naming) files

  pub files_are : (entries : List EntrySpec) → map numbers_of (map named_files (map (answered_entry naming) entries)) ≡ map (entry_files naming) entries
  files_are [] = refl
  files_are (entry ∷ entries) = λ i. numbers entry.files i ∷ files_are entries i

  pub faults_are : (path : List ℕ) (entries : List EntrySpec) → flat_map (answer_faults path) (map (answered_entry naming) entries) ≡ flat_map (entry_faults naming path) entries
  faults_are path [] = refl
  faults_are path (entry ∷ entries) = λ i. filter_map-map (answered_by naming) (answer_fault path) entry.files i ++ faults_are path entries i
