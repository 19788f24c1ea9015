-- What a look-up tries, and what it answers (this project): paths in order, and a verdict where none of them is a file.
use Rattle.std.specs.Prelude.{ℕ, ◌<◌, Bool, List, [], ◌++◌, Option, Some, None, is_some, option_and_then}
use Rattle.std.specs.List.{find}
use Rattle.graph_types.specs.Modules.{file_id}
use Rattle.tree_listing.specs.Listing.{number_at}
use Rattle.resolve_path.specs.declared.resolution.Resolution.{Resolution}
use Rattle.resolve_path.specs.declared.resolution.Resolution.TheVariants.{File, Unresolved, NotExported, BadManifest, BadTarget}

pub record Places : Type 0 where
  pub paths : List (List ℕ)
  pub verdict : Resolution

-- nothing is tried, and this is answered
abbrev pub only : Resolution → Places
only verdict = record { paths = []; verdict = verdict }

-- some paths are tried before all others
abbrev pub before : List (List ℕ) → Places → Places
before paths places = record { paths = paths ++ places.paths; verdict = places.verdict }

abbrev pub is_file : List (List ℕ × ℕ) → List ℕ → Bool
is_file files path = is_some (number_at files path)

-- the number of the first of some paths that is a file
abbrev pub first_number : List (List ℕ × ℕ) → List (List ℕ) → Option ℕ
first_number files paths = option_and_then (number_at files) (find (is_file files) paths)

abbrev pub file_or : Resolution → Option ℕ → Resolution
file_or verdict None = verdict
file_or verdict (Some number) = File (file_id number)

-- the first of the paths that is a file, else the verdict
abbrev pub answer_among : List (List ℕ × ℕ) → Places → Resolution
answer_among files places = file_or places.verdict (first_number files places.paths)

-- the file of an answer is one of so many
abbrev pub HasFileWithin : ℕ → Resolution → Type 0
HasFileWithin count (File file) = file.0 < count
HasFileWithin count Unresolved = Unit {0}
HasFileWithin count NotExported = Unit {0}
HasFileWithin count (BadManifest path) = Unit {0}
HasFileWithin count (BadTarget path) = Unit {0}
