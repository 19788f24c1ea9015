-- The files that a build has found, and what is counted of them before they are read (this project).
use Rattle.std.specs.Prelude.{◌≡◌, ℕ, Bool, List, length}
use Rattle.std.specs.List.{sum_by}
use Rattle.tree_listing.specs.Listing.{length_at}
use Rattle.make_rounds.specs.declared.counts.Counts.{Counts}
use Rattle.make_rounds.specs.declared.found.Found.{Found}
use Rattle.make_rounds.specs.inner.Counting.{bytes_read}
use Rattle.make_rounds.specs.inner.Places.{places_where}

-- the files that a row marks, in order
abbrev pub marked : List Bool → List ℕ
marked row = places_where (λ mark. mark) 0 row

-- what is counted of files by their lengths
abbrev pub file_counts : List (List ℕ × ℕ) → List ℕ → Counts
file_counts listed files = record { modules = length files; text_bytes = sum_by (λ file. bytes_read (length_at listed file)) files; items = 0; blocks = 0 }

-- each file of a listing has a mark, and what is counted is that of the marked files
pub record IsCounted (listed : List (List ℕ × ℕ)) (found : Found) : Type 0 where
  pub as_many : length found.marks ≡ length listed
  pub counts : found.counts ≡ file_counts listed (marked found.marks)
