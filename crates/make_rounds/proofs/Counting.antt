-- What records and files count, one after another, and that different files among others count no more.
use Rattle.std.proofs.Common.{◌≡◌, ℕ, ◌+◌, ◌<◌, ◌≤◌, Bool, true, false, List, [], ◌∷◌, length, get_or, map, set, refl, sym, ap, subst, ◌∙◌, arith}
use Rattle.std.proofs.lemmas.List.{length-map, length-set}
use Rattle.std.proofs.lemmas.List.Sums.{sum_by-cons}
use Rattle.std.specs.List.{AllByRecursion, IsDistinct, list_any, sum_by}
use Rattle.std.specs.Prelude.{nat_eq, IsTrue}
use Rattle.fault_place.specs.Limit.{number_of}
use Rattle.fault_place.specs.declared.limit.Limit.{Limit}
use Rattle.fault_place.specs.declared.limit.Limit.TheVariants as limits
use Rattle.pack_util.specs.declared.number.FileId.{FileId}
use Rattle.graph_types.specs.Reached.{HoldsAll}
use Rattle.graph_types.specs.declared.record.ModRecord.{ModRecord}
use Rattle.module_build.proofs.Lists.{all-at}
use Rattle.tree_listing.specs.Listing.{length_at}
use Rattle.make_rounds.specs.Counts.{counted, lazy_items, text_bytes}
use Rattle.make_rounds.specs.declared.counts.Counts.{Counts}
use Rattle.make_rounds.specs.declared.found.Found.{Found}
use Rattle.make_rounds.specs.inner.Counting.{IsExceeded, bytes_read, with_file}
use Rattle.make_rounds.specs.inner.Answered.{numbers_of}
use Rattle.make_rounds.specs.inner.Found.{IsCounted, file_counts, marked}
use Rattle.make_rounds.proofs.Lists.{all-of_map}
use Rattle.make_rounds.proofs.Rows.{held_marked, length_marked, sum_marked}
use Rattle.make_rounds.proofs.Within.{length_of_map, sum_of_map, sum_within}

-- one file more
pub file_more : (listed : List (List ℕ × ℕ)) (row : List Bool) (file : ℕ) → file < length row → get_or row file false ≡ false → with_file (file_counts listed (marked row)) (length_at listed file) ≡ file_counts listed (marked (set row file true))
file_more listed row file within fresh =
    let files = length_marked 0 row file within fresh in
    let bytes = sum_marked (λ one. bytes_read (length_at listed one)) 0 row file file within fresh (omega arith) in
    λ i. record { modules = sym files i; text_bytes = sym bytes i; items = 0; blocks = 0 }

-- the next of some files, which wasn't marked
module _ (listed : List (List ℕ × ℕ)) (found : Found) (row : List Bool) (files : List FileId) (place : ℕ) (default : FileId) (set_is : row ≡ set found.marks (get_or files place default).0 true) (next : place < length files) where
  pub counted_next : (bytes : ℕ) (counts : Counts) → bytes ≡ length_at listed (get_or files place default).0 → counts ≡ with_file found.counts bytes → IsCounted listed found → AllByRecursion (λ (file : FileId). file.0 < length listed) files
      → get_or found.marks (get_or files place default).0 false ≡ false → IsCounted listed (record { marks = row; counts = counts })
  counted_next bytes counts bytes_are counts_are counted within fresh =
      let file = (get_or files place default).0 in
      let inside : file < length found.marks = subst (λ n. file < n) (sym counted.as_many) (all-at (λ (file : FileId). file.0 < length listed) files place default next within) in
      record {
        as_many = ap length set_is ∙ length-set found.marks file true ∙ counted.as_many;
        counts = counts_are ∙ ap (with_file found.counts) bytes_are ∙ ap (λ counts. with_file counts (length_at listed file)) counted.counts
            ∙ file_more listed found.marks file inside fresh ∙ ap (λ row. file_counts listed (marked row)) (sym set_is);
      }

  pub held_next : (held : ℕ → Bool) → HoldsAll held (numbers_of files) → HoldsAll held (marked found.marks) → HoldsAll held (marked row)
  held_next held all old =
      let file = (get_or files place default).0 in
      let one = all-at (λ (file : FileId). IsTrue (held file.0)) files place default next (all-of_map (λ file. IsTrue (held file)) (λ (file : FileId). file.0) files all) in
      subst (λ row. HoldsAll held (marked row)) (sym set_is) (held_marked held 0 found.marks file file old one (omega arith))

-- what is counted of files by their lengths is what their records count
module _ (listed : List (List ℕ × ℕ)) (record_of : ℕ → ModRecord) where
  bytes_same : (files : List ℕ) → AllByRecursion (λ file. (record_of file).size ≡ length_at listed file) files → sum_by text_bytes (map record_of files) ≡ sum_by (λ file. bytes_read (length_at listed file)) files
  bytes_same [] all = refl
  bytes_same (file ∷ files) all =
      sum_by-cons text_bytes (record_of file) (map record_of files)
      ∙ ap (λ size. bytes_read size + sum_by text_bytes (map record_of files)) all.0
      ∙ ap (λ rest. bytes_read (length_at listed file) + rest) (bytes_same files all.1)
      ∙ sym (sum_by-cons (λ one. bytes_read (length_at listed one)) file files)

  pub exceeded_by_records : (files : List ℕ) → AllByRecursion (λ file. (record_of file).size ≡ length_at listed file) files → (limit : Limit) → IsExceeded (file_counts listed files) limit → number_of limit < counted (map record_of files) limit
  exceeded_by_records files all limits.Files more = more
  exceeded_by_records files all limits.PathBytes more = more
  exceeded_by_records files all limits.Modules more = let same = length-map files record_of in omega (arith, same, more)
  exceeded_by_records files all limits.TextBytes more = let same = bytes_same files all in omega (arith, same, more)
  exceeded_by_records files all limits.Items more = let none : number_of limits.Items < 0 = more in omega (arith, none)
  exceeded_by_records files all limits.Blocks more = let none : number_of limits.Blocks < 0 = more in omega (arith, none)
  exceeded_by_records files all limits.Groups more = more
  exceeded_by_records files all limits.Chunks more = more
  exceeded_by_records files all limits.OutputBytes more = more

-- each limit counts a sum over the files
module _ (record_of : ℕ → ModRecord) (xs ys : List ℕ) (distinct : IsDistinct nat_eq xs) (there : AllByRecursion (λ x. list_any (nat_eq x) ys ≡ true) xs) where
  summed : (g : ModRecord → ℕ) → sum_by g (map record_of xs) ≤ sum_by g (map record_of ys)
  summed g =
      let fewer = sum_within (λ x. g (record_of x)) xs ys distinct there in
      let left = sum_of_map g record_of xs in
      let right = sum_of_map g record_of ys in
      omega (arith, fewer, left, right)

  pub counted_within : (limit : Limit) → counted (map record_of xs) limit ≤ counted (map record_of ys) limit
  counted_within limits.Files = omega arith
  counted_within limits.PathBytes = omega arith
  counted_within limits.Modules =
      let fewer = sum_within (λ x. 1) xs ys distinct there in
      let left = length_of_map record_of xs in
      let right = length_of_map record_of ys in
      omega (arith, fewer, left, right)
  counted_within limits.TextBytes = summed text_bytes
  counted_within limits.Items = summed (λ (rec : ModRecord). length rec.items)
  counted_within limits.Blocks = summed lazy_items
  counted_within limits.Groups = omega arith
  counted_within limits.Chunks = omega arith
  counted_within limits.OutputBytes = omega arith
