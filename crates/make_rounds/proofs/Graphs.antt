-- The graph of gathered records is the graph of the tree.
use Rattle.std.proofs.Common.{◌≡◌, ℕ, List, [], ◌∷◌, map, refl, sym, ap, subst, ◌∙◌}
use Rattle.std.proofs.lemmas.List.Elements.{All-from_recursion, recursion_from_All}
use Rattle.std.proofs.lemmas.List.Sorted.{All-permutation, Contains-permutation, IsPermutation-map, IsPermutation-sym}
use Rattle.std.specs.List.{AllByRecursion}
use Rattle.std.specs.Prelude.{Contains, IsTrue, IsPermutation, filter_map, flat_map}
use Rattle.fault_place.specs.declared.fault.Fault.{Fault}
use Rattle.pack_util.specs.declared.number.FileId.{FileId}
use Rattle.graph_types.specs.Graphs.{IsGraphOf, roots_of}
use Rattle.graph_types.specs.Modules.{Graph, file_id, files_of, module_of}
use Rattle.graph_types.specs.Reached.{IsReached}
use Rattle.graph_types.specs.Targets.{targets_by}
use Rattle.graph_types.specs.declared.record.ModRecord.{ModRecord}
use Rattle.make_rounds.specs.inner.Answered.{numbers_of}
use Rattle.make_rounds.specs.inner.Closed.{IsGraphFrom}
use Rattle.make_rounds.proofs.Lists.{all-kept}

-- the records of the reached files, in some order
pub record AreGathered (record_of : ℕ → ModRecord) (first : List ℕ) (records : List ModRecord) : Type 0 where
  pub members : List ℕ
  pub records_are : records ≡ map record_of members
  pub reached : IsReached (targets_by record_of) first members

module _ (record_of : ℕ → ModRecord) (file_is : (number : ℕ) → (record_of number).file ≡ file_id number) where
  numbers_are : (members : List ℕ) → files_of (map record_of members) ≡ members
  numbers_are [] = refl
  numbers_are (file ∷ members) = λ i. (file_is file i).0 ∷ numbers_are members i

  each_is : (members : List ℕ) → AllByRecursion (λ (rec : ModRecord). rec ≡ record_of rec.file.0) (map record_of members)
  each_is [] = tt
  each_is (file ∷ members) = (ap (λ (one : FileId). record_of one.0) (sym (file_is file)), each_is members)

  all_are : (records : List ModRecord) → AllByRecursion (λ (rec : ModRecord). rec ≡ record_of rec.file.0) records → records ≡ map record_of (files_of records)
  all_are [] all = refl
  all_are (rec ∷ records) all = λ i. all.0 i ∷ all_are records all.1 i

same_files : (entry : List FileId) → map file_id (numbers_of entry) ≡ entry
same_files [] = refl
same_files (file ∷ entry) = ap (λ rest. file ∷ rest) (same_files entry)

pub IsReached-permutation : (targets_of : ℕ → List ℕ) (first xs ys : List ℕ) → IsPermutation xs ys → IsReached targets_of first xs → IsReached targets_of first ys
IsReached-permutation targets_of first xs ys same reached = record {
  holds = all-kept (Contains xs) (Contains ys) (λ x there. Contains-permutation xs ys x same there) first reached.holds;
  closed = λ file there.
      all-kept (Contains xs) (Contains ys) (λ x there. Contains-permutation xs ys x same there) (targets_of file)
      (reached.closed file (Contains-permutation ys xs file (IsPermutation-sym xs ys same) there));
  least = λ set all closed.
      recursion_from_All (λ file. IsTrue (set file)) ys (All-permutation (λ file. IsTrue (set file)) xs ys same (All-from_recursion (λ file. IsTrue (set file)) xs (reached.least set all closed)));
}

-- each entry's modules are those of its numbers
roots_are : (records : List ModRecord) (entries : List (List FileId)) → map (filter_map (module_of records)) entries ≡ map (roots_of records) (map numbers_of entries)
roots_are records [] = refl
roots_are records (entry ∷ entries) = λ i. filter_map (module_of records) (sym (same_files entry) i) ∷ roots_are records entries i

module _ (record_of : ℕ → ModRecord) (file_is : (number : ℕ) → (record_of number).file ≡ file_id number) (entries : List (List FileId)) (faults : List Fault) (records : List ModRecord) (graph : Graph)
    (gathered : AreGathered record_of (flat_map (λ (files : List ℕ). files) (map numbers_of entries)) records) (from : IsGraphFrom records entries faults graph) where
  members_are : files_of records ≡ gathered.members
  members_are = ap files_of gathered.records_are ∙ numbers_are record_of file_is gathered.members

  shuffled : IsPermutation gathered.members (files_of graph.records)
  shuffled = subst (λ members. IsPermutation members (files_of graph.records)) members_are (IsPermutation-map (λ (rec : ModRecord). rec.file.0) records graph.records from.same)

  each : AllByRecursion (λ (rec : ModRecord). rec ≡ record_of rec.file.0) graph.records
  each =
      recursion_from_All _ graph.records (All-permutation (λ (rec : ModRecord). rec ≡ record_of rec.file.0) records graph.records from.same
      (All-from_recursion _ records (subst (AllByRecursion (λ (rec : ModRecord). rec ≡ record_of rec.file.0)) (sym gathered.records_are) (each_is record_of file_is gathered.members))))

  pub graph_is : IsGraphOf record_of (map numbers_of entries) faults graph
  graph_is = record {
    members = files_of graph.records;
    ascending = from.ascending;
    reached = IsReached-permutation (targets_by record_of) (flat_map (λ (files : List ℕ). files) (map numbers_of entries)) gathered.members (files_of graph.records) shuffled gathered.reached;
    records_are = all_are record_of file_is graph.records each;
    roots_are = from.roots_are ∙ roots_are graph.records entries;
    faults_are = from.faults_are;
  }
