-- The modules of files that are reached are numbers of modules.
use Rattle.std.proofs.Common.{◌≡◌, ℕ, ◌<◌, Bool, List, [], ◌∷◌, length, map, Option, Some, None, refl}
use Rattle.std.specs.Prelude.{◌==◌, filter_map, position, option_map}
use Rattle.std.specs.List.{AllByRecursion}
use Rattle.std.proofs.lemmas.List.{length-map}
use Rattle.std.proofs.lemmas.List.Quantifiers.{position-Some}
use Rattle.pack_util.specs.declared.number.FileId.{FileId}
use Rattle.pack_util.specs.declared.number.ModuleNo.{ModuleNo}
use Rattle.graph_types.specs.Modules.{AreNumbersOf, files_of, module_no, module_of}
use Rattle.graph_types.specs.declared.record.ModRecord.{ModRecord}

place_within : (records : List ModRecord) (test : ℕ → Bool) (place : ℕ) → position test (files_of records) ≡ Some place → place < length records
place_within records test place found =
    let inside : place < length (files_of records) = (position-Some test (files_of records) place 0 found).0 in
    rw length-map at inside

-- what is kept of files, where each that is kept is below a bound
module _ (records : List ModRecord) where
  one : (rest : List ModuleNo) (o : Option ℕ) → ((place : ℕ) → o ≡ Some place → place < length records) → AreNumbersOf records rest → (file : FileId) (files : List FileId)
      → filter_map (module_of records) files ≡ rest → module_of records file ≡ option_map module_no o → AreNumbersOf records (filter_map (module_of records) (file ∷ files))
  one rest None within all file files is at = rw (at, is) all
  one rest (Some place) within all file files is at = rw (at, is) (within place refl, all)

  pub roots_within : (files : List FileId) → AreNumbersOf records (filter_map (module_of records) files)
  roots_within [] = tt
  roots_within (file ∷ files) =
      one _ (position (λ number. number == file.0) (files_of records)) (place_within records (λ number. number == file.0)) (roots_within files) file files refl refl

  pub all_roots_within : (entries : List (List FileId)) → AllByRecursion (AreNumbersOf records) (map (filter_map (module_of records)) entries)
  all_roots_within [] = tt
  all_roots_within (entry ∷ entries) = (roots_within entry, all_roots_within entries)
