-- The record of a tree's file has the file's number, path and length.
use Rattle.std.proofs.Common.{◌≡◌, ℕ, ◌<◌, Bool, true, false, cond, List, [], ◌∷◌, length, refl, sym, ◌∙◌}
use Rattle.std.proofs.lemmas.List.{get_or_default}
use Rattle.std.specs.Cmp.Lexicographic.{slice_cmp}
use Rattle.std.specs.FinMap.Entries.{find, is_sorted}
use Rattle.std.specs.Ordering.{eq_by_cmp, nat_cmp}
use Rattle.std.specs.Prelude.{IsTrue, Option, Some, None, Ok, Err, nat_le, option_map, unwrap_or}
use Rattle.es_tokens.specs.Tokens.{tokens_of}
use Rattle.pack_util.specs.declared.number.TheConstants.{MAX_TEXT}
use Rattle.pack_util.specs.declared.number.FileId.{FileId}
use Rattle.graph_types.specs.Modules.{file_id}
use Rattle.graph_types.specs.declared.config.Config.{Config}
use Rattle.graph_types.specs.declared.record.ModRecord.{ModRecord}
use Rattle.module_build.specs.Readings.{Readings}
use Rattle.module_build.specs.Record.{answered, got_record, record_of}
use Rattle.module_parse.specs.Parsed.{Reading, is_json, is_script, json_record, parsed_record}
use Rattle.module_parse.specs.Scripts.{script_record}
use Rattle.outside.specs.Tree.{Tree, bytes_at}
use Rattle.outside.specs.declared.entry.ReadGot.TheVariants.{Whole, TooLong}
use Rattle.tree_listing.specs.Listing.{length_at, lengths_of, path_at}
use Rattle.tree_listing.proofs.Whole.{find_from}

record IsOf (file : FileId) (path : List ℕ) (size : ℕ) (rec : ModRecord) : Type 0 where
  pub file_is : rec.file ≡ file
  pub path_is : rec.path ≡ path
  pub size_is : rec.size ≡ size

record IsAt (file : FileId) (path : List ℕ) (rec : ModRecord) : Type 0 where
  pub file_is : rec.file ≡ file
  pub path_is : rec.path ≡ path

module _ (file : FileId) (path text : List ℕ) where
  either : (rec other : ModRecord) (b : Bool) → IsOf file path (length text) rec → IsOf file path (length text) other → IsOf file path (length text) (cond b rec other)
  either rec other true one two = one
  either rec other false one two = two

  parsed_is : (reading : Reading) → IsOf file path (length text) (parsed_record reading file path text)
  parsed_is reading =
      either _ _ (is_json path)
      (elim (reading text) as (λ read. IsOf file path (length text) (json_record file path text read)) [
        | Ok tree ↦ record { file_is = refl; path_is = refl; size_is = refl }
        | Err fault ↦ record { file_is = refl; path_is = refl; size_is = refl }
      ])
      (either _ _ (is_script path)
      (elim (tokens_of text) as (λ read. IsOf file path (length text) (script_record file path text read)) [
        | Ok tokens ↦ record { file_is = refl; path_is = refl; size_is = refl }
        | Err fault ↦ record { file_is = refl; path_is = refl; size_is = refl }
      ])
      (record { file_is = refl; path_is = refl; size_is = refl }))

module _ (readings : Readings) (tree : Tree) (config : Config) (file : FileId) (path : List ℕ) (size : ℕ) where
  text_size : (text : List ℕ) → length text ≡ size → (got_record readings tree config file path size (Whole text)).size ≡ size
  unfolding answered
  text_size text same = (parsed_is file path text readings.json).size_is ∙ same

  text_at : (text : List ℕ) → IsAt file path (got_record readings tree config file path size (Whole text))
  unfolding answered
  text_at text =
      let parsed = parsed_is file path text readings.json in
      record { file_is = parsed.file_is; path_is = parsed.path_is }

  got_at : (text : List ℕ) (b : Bool) → IsAt file path (got_record readings tree config file path size (cond b (Whole text) TooLong))
  got_at text true = text_at text
  got_at text false = record { file_is = refl; path_is = refl }

  size_by : (text : List ℕ) (b : Bool) → length text ≡ size → (got_record readings tree config file path size (cond b (Whole text) TooLong)).size ≡ size
  size_by text true same = text_size text same
  size_by text false same = refl

found_length : (tree : Tree) (path : List ℕ) → find (slice_cmp nat_cmp) path (lengths_of tree) ≡ option_map length (bytes_at tree path)
found_length [] path = refl
found_length (file ∷ tree) path =
    elim (eq_by_cmp (slice_cmp nat_cmp) path file.0) as (λ b. cond b (Some (length file.1)) (find (slice_cmp nat_cmp) path (lengths_of tree)) ≡ option_map length (cond b (Some file.1) (bytes_at tree path))) [
      | true ↦ refl
      | false ↦ found_length tree path
    ]

length_by : (found : Option (List ℕ)) (size : ℕ) → option_map length found ≡ Some size → length (unwrap_or found []) ≡ size
length_by (Some bytes) size is = cc
length_by None size is = cc

-- the files of a listing of the tree
module _ (tree : Tree) (sorted : IsTrue (is_sorted (slice_cmp nat_cmp) (lengths_of tree))) (number : ℕ) (within : number < length (lengths_of tree)) where
  length_is : length (unwrap_or (bytes_at tree (path_at (lengths_of tree) number)) []) ≡ length_at (lengths_of tree) number
  length_is =
      let files = lengths_of tree in
      let path = path_at files number in
      let size = length_at files number in
      length_by (bytes_at tree path) size
      (sym (found_length tree path) ∙ find_from files sorted path size number within (get_or_default files number (path, size) ([], 0) within))

  pub size_is : (readings : Readings) (config : Config) → (record_of readings tree config number).size ≡ length_at (lengths_of tree) number
  unfolding record_of
  size_is readings config =
      let files = lengths_of tree in
      let path = path_at files number in
      let text = unwrap_or (bytes_at tree path) [] in
      size_by readings tree config (file_id number) path (length_at files number) text (nat_le (length text) MAX_TEXT) length_is

module _ (readings : Readings) (tree : Tree) (config : Config) (number : ℕ) where
  all_at : IsAt (file_id number) (path_at (lengths_of tree) number) (record_of readings tree config number)
  unfolding record_of
  all_at =
      let files = lengths_of tree in
      let path = path_at files number in
      let text = unwrap_or (bytes_at tree path) [] in
      got_at readings tree config (file_id number) path (length_at files number) text (nat_le (length text) MAX_TEXT)

  pub file_is : (record_of readings tree config number).file ≡ file_id number
  file_is = all_at.file_is

  pub path_is : (record_of readings tree config number).path ≡ path_at (lengths_of tree) number
  path_is = all_at.path_is
