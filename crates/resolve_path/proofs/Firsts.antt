-- The first of some paths that is a file.
use Rattle.std.proofs.Common.{◌≡◌, ℕ, ◌-◌, ◌≤◌, ◌++◌, true, false, cond, List, [], ◌∷◌, suc, length, take, drop, get_or, Option, Some, None, map, append-nil, refl, sym, ap, subst, ◌∙◌, arith}
use Rattle.std.proofs.lemmas.List.{take_all}
use Rattle.std.proofs.lemmas.Bool.{false≢true}
use Rattle.std.specs.List.{find, flat_map}
use Rattle.std.specs.Option.{option_or, option_and_then, option_map, is_some}
use Rattle.std.specs.Prelude.{IfOk, Result}
use Rattle.std.specs.Str.{bytes_eq}
use Rattle.graph_types.specs.declared.config.Config.{Config}
use Rattle.pack_util.specs.declared.number.FileId.{FileId}
use Rattle.tree_listing.specs.Listing.{number_at}
use Rattle.resolve_path.specs.Files.{file_paths}
use Rattle.resolve_path.specs.Places.{Places, answer_among, before, file_or, first_number, is_file}
use Rattle.resolve_path.specs.declared.resolution.Resolution.TheVariants.{File}

step : (look : List ℕ → Option ℕ) (path : List ℕ) (rest : Option (List ℕ)) (found : Option ℕ) → look path ≡ found
    → option_and_then look (cond (is_some found) (Some path) rest) ≡ option_or found (option_and_then look rest)
step look path rest (Some number) e = e
step look path rest None e = refl

pub first_step : (files : List (List ℕ × ℕ)) (path : List ℕ) (paths : List (List ℕ)) → first_number files (path ∷ paths) ≡ option_or (number_at files path) (first_number files paths)
first_step files path paths = step (number_at files) path (find (is_file files) paths) (number_at files path) refl

or_assoc : (a b c : Option ℕ) → option_or (option_or a b) c ≡ option_or a (option_or b c)
or_assoc None b c = refl
or_assoc (Some x) b c = refl

pub first_append : (files : List (List ℕ × ℕ)) (paths more : List (List ℕ)) → first_number files (paths ++ more) ≡ option_or (first_number files paths) (first_number files more)
first_append files [] more = refl
first_append files (path ∷ paths) more =
    first_step files path (paths ++ more)
    ∙ ap (option_or (number_at files path)) (first_append files paths more)
    ∙ sym (or_assoc (number_at files path) (first_number files paths) (first_number files more))
    ∙ ap (λ found. option_or found (first_number files more)) (sym (first_step files path paths))

abbrev pub number_of : Option FileId → Option ℕ
number_of found = option_map (λ file. file.0) found

-- where the first part has a file, that is the first of all
pub found_here : (found : Option FileId) (here later all : Option ℕ) → is_some found ≡ true → number_of found ≡ here → option_or here later ≡ all → number_of found ≡ all
found_here (Some file) here later all some is e = ap (λ one. option_or one later) is ∙ e
found_here None here later all some is e = absurd (false≢true some)

-- where it has none, the first is among the others
pub found_later : (found : Option FileId) (here later all : Option ℕ) → is_some found ≡ false → number_of found ≡ here → option_or here later ≡ all → later ≡ all
found_later None here later all none is e = ap (λ one. option_or one later) is ∙ e
found_later (Some file) here later all none is e = absurd (false≢true (sym none))

-- the file that a path is, or else the first with an ending
module _ (files : List (List ℕ × ℕ)) (config : Config) (found : Option FileId) where
  pub as_here : (path : List ℕ) → bytes_eq path [] ≡ false → is_some found ≡ true → number_of found ≡ number_at files (path ++ []) → number_of found ≡ first_number files (file_paths config path)
  as_here [] full some is = absurd (false≢true (sym full))
  as_here (byte ∷ bytes) full some is =
      found_here found (number_at files (byte ∷ bytes)) (first_number files (map (λ ending. (byte ∷ bytes) ++ ending) config.extensions)) (first_number files (file_paths config (byte ∷ bytes))) some
      (is ∙ ap (number_at files) (append-nil (byte ∷ bytes)))
      (sym (first_step files (byte ∷ bytes) (map (λ ending. (byte ∷ bytes) ++ ending) config.extensions)))

  pub as_later : (path : List ℕ) → bytes_eq path [] ≡ false → is_some found ≡ false → number_of found ≡ number_at files (path ++ [])
      → first_number files (map (λ ending. path ++ ending) config.extensions) ≡ first_number files (file_paths config path)
  as_later [] full none is = absurd (false≢true (sym full))
  as_later (byte ∷ bytes) full none is =
      found_later found (number_at files (byte ∷ bytes)) (first_number files (map (λ ending. (byte ∷ bytes) ++ ending) config.extensions)) (first_number files (file_paths config (byte ∷ bytes))) none
      (is ∙ ap (number_at files) (append-nil (byte ∷ bytes)))
      (sym (first_step files (byte ∷ bytes) (map (λ ending. (byte ∷ bytes) ++ ending) config.extensions)))

pub at_end : {E : Type 0} (result : Result (Option FileId) E) (one other : Option ℕ) → one ≡ other → IfOk result (λ found. number_of found ≡ one) → IfOk result (λ found. number_of found ≡ other)
at_end result one other e h = subst (λ number. IfOk result (λ found. number_of found ≡ number)) e h

-- the paths of the first of some names, and those of the others
pub first_flat : (files : List (List ℕ × ℕ)) (paths : List ℕ → List (List ℕ)) (names : List (List ℕ)) (d : List ℕ) → 1 ≤ length names
    → option_or (first_number files (paths (get_or names 0 d))) (first_number files (flat_map paths (take (length names - 1) (drop 1 names)))) ≡ first_number files (flat_map paths names)
first_flat files paths [] d some = absurd (omega (arith, some))
first_flat files paths (name ∷ names) d some =
    ap (λ rest. option_or (first_number files (paths name)) (first_number files (flat_map paths rest))) (take_all (suc (length names) - 1) names (omega arith))
    ∙ sym (first_append files (paths name) (flat_map paths names))

-- paths that are tried before others
pub found_before : (files : List (List ℕ × ℕ)) (paths : List (List ℕ)) (places : Places) (file : FileId) → number_of (Some file) ≡ first_number files paths → File file ≡ answer_among files (before paths places)
found_before files paths places file is =
    ap (λ found. file_or places.verdict (option_or found (first_number files places.paths))) is
    ∙ ap (file_or places.verdict) (sym (first_append files paths places.paths))

pub none_before : (files : List (List ℕ × ℕ)) (paths : List (List ℕ)) (places : Places) → None ≡ first_number files paths → answer_among files places ≡ answer_among files (before paths places)
none_before files paths places is =
    ap (λ found. file_or places.verdict (option_or found (first_number files places.paths))) is
    ∙ ap (file_or places.verdict) (sym (first_append files paths places.paths))
