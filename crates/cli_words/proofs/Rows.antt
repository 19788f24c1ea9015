-- The rows of `clap`'s matches, one for each argument that was used.
use Rattle.std.proofs.Common.{◌≡◌, Bool, true, false, cond, ◌||◌, List, [], ◌∷◌, ◌++◌, codes, bytes_eq, Option, Some, None, option_map, option_and_then, find, slice_get, refl, ap, ◌∙◌}
use Rattle.std.specs.Prelude.{is_some}
use Rattle.std.proofs.lemmas.List.{append-nil}
use Rattle.std.specs.List.{fold}
use Rattle.clap.specs.Walk.{Row, Rule, all_of, at_row, default_rows, first_of, has_row, more_values, reading_by, used, with_default, without}
use Rattle.clap.specs.declared.parser.matches.ValueSource.TheVariants.{CommandLine}
use Rattle.cli_words.specs.Words.{Word}
use Rattle.cli_words.specs.inner.Clap.{rules, used_row, word_made, workers_made}

abbrev has_id : Word → Row → Bool
has_id id row = bytes_eq row.id id

-- ---- a row is there exactly where it has values

pub has_values : (id : Word) (rows : List Row) → has_row id rows ≡ is_some (all_of id rows)
has_values id [] = refl
has_values id (row ∷ rows) = by_row (has_id id row) (has_values id rows)
  where
    by_row : (b : Bool) → has_row id rows ≡ is_some (all_of id rows) → (b || has_row id rows) ≡ is_some (option_map (λ r. r.values) (cond b (Some row) (find (has_id id) rows)))
    by_row true e = refl
    by_row false e = e

pub first_is : (id : Word) (rows : List Row) → first_of id rows ≡ option_and_then (λ values. slice_get values 0) (all_of id rows)
first_is id rows = by_row (find (has_id id) rows)
  where
    by_row : (found : Option Row) → option_and_then (λ (r : Row). slice_get r.values 0) found ≡ option_and_then (λ values. slice_get values 0) (option_map (λ (r : Row). r.values) found)
    by_row None = refl
    by_row (Some row) = refl

-- ---- one more row

abbrev pub or_row : Word → Row → Option (List Word) → Option (List Word)
or_row id row None = cond (has_id id row) (Some row.values) None
or_row id row (Some values) = Some values

pub all_with : (id : Word) (rows : List Row) (row : Row) → all_of id (rows ++ row ∷ []) ≡ or_row id row (all_of id rows)
all_with id [] row = by_test (has_id id row)
  where
    by_test : (b : Bool) → option_map (λ (r : Row). r.values) (cond b (Some row) None) ≡ cond b (Some row.values) None
    by_test true = refl
    by_test false = refl
all_with id (first ∷ rows) row = by_first (has_id id first) (all_with id rows row)
  where
    by_first : (b : Bool) → all_of id (rows ++ row ∷ []) ≡ or_row id row (all_of id rows) →
        option_map (λ (r : Row). r.values) (cond b (Some first) (find (has_id id) (rows ++ row ∷ []))) ≡ or_row id row (option_map (λ (r : Row). r.values) (cond b (Some first) (find (has_id id) rows)))
    by_first true e = refl
    by_first false e = e

-- where an id has no row, what was missing joins at the end
at_end : (id : Word) (change : Row → List Row) (missing rows : List Row) → has_row id rows ≡ false → at_row id change missing rows ≡ rows ++ missing
at_end id change missing [] none = refl
at_end id change missing (row ∷ rows) none = by_test (has_id id row) none (at_end id change missing rows)
  where
    by_test : (b : Bool) → (b || has_row id rows) ≡ false → (has_row id rows ≡ false → at_row id change missing rows ≡ rows ++ missing) →
        cond b (change row ++ rows) (row ∷ at_row id change missing rows) ≡ row ∷ (rows ++ missing)
    by_test true e rest = absurd (cc)
    by_test false e rest = ap (λ xs. row ∷ xs) (rest e)

without_none : (id : Word) (rows : List Row) → has_row id rows ≡ false → without id rows ≡ rows
without_none id rows none = at_end id (λ _. []) [] rows none ∙ append-nil rows

used_once : (id value : Word) (rows : List Row) → has_row id rows ≡ false →
    at_row id (more_values CommandLine (value ∷ [])) (used_row id value ∷ []) (without id rows) ≡ rows ++ used_row id value ∷ []
used_once id value rows none =
    let change = more_values CommandLine (value ∷ []) in
    ap (at_row id change (used_row id value ∷ [])) (without_none id rows none) ∙ at_end id change (used_row id value ∷ []) rows none

pub word_used : (word : Word) (rows : List Row) → has_row (codes "word") rows ≡ false → used word_made (word ∷ []) rows ≡ rows ++ used_row (codes "word") word ∷ []
word_used word rows none = used_once (codes "word") word rows none

pub value_used : (value : Word) (rows : List Row) → has_row (codes "workers") rows ≡ false → used workers_made (value ∷ []) rows ≡ rows ++ used_row (codes "workers") value ∷ []
value_used value rows none = used_once (codes "workers") value rows none

-- ---- no argument has a default

no_default : (rows : List Row) (rule : Rule) → default_rows rule.id (reading_by rule) rule.defaults rows ≡ rows → with_default rows rule ≡ rows
no_default rows rule none = by_test (has_row rule.id rows)
  where
    by_test : (b : Bool) → cond b rows (default_rows rule.id (reading_by rule) rule.defaults rows) ≡ rows
    by_test true = refl
    by_test false = none

pub no_defaults : (rows : List Row) → fold with_default rows rules ≡ rows
no_defaults rows = ap (λ xs. with_default xs word_made) (no_default rows workers_made refl) ∙ no_default rows word_made refl
