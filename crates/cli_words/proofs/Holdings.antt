-- What `clap` holds between two words, and what it gives at their end.
use Rattle.std.proofs.Common.{◌≡◌, Bool, true, false, cond, ◌&&◌, ◌||◌, List, [], ◌∷◌, codes, bytes_eq, Option, Some, None, option_map, option_and_then, slice_get, sym, ap, subst, ◌∙◌, refl}
use Rattle.std.specs.Prelude.{is_some}
use Rattle.std.specs.Option.{option_to_list}
use Rattle.clap.specs.Kinds.{Kinds, or_else}
use Rattle.clap.specs.Faults.{check_fault, default_fault, defaults_fault, given_default_fault, settle_fault, use_fault}
use Rattle.clap.specs.Walk.{Held, Row, Rule, all_of, finished, first_of, has_row, settled, settled_rows, used, with_default}
use Rattle.clap.specs.declared.error.kind.ErrorKind.{ErrorKind}
use Rattle.clap.specs.declared.error.kind.ErrorKind.TheVariants.{ArgumentConflict}
use Rattle.cli_words.specs.Words.{Word}
use Rattle.cli_words.specs.inner.Clap.{Pending, end_fault, held, rules, shape, used_row, word_made, workers_made}
use Rattle.cli_words.specs.inner.Line.{Given, may_end}
use Rattle.cli_words.proofs.Rows.{all_with, first_is, has_values, no_defaults, or_row, value_used, word_used}
use Rattle.cli_words.proofs.Spoilt.{IsNoCommand}

-- ---- what is to be shown

-- the rows hold what is given
pub record IsHeld (rows : List Row) (given : Given) : Type 0 where
  pub may_end : may_end given.place ≡ true
  pub positionals : given.positionals ≡ option_to_list (first_of (codes "word") rows)
  pub values : given.values ≡ option_to_list (first_of (codes "workers") rows)

abbrev pub Ends : Kinds → List Row → Given → Type 0
Ends [] rows given = IsHeld rows given
Ends (fault ∷ faults) rows given = IsNoCommand given

-- ---- what is held

-- the rows have these values
pub record HasValues (rows : List Row) (word value : Option Word) : Type 0 where
  pub word_is : all_of (codes "word") rows ≡ option_map (λ w. w ∷ []) word
  pub value_is : all_of (codes "workers") rows ≡ option_map (λ v. v ∷ []) value

-- and nothing stands against settling what is pending
pub record Keeps (rows : List Row) (pending : Pending) (word value : Option Word) : Type 0 where
  pub sound : settle_fault rules false (held rows pending) ≡ []
  pub settled_so : HasValues (settled_rows rules pending rows) word value

no_row : (id : Word) (rows : List Row) → all_of id rows ≡ None → has_row id rows ≡ false
no_row id rows none = has_values id rows ∙ ap is_some none

a_row : (id value : Word) (rows : List Row) → all_of id rows ≡ Some (value ∷ []) → has_row id rows ≡ true
a_row id value rows some = has_values id rows ∙ ap is_some some

other_row : (id other value : Word) (found : Option Word) → bytes_eq other id ≡ false → or_row id (used_row other value) (option_map (λ w. w ∷ []) found) ≡ option_map (λ w. w ∷ []) found
other_row id other value None differs = ap (λ b. cond b (Some (value ∷ [])) None) differs
other_row id other value (Some w) differs = refl

module _ (rows : List Row) where
  pub word_rows : (word : Word) (value : Option Word) → HasValues rows None value → HasValues (used word_made (word ∷ []) rows) (Some word) value
  word_rows word value has =
      let used_so = word_used word rows (no_row (codes "word") rows has.word_is) in
      let row = used_row (codes "word") word in
      record {
        word_is = ap (all_of (codes "word")) used_so ∙ all_with (codes "word") rows row ∙ ap (or_row (codes "word") row) has.word_is;
        value_is = ap (all_of (codes "workers")) used_so ∙ all_with (codes "workers") rows row ∙ ap (or_row (codes "workers") row) has.value_is
            ∙ other_row (codes "workers") (codes "word") word value refl;
      }

  pub value_rows : (word : Option Word) (value : Word) → HasValues rows word None → HasValues (used workers_made (value ∷ []) rows) word (Some value)
  value_rows word value has =
      let used_so = value_used value rows (no_row (codes "workers") rows has.value_is) in
      let row = used_row (codes "workers") value in
      record {
        word_is = ap (all_of (codes "word")) used_so ∙ all_with (codes "word") rows row ∙ ap (or_row (codes "word") row) has.word_is
            ∙ other_row (codes "word") (codes "workers") value word refl;
        value_is = ap (all_of (codes "workers")) used_so ∙ all_with (codes "workers") rows row ∙ ap (or_row (codes "workers") row) has.value_is;
      }

  abbrev repeated : Bool → Kinds
  repeated b = or_else (cond (b && true) (ArgumentConflict ∷ []) []) []

  pub keeps_word : (word : Word) (value : Option Word) → HasValues rows None value → Keeps rows (Some (codes "word", word ∷ [])) (Some word) value
  keeps_word word value has = record { sound = ap repeated (no_row (codes "word") rows has.word_is); settled_so = word_rows word value has }

  pub value_first : (word : Option Word) (value : Word) → HasValues rows word None → use_fault false workers_made (value ∷ []) rows ≡ []
  value_first word value has = ap repeated (no_row (codes "workers") rows has.value_is)

  pub keeps_value : (word : Option Word) (value : Word) → HasValues rows word None → Keeps rows (Some (codes "workers", value ∷ [])) word (Some value)
  keeps_value word value has = record { sound = value_first word value has; settled_so = value_rows word value has }

  pub value_again : (word : Option Word) (value other : Word) → HasValues rows word (Some other) → use_fault false workers_made (value ∷ []) rows ≡ ArgumentConflict ∷ []
  value_again word value other has = ap repeated (a_row (codes "workers") other rows has.value_is)

-- ---- the end of the words

end_default : (rows : List Row) (rule : Rule) (b : Bool) → cond (b || true) [] (given_default_fault rule rule.defaults) ≡ []
end_default rows rule true = refl
end_default rows rule false = refl

no_default_faults : (rows : List Row) → defaults_fault rows rules ≡ []
unfolding defaults_fault
no_default_faults rows =
    ap (λ faults. or_else faults (or_else (default_fault (with_default rows workers_made) word_made) [])) (end_default rows workers_made (has_row (codes "workers") rows))
    ∙ ap (λ faults. or_else faults []) (end_default (with_default rows workers_made) word_made (has_row (codes "word") (with_default rows workers_made)))

first_value_is : (id : Word) (rows : List Row) (found : Option Word) → all_of id rows ≡ option_map (λ w. w ∷ []) found → first_of id rows ≡ found
first_value_is id rows None e = first_is id rows ∙ ap (option_and_then (λ values. slice_get values 0)) e
first_value_is id rows (Some word) e = first_is id rows ∙ ap (option_and_then (λ values. slice_get values 0)) e

module _ (rows : List Row) (pending : Pending) (word value : Option Word) (keeps : Keeps rows pending word value) where
  no_end_fault : end_fault (held rows pending) ≡ []
  no_end_fault =
      ap (λ faults. or_else faults (or_else (defaults_fault (settled_rows rules pending rows) rules) (check_fault shape (finished rules (held rows pending)) false))) keeps.sound
      ∙ ap (λ faults. or_else faults (check_fault shape (finished rules (held rows pending)) false)) (no_default_faults (settled_rows rules pending rows))

  rows_are : finished rules (held rows pending) ≡ settled_rows rules pending rows
  rows_are = no_defaults (settled_rows rules pending rows)

  word_held : first_of (codes "word") (finished rules (held rows pending)) ≡ word
  word_held = ap (first_of (codes "word")) rows_are ∙ first_value_is (codes "word") (settled_rows rules pending rows) word keeps.settled_so.word_is

  value_held : first_of (codes "workers") (finished rules (held rows pending)) ≡ value
  value_held = ap (first_of (codes "workers")) rows_are ∙ first_value_is (codes "workers") (settled_rows rules pending rows) value keeps.settled_so.value_is

  pub at_end : (given : Given) → may_end given.place ≡ true → given.positionals ≡ option_to_list word → given.values ≡ option_to_list value →
      Ends (end_fault (held rows pending)) (finished rules (held rows pending)) given
  at_end given ends words values =
      subst (λ faults. Ends faults (finished rules (held rows pending)) given) (sym no_end_fault) (record {
        may_end = ends;
        positionals = words ∙ ap option_to_list (sym word_held);
        values = values ∙ ap option_to_list (sym value_held);
      })

pub bad_end : (h : Held) (given : Given) (fault : ErrorKind) (faults : Kinds) → settle_fault rules false h ≡ fault ∷ faults → IsNoCommand given → Ends (end_fault h) (finished rules h) given
bad_end h given fault faults bad spoilt =
    subst (λ faults. Ends (or_else faults (or_else (defaults_fault (settled rules h).rows rules) (check_fault shape (finished rules h) false))) (finished rules h) given) (sym bad) spoilt
