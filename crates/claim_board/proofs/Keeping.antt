-- A step of one seat on one file keeps the rule of all other files and seats.
use Rattle.std.proofs.Common.{◌≡◌, ◌≢◌, ℕ, ◌+◌, ◌<◌, List, length, set, refl, sym, ap, subst, ◌∙◌, inl, inr, ⊎_elim, arith, length-set, get_or-set_same, get_or-set_other}
use Rattle.std.specs.Prelude.{Some, None, slice_index, slice_set}
use Rattle.std.specs.Prelude as std
use mathlib.Core.Option.{Option, some, some-injective}
use mathlib.Core.Logic.{dite}
use native.Mathlib.Decide.{ℕ_discrete}
use lib.ListN.{get_elem?}
use Rattle.atomic_table.proofs.Lists.{at_set, set_here, set_else}
use Rattle.board_seats.proofs.Lists.{below_length}
use Rattle.claim_board.specs.declared.lists.Lists.{Lists}
use Rattle.claim_board.specs.Lists.{is_in, is_seen, record_in}
use Rattle.claim_board.specs.Rule.{Stage, unclaimed, owned, done, Fits, IsOut, IsHome, IsFile, IsKept}

module _ {T : Type 0} where
  -- the lists say the same of a file
  pub record Same (file : ℕ) (old now : Lists T) : Type 0 where
    pub won : is_in file now.won ≡ is_in file old.won
    pub published : record_in file now.published ≡ record_in file old.published
    pub seen : (owner : ℕ) → is_seen file owner now.seen ≡ is_seen file owner old.seen
    pub seen_published : is_in file now.seen_published ≡ is_in file old.seen_published
    pub out : is_in file now.out ≡ is_in file old.out

  pub same_self : (file : ℕ) (lists : Lists T) → Same file lists lists
  same_self file lists = record { won = refl; published = refl; seen = λ _. refl; seen_published = refl; out = refl }

  pub fits_same : (seat file : ℕ) (stage : Stage T) (old now : Lists T) → Same file old now → Fits seat file stage old → Fits seat file stage now
  fits_same seat file stage old now same fits = record {
    won = same.won ∙ fits.won;
    published = same.published ∙ fits.published;
    seen = λ owner e. fits.seen owner (sym (same.seen owner) ∙ e);
    seen_published = λ e. fits.seen_published (sym same.seen_published ∙ e);
    out = λ e. fits.out (sym same.out ∙ e);
  }

  pub out_same : (book : List (Lists T)) (file number : ℕ) (old now : Lists T) → get_elem? book number ≡ some old → is_in file now.out ≡ is_in file old.out → IsOut book file → IsOut (set book number now) file
  out_same book file number old now at same is = dite (ℕ_discrete is.0 number)
      (λ (e : is.0 ≡ number).
      let mine : is.1 ≡ old = some-injective _ _ (sym is.2 ∙ ap (λ (k : ℕ). get_elem? book k) e ∙ at) in
      (number, now, set_here book number now (below_length book number old at), same ∙ ap (λ (l : Lists T). is_in file l.out) (sym mine) ∙ is.3))
      (λ (ne : is.0 ≢ number). (is.0, is.1, set_else book number is.0 now ne ∙ is.2, is.3))

  pub home_same : (homes homes' : List (Option (std.Option T))) (book : List (Lists T)) (file number : ℕ) (old now : Lists T) (stage : Stage T) → get_elem? book number ≡ some old → is_in file now.out ≡ is_in file old.out
      → get_elem? homes' file ≡ get_elem? homes file → IsHome homes book file stage → IsHome homes' (set book number now) file stage
  home_same homes homes' book file number old now unclaimed at same there home = ⊎_elim (λ (e : get_elem? homes file ≡ some (some None)). inl (there ∙ e)) (λ (e : IsOut book file). inr (out_same book file number old now at same e)) home
  home_same homes homes' book file number old now (owned owner) at same there home = ⊎_elim (λ (e : get_elem? homes file ≡ some (some None)). inl (there ∙ e)) (λ (e : IsOut book file). inr (out_same book file number old now at same e)) home
  home_same homes homes' book file number old now (done owner rec) at same there home = there ∙ home

  file_same : (seats : ℕ) (homes homes' : List (Option (std.Option T))) (book : List (Lists T)) (file word number : ℕ) (old now : Lists T) (stage : Stage T) → get_elem? book number ≡ some old → Same file old now
      → get_elem? homes' file ≡ get_elem? homes file → IsFile seats homes book file word stage → IsFile seats homes' (set book number now) file word stage
  file_same seats homes homes' book file word number old now stage at same there is = record {
    word_is = is.word_is;
    below = is.below;
    fits = λ seat lists e. ⊎_elim
        (λ (t : (seat ≡ number) × (now ≡ lists)). subst (λ (y : ℕ × Lists T). Fits y.0 file stage y.1) (λ i. (sym t.0 i, t.1 i)) (fits_same number file stage old now same (is.fits number old at)))
        (λ (t : (seat ≢ number) × (get_elem? book seat ≡ some lists)). is.fits seat lists t.1)
        (at_set book number seat now lists e);
    home = home_same homes homes' book file number old now stage at same.out there is.home;
  }

  -- the stages with one file at another
  abbrev pub at_stage : (ℕ → Stage T) → ℕ → Stage T → ℕ → Stage T
  at_stage stages file stage other = dite (ℕ_discrete other file) (λ _. stage) (λ _. stages other)

  -- the rule after a step of one seat on one file
  pub kept : (files seats : ℕ) (words : List ℕ) (homes homes' : List (Option (std.Option T))) (book : List (Lists T)) (ruled : IsKept files seats words homes book)
      → (file number word : ℕ) (old now : Lists T) (stage : Stage T) → file < files → get_elem? book number ≡ some old
      → length homes' ≡ length homes → ((other : ℕ) → other ≢ file → get_elem? homes' other ≡ get_elem? homes other)
      → ((other : ℕ) → other ≢ file → Same other old now)
      → IsFile seats homes' (set book number now) file word stage
      → IsKept files seats (slice_set words (file + 1) word) homes' (set book number now)
  kept files seats words homes homes' book ruled file number word old now stage inside at long else same here =
      let wide = ruled.wide in record {
        wide = length-set words (file + 1) word ∙ wide;
        deep = long ∙ ruled.deep;
        as_many = length-set book number now ∙ ruled.as_many;
        few = ruled.few;
        stage = at_stage ruled.stage file stage;
        each = λ other below. each_at other below (ℕ_discrete other file);
      }
    where
      each_at : (other : ℕ) → other < files → (d : Dec (other ≡ file)) → IsFile seats homes' (set book number now) other (slice_index (slice_set words (file + 1) word) (other + 1)) (dite d (λ _. stage) (λ _. ruled.stage other))
      each_at other below (yes e) =
          let wide = ruled.wide in
          let word_there : word ≡ slice_index (slice_set words (file + 1) word) (file + 1) = sym (get_or-set_same words (file + 1) word 0 (omega arith)) in
          subst (λ (k : ℕ). IsFile seats homes' (set book number now) k (slice_index (slice_set words (file + 1) word) (k + 1)) stage) (sym e)
          (subst (λ (w : ℕ). IsFile seats homes' (set book number now) file w stage) word_there here)
      each_at other below (no ne) =
          let apart : (other + 1) ≢ (file + 1) = λ (e : other + 1 ≡ file + 1). ne (omega arith) in
          let word_there : slice_index words (other + 1) ≡ slice_index (slice_set words (file + 1) word) (other + 1) = sym (get_or-set_other words (file + 1) (other + 1) word 0 apart) in
          subst (λ (w : ℕ). IsFile seats homes' (set book number now) other w (ruled.stage other)) word_there
          (file_same seats homes homes' book other (slice_index words (other + 1)) number old now (ruled.stage other) at (same other ne) (else other ne) (ruled.each other below))
