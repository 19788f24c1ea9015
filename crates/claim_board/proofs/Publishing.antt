-- The two steps of a publication keep the rule: the file's slot goes out, and comes home with the record.
use Rattle.std.proofs.Common.{◌≡◌, ◌≢◌, ℕ, ◌+◌, ◌*◌, ◌<◌, Bool, true, false, cond, ◌==◌, ◌||◌, eqb-true, List, [], ◌∷◌, length, set, refl, sym, ap, subst, ◌∙◌, inr, ⊎_elim, arith, length-set}
use Rattle.std.specs.Prelude.{Some, None, slice_index, slice_set}
use Rattle.std.specs.Prelude as std
use mathlib.Core.Option.{Option, some, none, some-injective}
use lib.ListN.{get_elem?}
use Rattle.atomic_table.specs.Table.{Me, takes, gives, step, Allows}
use Rattle.atomic_table.proofs.Lists.{at_set, set_here, set_else}
use Rattle.board_seats.specs.Seats.{only, Moves, Seated}
use Rattle.board_seats.proofs.Steps.{allows}
use Rattle.board_seats.proofs.Lists.{below_length}
use Rattle.claim_board.specs.declared.lists.Lists.{Lists}
use Rattle.claim_board.specs.Lists.{is_in, record_in, put_in}
use Rattle.claim_board.specs.Rule.{Stage, unclaimed, owned, done, owns, is_building, record_by, Fits, IsOut, IsFile, IsKept}
use Rattle.claim_board.specs.inner.Steps.{take_out, Took, Gave}
use Rattle.claim_board.proofs.Found.{false≢true, other_file, same_file, record_other, record_last}
use Rattle.claim_board.proofs.Keeping.{Same, kept}
use Rattle.claim_board.proofs.Claiming.{one_back}

-- the file is the only one in a list of one
alone_in : (file : ℕ) → is_in file (file ∷ []) ≡ true
alone_in file = ap (λ (b : Bool). b || false) (same_file file)

not_in : (file other : ℕ) → other ≢ file → is_in other (file ∷ []) ≡ false
not_in file other ne = ap (λ (b : Bool). b || false) (other_file file other ne)

module _ {T : Type 0} where
  -- the seat that builds a file owns it
  pub builds : (seat : ℕ) (stage : Stage T) → is_building seat stage ≡ true → stage ≡ owned seat
  builds seat unclaimed e = absurd (false≢true e)
  builds seat (owned owner) e = ap (λ (k : ℕ). owned k) (eqb-true owner seat e)
  builds seat (done owner rec) e = absurd (false≢true e)

  -- a seat that owns a file and hasn't published it builds it
  unpublished : (seat : ℕ) (stage : Stage T) → owns seat stage ≡ true → record_by seat stage ≡ None → stage ≡ owned seat
  unpublished seat unclaimed e n = absurd (false≢true e)
  unpublished seat (owned owner) e n = ap (λ (k : ℕ). owned k) (eqb-true owner seat e)
  unpublished seat (done owner rec) e n = let some_rec : cond (owner == seat) (Some rec) None ≡ Some rec = ap (λ (b : Bool). cond b (Some rec) None) e in absurd (cc)

  module _ (seats : ℕ) (homes : List (Option (std.Option T))) (book : List (Lists T)) (file word seat : ℕ) (lists : Lists T) (at : get_elem? book seat ≡ some lists) where
    -- no other seat builds the file
    one_builder : (other : ℕ) (l : Lists T) → get_elem? book other ≡ some l → is_in file l.out ≡ true → IsFile seats homes book file word (owned seat) → (other ≡ seat) × (l ≡ lists)
    one_builder other l e out is =
        let same : other ≡ seat = sym (eqb-true seat other ((is.fits other l e).out out)) in
        (same, some-injective l lists (sym e ∙ ap (λ (k : ℕ). get_elem? book k) same ∙ at))

    slot_home : IsFile seats homes book file word (owned seat) → lists.out ≡ [] → get_elem? homes file ≡ some (some None)
    slot_home is idle = ⊎_elim
        (λ (e : get_elem? homes file ≡ some (some None)). e)
        (λ (o : IsOut book file). let mine = one_builder o.0 o.1 o.2 o.3 is in
        absurd (false≢true (ap (is_in file) (sym (ap (λ (l : Lists T). l.out) mine.1 ∙ idle)) ∙ o.3)))
        is.home

    taken_file : (homes' : List (Option (std.Option T))) → IsFile seats homes book file word (owned seat) → IsFile seats homes' (set book seat (take_out file lists)) file word (owned seat)
    taken_file homes' is =
        let mine = is.fits seat lists at in record {
          word_is = is.word_is;
          below = is.below;
          fits = λ k l e. ⊎_elim
              (λ (t : (k ≡ seat) × (take_out file lists ≡ l)). subst (λ (y : ℕ × Lists T). Fits y.0 file (owned seat) y.1) (λ i. (sym t.0 i, t.1 i)) (record {
                won = mine.won;
                published = mine.published;
                seen = mine.seen;
                seen_published = mine.seen_published;
                out = λ _. same_file seat;
              }))
              (λ (t : (k ≢ seat) × (get_elem? book k ≡ some l)). is.fits k l t.1)
              (at_set book seat k (take_out file lists) l e);
          home = inr (seat, take_out file lists, set_here book seat (take_out file lists) (below_length book seat lists at), alone_in file);
        }

    given_file : (rec : T) → file < length homes → record_in file lists.published ≡ None → IsFile seats homes book file word (owned seat)
        → IsFile seats (set homes file (some (Some rec))) (set book seat (put_in file rec lists)) file (2 * (seat + 1) + 1) (done seat rec)
    given_file rec room first is =
        let mine = is.fits seat lists at in record {
          word_is = refl;
          below = is.below;
          fits = λ k l e. ⊎_elim
              (λ (t : (k ≡ seat) × (put_in file rec lists ≡ l)). subst (λ (y : ℕ × Lists T). Fits y.0 file (done seat rec) y.1) (λ i. (sym t.0 i, t.1 i)) (record {
                won = mine.won;
                published = record_last file rec lists.published first ∙ sym (ap (λ (b : Bool). cond b (Some rec) None) (same_file seat));
                seen = mine.seen;
                seen_published = λ _. refl;
                out = λ e. absurd (false≢true e);
              }))
              (λ (t : (k ≢ seat) × (get_elem? book k ≡ some l)). let theirs = is.fits k l t.1 in record {
                won = theirs.won;
                published = theirs.published ∙ sym (ap (λ (b : Bool). cond b (Some rec) None) (other_file seat k t.0));
                seen = theirs.seen;
                seen_published = λ _. refl;
                out = λ e. absurd (false≢true (sym (other_file seat k t.0) ∙ theirs.out e));
              })
              (at_set book seat k (put_in file rec lists) l e);
          home = set_here homes file (some (Some rec)) room;
        }

  take_same : (file other : ℕ) (lists : Lists T) → lists.out ≡ [] → other ≢ file → Same other lists (take_out file lists)
  take_same file other lists idle ne =
      record { won = refl; published = refl; seen = λ p. refl; seen_published = refl; out = not_in file other ne ∙ sym (ap (is_in other) idle) }

  give_same : (file other : ℕ) (rec : T) (lists : Lists T) → lists.out ≡ file ∷ [] → other ≢ file → Same other lists (put_in file rec lists)
  give_same file other rec lists out ne =
      record { won = refl; published = record_other file other rec lists.published ne; seen = λ p. refl; seen_published = refl; out = sym (ap (is_in other) out ∙ not_in file other ne) }

  module _ (files seats slots token number file : ℕ) where
    takes_slot : (lists : Lists T) → lists.out ≡ [] → is_in file lists.won ≡ true → record_in file lists.published ≡ None → file < files
        → Moves {S = std.Option T} (IsKept files seats) slots number lists [] (file + 1) (λ r. r) (λ _. Took (step slots (file + 1) 0 0 none) (only number lists, []))
    takes_slot lists idle won first inside words homes book ruled deep at small =
        let r : ℕ = slice_index words (file + 1) in
        let fits = (ruled.each file inside).fits number lists at in
        let building : ruled.stage file ≡ owned number = unpublished number (ruled.stage file) (sym fits.won ∙ won) (sym fits.published ∙ first) in
        let is = subst (λ (s : Stage T). IsFile seats homes book file r s) building (ruled.each file inside) in (
          take_out file lists,
          takes file None,
          slot_home seats homes book file r number lists at is idle,
          kept files seats words homes (set homes file none) book ruled file number r lists (take_out file lists) (owned number) inside at (length-set homes file none)
              (λ other ne. set_else homes file other none ne) (λ other ne. take_same file other lists idle ne) (taken_file seats homes book file r number lists at (set homes file none) is),
          ap (λ (k : ℕ). (only number (take_out k lists), (k, None) ∷ [])) (sym (one_back file)),
        )

    gives_slot : (lists : Lists T) (rec : T) → lists.out ≡ file ∷ [] → record_in file lists.published ≡ None → file < files
        → Moves {S = std.Option T} (IsKept files seats) slots number lists ((file, Some rec) ∷ []) (file + 1) (λ _. 2 * (number + 1) + 1) (λ _. Gave (only number lists, (file, Some rec) ∷ []))
    gives_slot lists rec out first inside words homes book ruled deep at small =
        let r : ℕ = slice_index words (file + 1) in
        let fits = (ruled.each file inside).fits number lists at in
        let building : ruled.stage file ≡ owned number = builds number (ruled.stage file) (fits.out (ap (is_in file) out ∙ alone_in file)) in
        let is = subst (λ (s : Stage T). IsFile seats homes book file r s) building (ruled.each file inside) in
        let wide = ruled.deep in
        let room : file < length homes = omega arith in (
          put_in file rec lists,
          gives,
          tt,
          kept files seats words homes (set homes file (some (Some rec))) book ruled file number (2 * (number + 1) + 1) lists (put_in file rec lists) (done number rec) inside at (length-set homes file (some (Some rec)))
              (λ other ne. set_else homes file other (some (Some rec)) ne) (λ other ne. give_same file other rec lists out ne) (given_file seats homes book file r number lists at rec room first is),
          refl,
        )

    pub may_take : (me : Me (std.Option T) (List (ℕ × Lists T))) (lists : Lists T) → me ≡ (only number lists, []) → lists.out ≡ [] → is_in file lists.won ≡ true → record_in file lists.published ≡ None → file < files
        → Allows (Seated (IsKept files seats)) slots token me (file + 1) (λ r. r) (λ _. Took (step slots (file + 1) 0 0 none) me)
    may_take me lists alone idle won first inside =
        subst (λ (m : Me (std.Option T) (List (ℕ × Lists T))). Allows (Seated (IsKept files seats)) slots token m (file + 1) (λ r. r) (λ _. Took (step slots (file + 1) 0 0 none) m)) (sym alone)
        (allows (IsKept files seats) slots token number lists [] (file + 1) (λ r. r) (λ _. Took (step slots (file + 1) 0 0 none) (only number lists, [])) (takes_slot lists idle won first inside))

    pub may_give : (me : Me (std.Option T) (List (ℕ × Lists T))) (lists : Lists T) (rec : T) (word : ℕ) → me ≡ (only number lists, (file, Some rec) ∷ []) → word ≡ 2 * (number + 1) + 1
        → lists.out ≡ file ∷ [] → record_in file lists.published ≡ None → file < files
        → Allows (Seated (IsKept files seats)) slots token me (file + 1) (λ _. word) (λ _. Gave me)
    may_give me lists rec word alone word_is out first inside =
        subst (λ (y : Me (std.Option T) (List (ℕ × Lists T)) × ℕ). Allows (Seated (IsKept files seats)) slots token y.0 (file + 1) (λ _. y.1) (λ _. Gave y.0)) (λ i. (sym alone i, sym word_is i))
        (allows (IsKept files seats) slots token number lists ((file, Some rec) ∷ []) (file + 1) (λ _. 2 * (number + 1) + 1) (λ _. Gave (only number lists, (file, Some rec) ∷ [])) (gives_slot lists rec out first inside))
