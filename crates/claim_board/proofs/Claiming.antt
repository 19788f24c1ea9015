-- A claim and a look keep the rule.
use Rattle.std.proofs.Common.{◌≡◌, ◌≢◌, ℕ, ◌+◌, ◌-◌, ◌*◌, ◌/◌, ◌%◌, ◌<◌, ◌≤◌, Bool, true, false, cond, eqb, ◌==◌, ne_eqb, eq-eqb, List, [], length, set, refl, sym, ap, subst, ◌∙◌, inl, ⊎_elim, arith}
use Rattle.std.specs.Prelude.{Some, None, slice_index, slice_set}
use Rattle.std.specs.Prelude as std
use prog.Atomic.{either}
use mathlib.Core.Option.{Option, some, none}
use lib.ListN.{get_elem?}
use Rattle.atomic_table.specs.Table.{Me, keeps, step, Allows}
use Rattle.atomic_table.proofs.Lists.{at_set}
use Rattle.board_seats.specs.Seats.{only, Moves, Seated}
use Rattle.board_seats.proofs.Steps.{allows}
use Rattle.board_seats.proofs.Lists.{below_length}
use Rattle.claim_board.specs.declared.lists.Lists.{Lists}
use Rattle.claim_board.specs.Lists.{is_in, is_seen, lists_in, win, see, see_published}
use Rattle.claim_board.specs.Rule.{Stage, unclaimed, owned, done, owns, is_done, OwnerBelow, Fits, IsOut, IsFile, IsKept}
use Rattle.claim_board.specs.inner.Steps.{after_owned, after_done, after_claim, after_look, Told}
use Rattle.claim_board.proofs.Found.{false≢true, other_file, same_file, in_other, in_last, seen_other, seen_last}
use Rattle.claim_board.proofs.Keeping.{Same, same_self, home_same, kept}

-- the word is left where somebody owns the file
either_not : (r w : ℕ) → r ≢ 0 → either (eqb r 0) w r ≡ r
either_not r w ne = ap (λ (b : Bool). either b w r) (ne_eqb r 0 ne)

pub one_back : (file : ℕ) → file + 1 - 1 ≡ file
one_back file = omega arith

module _ {T : Type 0} where
  -- ---- what is told of a file joins the lists

  see_fits : (seat file owner : ℕ) (stage : Stage T) (lists : Lists T) → owns owner stage ≡ true → Fits seat file stage lists → Fits seat file stage (see file owner lists)
  see_fits seat file owner stage lists own fits = record {
    won = fits.won;
    published = fits.published;
    seen = λ p e. ⊎_elim (λ (old : is_seen file p lists.seen ≡ true). fits.seen p old) (λ (q : owner ≡ p). subst (λ (k : ℕ). owns k stage ≡ true) q own) (seen_last file owner p lists.seen e);
    seen_published = fits.seen_published;
    out = fits.out;
  }

  see_published_fits : (seat file owner : ℕ) (stage : Stage T) (lists : Lists T) → owns owner stage ≡ true → is_done stage ≡ true → Fits seat file stage lists
      → Fits seat file stage (see_published file owner lists)
  see_published_fits seat file owner stage lists own end fits = record {
    won = fits.won;
    published = fits.published;
    seen = (see_fits seat file owner stage lists own fits).seen;
    seen_published = λ _. end;
    out = fits.out;
  }

  see_same : (file owner other : ℕ) (lists : Lists T) → other ≢ file → Same other lists (see file owner lists)
  see_same file owner other lists ne = record { won = refl; published = refl; seen = λ p. seen_other file owner other p lists.seen ne; seen_published = refl; out = refl }

  see_published_same : (file owner other : ℕ) (lists : Lists T) → other ≢ file → Same other lists (see_published file owner lists)
  see_published_same file owner other lists ne =
      record { won = refl; published = refl; seen = λ p. seen_other file owner other p lists.seen ne; seen_published = in_other file other lists.seen_published ne; out = refl }

  win_same : (file other : ℕ) (lists : Lists T) → other ≢ file → Same other lists (win file lists)
  win_same file other lists ne = record { won = in_other file other lists.won ne; published = refl; seen = λ p. refl; seen_published = refl; out = refl }

  pub choose : (P : Lists T → Type 0) (b : Bool) (one other : Lists T) → P one → P other → P (cond b one other)
  choose P true one other p q = p
  choose P false one other p q = q

  -- ---- words

  pub claim_of : (r owner seat file : ℕ) (lists : Lists T) → r ≢ 0 → r / 2 - 1 ≡ owner → after_claim r seat file lists ≡ after_owned owner seat file lists
  claim_of r owner seat file lists ne is =
      ap (λ (b : Bool). cond b (win file lists) (after_owned (r / 2 - 1) seat file lists)) (ne_eqb r 0 ne) ∙ ap (λ (k : ℕ). after_owned k seat file lists) is

  pub look_at_owned : (r owner seat file : ℕ) (lists : Lists T) → r ≢ 0 → r % 2 ≡ 0 → r / 2 - 1 ≡ owner → after_look r seat file lists ≡ after_owned owner seat file lists
  look_at_owned r owner seat file lists ne even is =
      ap (λ (b : Bool). cond b lists (cond (r % 2 == 0) (after_owned (r / 2 - 1) seat file lists) (after_done (r / 2 - 1) seat file lists))) (ne_eqb r 0 ne)
      ∙ ap (λ (b : Bool). cond b (after_owned (r / 2 - 1) seat file lists) (after_done (r / 2 - 1) seat file lists)) (eq-eqb (r % 2) 0 even)
      ∙ ap (λ (k : ℕ). after_owned k seat file lists) is

  pub look_at_done : (r owner seat file : ℕ) (lists : Lists T) → r ≢ 0 → r % 2 ≢ 0 → r / 2 - 1 ≡ owner → after_look r seat file lists ≡ after_done owner seat file lists
  look_at_done r owner seat file lists ne odd is =
      ap (λ (b : Bool). cond b lists (cond (r % 2 == 0) (after_owned (r / 2 - 1) seat file lists) (after_done (r / 2 - 1) seat file lists))) (ne_eqb r 0 ne)
      ∙ ap (λ (b : Bool). cond b (after_owned (r / 2 - 1) seat file lists) (after_done (r / 2 - 1) seat file lists)) (ne_eqb (r % 2) 0 odd)
      ∙ ap (λ (k : ℕ). after_done k seat file lists) is

  below_few : (seats : ℕ) (stage : Stage T) → seats ≤ 4294967295 → OwnerBelow seats stage → OwnerBelow 4294967295 stage
  below_few seats unclaimed few below = tt
  below_few seats (owned owner) few below = let h : owner < seats = below in omega arith
  below_few seats (done owner rec) few below = let h : owner < seats = below in omega arith

  -- ---- the file of the step

  module _ (seats : ℕ) (homes : List (Option (std.Option T))) (book : List (Lists T)) (file seat : ℕ) (lists : Lists T) (at : get_elem? book seat ≡ some lists) where
    -- the word stays, and the seat was told of it
    told_file : (word : ℕ) (stage : Stage T) (now : Lists T) → is_in file now.out ≡ is_in file lists.out → Fits seat file stage now → IsFile seats homes book file word stage
        → IsFile seats homes (set book seat now) file word stage
    told_file word stage now same fits is = record {
      word_is = is.word_is;
      below = is.below;
      fits = λ k l e. ⊎_elim
          (λ (t : (k ≡ seat) × (now ≡ l)). subst (λ (y : ℕ × Lists T). Fits y.0 file stage y.1) (λ i. (sym t.0 i, t.1 i)) fits)
          (λ (t : (k ≢ seat) × (get_elem? book k ≡ some l)). is.fits k l t.1)
          (at_set book seat k now l e);
      home = home_same homes homes book file seat lists now stage at same refl is.home;
    }

    owned_file : (word owner : ℕ) (stage : Stage T) → owns owner stage ≡ true → IsFile seats homes book file word stage
        → IsFile seats homes (set book seat (after_owned owner seat file lists)) file word stage
    owned_file word owner stage own is =
        let fits = is.fits seat lists at in
        told_file word stage (after_owned owner seat file lists)
        (choose (λ (l : Lists T). is_in file l.out ≡ is_in file lists.out) (owner == seat) lists (see file owner lists) refl refl)
        (choose (Fits seat file stage) (owner == seat) lists (see file owner lists) fits (see_fits seat file owner stage lists own fits)) is

    done_file : (word owner : ℕ) (stage : Stage T) → owns owner stage ≡ true → is_done stage ≡ true → IsFile seats homes book file word stage
        → IsFile seats homes (set book seat (after_done owner seat file lists)) file word stage
    done_file word owner stage own end is =
        let fits = is.fits seat lists at in
        told_file word stage (after_done owner seat file lists)
        (choose (λ (l : Lists T). is_in file l.out ≡ is_in file lists.out) (owner == seat) lists (see_published file owner lists) refl refl)
        (choose (Fits seat file stage) (owner == seat) lists (see_published file owner lists) fits (see_published_fits seat file owner stage lists own end fits)) is

    won_file : seat < seats → IsFile seats homes book file 0 unclaimed → IsFile seats homes (set book seat (win file lists)) file (2 * (seat + 1)) (owned seat)
    won_file below is =
        let mine = is.fits seat lists at in record {
          word_is = refl;
          below = below;
          fits = λ k l e. ⊎_elim
              (λ (t : (k ≡ seat) × (win file lists ≡ l)). subst (λ (y : ℕ × Lists T). Fits y.0 file (owned seat) y.1) (λ i. (sym t.0 i, t.1 i)) (record {
                won = in_last file lists.won ∙ sym (same_file seat);
                published = mine.published;
                seen = λ p e. absurd (false≢true (mine.seen p e));
                seen_published = λ e. absurd (false≢true (mine.seen_published e));
                out = λ e. absurd (false≢true (mine.out e));
              }))
              (λ (t : (k ≢ seat) × (get_elem? book k ≡ some l)). let theirs = is.fits k l t.1 in record {
                won = theirs.won ∙ sym (other_file seat k t.0);
                published = theirs.published;
                seen = λ p e. absurd (false≢true (theirs.seen p e));
                seen_published = λ e. absurd (false≢true (theirs.seen_published e));
                out = λ e. absurd (false≢true (theirs.out e));
              })
              (at_set book seat k (win file lists) l e);
          home = ⊎_elim (λ (e : get_elem? homes file ≡ some (some None)). inl e) (λ (o : IsOut book file). absurd (false≢true ((is.fits o.0 o.1 o.2).out o.3))) is.home;
        }

    claim_file : (word : ℕ) (stage : Stage T) → seat < seats → IsFile seats homes book file word stage
        → (now : Stage T) × IsFile seats homes (set book seat (after_claim word seat file lists)) file (either (eqb word 0) (2 * (seat + 1)) word) now
    claim_file word unclaimed below is = (
      owned seat,
      subst (λ (w : ℕ). IsFile seats homes (set book seat (after_claim w seat file lists)) file (either (eqb w 0) (2 * (seat + 1)) w) (owned seat)) (sym is.word_is)
          (won_file below (subst (λ (w : ℕ). IsFile seats homes book file w unclaimed) is.word_is is)),
    )
    claim_file word (owned owner) below is =
        let w : word ≡ 2 * (owner + 1) = is.word_is in
        let ne : word ≢ 0 = λ (e : word ≡ 0). omega arith in
        let who : word / 2 - 1 ≡ owner = omega arith in (
          owned owner,
          subst (λ (y : ℕ × Lists T). IsFile seats homes (set book seat y.1) file y.0 (owned owner)) (λ i. (sym (either_not word (2 * (seat + 1)) ne) i, sym (claim_of word owner seat file lists ne who) i))
              (owned_file word owner (owned owner) (same_file owner) is),
        )
    claim_file word (done owner rec) below is =
        let w : word ≡ 2 * (owner + 1) + 1 = is.word_is in
        let ne : word ≢ 0 = λ (e : word ≡ 0). omega arith in
        let who : word / 2 - 1 ≡ owner = omega arith in (
          done owner rec,
          subst (λ (y : ℕ × Lists T). IsFile seats homes (set book seat y.1) file y.0 (done owner rec)) (λ i. (sym (either_not word (2 * (seat + 1)) ne) i, sym (claim_of word owner seat file lists ne who) i))
              (owned_file word owner (done owner rec) (same_file owner) is),
        )

    look_file : (word : ℕ) (stage : Stage T) → IsFile seats homes book file word stage → IsFile seats homes (set book seat (after_look word seat file lists)) file word stage
    look_file word unclaimed is = subst (λ (l : Lists T). IsFile seats homes (set book seat l) file word unclaimed)
        (sym (ap (λ (w : ℕ). after_look w seat file lists) is.word_is))
        (told_file word unclaimed lists refl (is.fits seat lists at) is)
    look_file word (owned owner) is =
        let w : word ≡ 2 * (owner + 1) = is.word_is in
        subst (λ (l : Lists T). IsFile seats homes (set book seat l) file word (owned owner)) (sym (look_at_owned word owner seat file lists (λ (e : word ≡ 0). omega arith) (omega arith) (omega arith)))
        (owned_file word owner (owned owner) (same_file owner) is)
    look_file word (done owner rec) is =
        let w : word ≡ 2 * (owner + 1) + 1 = is.word_is in
        subst (λ (l : Lists T). IsFile seats homes (set book seat l) file word (done owner rec)) (sym (look_at_done word owner seat file lists (λ (e : word ≡ 0). omega arith) (λ (e : word % 2 ≡ 0). omega arith) (omega arith)))
        (done_file word owner (done owner rec) (same_file owner) refl is)

  owned_same : (owner seat file other : ℕ) (lists : Lists T) → other ≢ file → Same other lists (after_owned owner seat file lists)
  owned_same owner seat file other lists ne = choose (Same other lists) (owner == seat) lists (see file owner lists) (same_self other lists) (see_same file owner other lists ne)

  done_same : (owner seat file other : ℕ) (lists : Lists T) → other ≢ file → Same other lists (after_done owner seat file lists)
  done_same owner seat file other lists ne = choose (Same other lists) (owner == seat) lists (see_published file owner lists) (same_self other lists) (see_published_same file owner other lists ne)

  claim_same : (word seat file other : ℕ) (lists : Lists T) → other ≢ file → Same other lists (after_claim word seat file lists)
  claim_same word seat file other lists ne =
      choose (Same other lists) (word == 0) (win file lists) (after_owned (word / 2 - 1) seat file lists) (win_same file other lists ne) (owned_same (word / 2 - 1) seat file other lists ne)

  look_same : (word seat file other : ℕ) (lists : Lists T) → other ≢ file → Same other lists (after_look word seat file lists)
  look_same word seat file other lists ne =
      choose (Same other lists) (word == 0) lists (cond (word % 2 == 0) (after_owned (word / 2 - 1) seat file lists) (after_done (word / 2 - 1) seat file lists)) (same_self other lists)
      (choose (Same other lists) (word % 2 == 0) (after_owned (word / 2 - 1) seat file lists) (after_done (word / 2 - 1) seat file lists)
      (owned_same (word / 2 - 1) seat file other lists ne) (done_same (word / 2 - 1) seat file other lists ne))

  -- ---- the steps

  module _ (files seats slots token number file : ℕ) where
    told : (after : ℕ → ℕ → ℕ → Lists T → Lists T) (first second : ℕ) (words : List ℕ) (homes : List (Option (std.Option T))) (book : List (Lists T)) (ruled : IsKept files seats words homes book)
        → file < files → (lists : Lists T) → get_elem? book number ≡ some lists
        → Told after (step slots (file + 1) first second none) (only number lists, []) (slice_index words (file + 1)) (only number (after (slice_index words (file + 1)) number file lists), [])
    told after first second words homes book ruled inside lists at =
        let is = ruled.each file inside in record {
          stage = ruled.stage file;
          word_is = is.word_is;
          below = below_few seats (ruled.stage file) ruled.few is.below;
          fits = subst (λ (k : ℕ). Fits number k (ruled.stage file) lists) (sym (one_back file)) (is.fits number lists at);
          now_is = ap (λ (k : ℕ). (only number (after (slice_index words (file + 1)) number k lists), [])) (sym (one_back file));
        }

    claims : (lists : Lists T) (word : ℕ) → word ≡ 2 * (number + 1) → file < files
        → Moves {S = std.Option T} (IsKept files seats) slots number lists [] (file + 1) (λ r. either (eqb r 0) word r) (Told after_claim (step slots (file + 1) 0 word none) (only number lists, []))
    claims lists word word_is inside words homes book ruled deep at small =
        let r : ℕ = slice_index words (file + 1) in
        let room : number < length book = below_length book number lists at in
        let as_many = ruled.as_many in
        let c = claim_file seats homes book file number lists at r (ruled.stage file) (omega arith) (ruled.each file inside) in (
          after_claim r number file lists,
          keeps,
          tt,
          kept files seats words homes homes book ruled file number (either (eqb r 0) word r) lists (after_claim r number file lists) c.0 inside at refl (λ other ne. refl) (λ other ne. claim_same r number file other lists ne)
              (subst (λ (w : ℕ). IsFile seats homes (set book number (after_claim r number file lists)) file (either (eqb r 0) w r) c.0) (sym word_is) c.1),
          told after_claim 0 word words homes book ruled inside lists at,
        )

    looks : (lists : Lists T) → file < files
        → Moves {S = std.Option T} (IsKept files seats) slots number lists [] (file + 1) (λ r. r) (Told after_look (step slots (file + 1) 0 0 none) (only number lists, []))
    looks lists inside words homes book ruled deep at small =
        let r : ℕ = slice_index words (file + 1) in (
          after_look r number file lists,
          keeps,
          tt,
          kept files seats words homes homes book ruled file number r lists (after_look r number file lists) (ruled.stage file) inside at refl (λ other ne. refl) (λ other ne. look_same r number file other lists ne)
              (look_file seats homes book file number lists at r (ruled.stage file) (ruled.each file inside)),
          told after_look 0 0 words homes book ruled inside lists at,
        )

    pub may_claim : (me : Me (std.Option T) (List (ℕ × Lists T))) (word : ℕ) → me ≡ (only number (lists_in me.0), []) → word ≡ 2 * (number + 1) → file < files
        → Allows (Seated (IsKept files seats)) slots token me (file + 1) (λ r. either (eqb r 0) word r) (Told after_claim (step slots (file + 1) 0 word none) me)
    may_claim me word alone word_is inside =
        subst (λ (m : Me (std.Option T) (List (ℕ × Lists T))). Allows (Seated (IsKept files seats)) slots token m (file + 1) (λ r. either (eqb r 0) word r) (Told after_claim (step slots (file + 1) 0 word none) m)) (sym alone)
        (allows (IsKept files seats) slots token number (lists_in me.0) [] (file + 1) (λ r. either (eqb r 0) word r) (Told after_claim (step slots (file + 1) 0 word none) (only number (lists_in me.0), []))
        (claims (lists_in me.0) word word_is inside))

    pub may_look : (me : Me (std.Option T) (List (ℕ × Lists T))) → me ≡ (only number (lists_in me.0), []) → file < files
        → Allows (Seated (IsKept files seats)) slots token me (file + 1) (λ r. r) (Told after_look (step slots (file + 1) 0 0 none) me)
    may_look me alone inside =
        subst (λ (m : Me (std.Option T) (List (ℕ × Lists T))). Allows (Seated (IsKept files seats)) slots token m (file + 1) (λ r. r) (Told after_look (step slots (file + 1) 0 0 none) m)) (sym alone)
        (allows (IsKept files seats) slots token number (lists_in me.0) [] (file + 1) (λ r. r) (Told after_look (step slots (file + 1) 0 0 none) (only number (lists_in me.0), []))
        (looks (lists_in me.0) inside))
