-- What a claim and a look tell.
use Rattle.std.proofs.Common.{◌≡◌, ◌≢◌, ℕ, ◌+◌, ◌-◌, ◌/◌, ◌%◌, ◌^◌, ◌<◌, ◌≤◌, Bool, true, false, cond, ◌==◌, ◌&&◌, ◌||◌, eqb-true, List, [], ◌∷◌, ◌++◌, refl, sym, ap, subst, ◌∙◌, ⊎_elim, arith}
use Rattle.std.specs.Prelude.{Some, None, is_some, count_by}
use Rattle.std.specs.Prelude as std
use Rattle.std.proofs.lemmas.List.Sums.{sum_by-append, sum_by-cons}
use Rattle.std.proofs.lemmas.Bool.Decides.{eqb_tells}
use mathlib.Core.Option.{none}
use Rattle.atomic_table.specs.Table.{Me, step}
use Rattle.board_seats.specs.Seats.{only}
use Rattle.claim_board.specs.declared.lists.Lists.{Lists}
use Rattle.claim_board.specs.Lists.{is_in, is_seen, record_in, empty_lists, lists_in, win, see, see_published, put_in}
use Rattle.claim_board.specs.Claims.{IsWon, IsKnown, IsFree, IsClaimed, IsPublished, copies, IsOnce, AreInside}
use Rattle.claim_board.specs.Rule.{Stage, unclaimed, owned, done, word_of, owns, OwnerBelow, Fits}
use Rattle.claim_board.specs.inner.Steps.{number_in, after_owned, after_done, after_claim, after_look, Told, take_out, Took, give_back, Gave}
use Rattle.claim_board.proofs.Found.{false≢true, and-both, any-last, any-push}
use Rattle.claim_board.proofs.Claiming.{one_back, choose, claim_of, look_at_owned, look_at_done}

abbrev one_if : Bool → ℕ
one_if b = cond b 1 0

some_if : {X : Type 0} (b : Bool) (x : X) → is_some (cond b (Some x) None) ≡ b
some_if true x = refl
some_if false x = refl

not_true : (b : Bool) → (b ≡ true → ⊥) → b ≡ false
not_true true h = absurd (h refl)
not_true false h = refl

or-more : (a b : Bool) → cond a 1 0 ≤ cond (a || b) 1 0
or-more true b = omega arith
or-more false b = omega arith

module _ {T : Type 0} where
  -- what the play told, of the seat and the file
  pub record Finds (after : ℕ → ℕ → ℕ → Lists T → Lists T) (number file found : ℕ) (old : Lists T) (now : Me (std.Option T) (List (ℕ × Lists T))) : Type 0 where
    pub stage : Stage T
    pub word_is : found ≡ word_of stage
    pub below : OwnerBelow 4294967295 stage
    pub fits : Fits number file stage old
    pub now_is : now ≡ (only number (after found number file old), [])

  pub finds : (after : ℕ → ℕ → ℕ → Lists T → Lists T) (slots number file first second found : ℕ) (me now : Me (std.Option T) (List (ℕ × Lists T)))
      → me ≡ (only number (lists_in me.0), []) → Told after (step slots (file + 1) first second none) me found now → Finds after number file found (lists_in me.0) now
  finds after slots number file first second found me now alone told =
      let who : number_in me.0 ≡ number = ap (λ (m : Me (std.Option T) (List (ℕ × Lists T))). number_in m.0) alone in
      let bare : me.1 ≡ [] = ap (λ (m : Me (std.Option T) (List (ℕ × Lists T))). m.1) alone in record {
        stage = told.stage;
        word_is = told.word_is;
        below = told.below;
        fits = subst (λ (y : ℕ × ℕ). Fits y.0 y.1 told.stage (lists_in me.0)) (λ i. (who i, one_back file i)) told.fits;
        now_is = told.now_is ∙ λ i. (only (who i) (after found (who i) (one_back file i) (lists_in me.0)), bare i);
      }

  now_lists : (after : ℕ → ℕ → ℕ → Lists T → Lists T) (number file found : ℕ) (old : Lists T) (now : Me (std.Option T) (List (ℕ × Lists T))) → Finds after number file found old now
      → lists_in now.0 ≡ after found number file old
  now_lists after number file found old now f = ap (λ (m : Me (std.Option T) (List (ℕ × Lists T))). lists_in m.0) f.now_is

  -- ---- the answers

  pub claim_new : (number file found : ℕ) (old : Lists T) (now : Me (std.Option T) (List (ℕ × Lists T))) → Finds after_claim number file found old now → found ≡ 0 → IsWon file old (lists_in now.0)
  claim_new number file found old now f free = at f.stage f.word_is f.fits
    where
      lists : lists_in now.0 ≡ win file old
      lists = now_lists after_claim number file found old now f ∙ ap (λ (w : ℕ). after_claim w number file old) free

      at : (stage : Stage T) → found ≡ word_of stage → Fits number file stage old → IsWon file old (lists_in now.0)
      at unclaimed w fits = record {
        not_won = fits.won;
        not_seen = λ owner. not_true _ (λ e. false≢true (fits.seen owner e));
        not_published = fits.published;
        lists = lists;
      }
      at (owned owner) w fits = absurd (omega arith)
      at (done owner rec) w fits = absurd (omega arith)

  known : (number file owner told : ℕ) (stage : Stage T) (old now : Lists T) → Fits number file stage old → told ≡ owner → ((seat : ℕ) → owns seat stage ≡ (owner == seat)) → now ≡ after_owned owner number file old
      → IsKnown number file told old now
  known number file owner told stage old now fits who own is = record {
    won = fits.won ∙ own number ∙ ap (λ (k : ℕ). k == number) (sym who);
    seen = λ other e. who ∙ eqb-true owner other (sym (own other) ∙ fits.seen other e);
    lists = is ∙ ap (λ (k : ℕ). cond (k == number) old (see file k old)) (sym who);
  }

  claim_known : (number file found : ℕ) (old : Lists T) (now : Me (std.Option T) (List (ℕ × Lists T))) → Finds after_claim number file found old now → found ≢ 0
      → IsKnown number file (found / 2 - 1) old (lists_in now.0)
  claim_known number file found old now f held = at f.stage f.word_is f.fits
    where
      at : (stage : Stage T) → found ≡ word_of stage → Fits number file stage old → IsKnown number file (found / 2 - 1) old (lists_in now.0)
      at unclaimed w fits = absurd (held w)
      at (owned owner) w fits = let who : found / 2 - 1 ≡ owner = omega arith in
          known number file owner (found / 2 - 1) (owned owner) old (lists_in now.0) fits who (λ _. refl) (now_lists after_claim number file found old now f ∙ claim_of found owner number file old held who)
      at (done owner rec) w fits = let who : found / 2 - 1 ≡ owner = omega arith in
          known number file owner (found / 2 - 1) (done owner rec) old (lists_in now.0) fits who (λ _. refl) (now_lists after_claim number file found old now f ∙ claim_of found owner number file old held who)

  pub look_free : (number file found : ℕ) (old : Lists T) (now : Me (std.Option T) (List (ℕ × Lists T))) → Finds after_look number file found old now → found ≡ 0 → IsFree file old (lists_in now.0)
  look_free number file found old now f free = at f.stage f.word_is f.fits
    where
      at : (stage : Stage T) → found ≡ word_of stage → Fits number file stage old → IsFree file old (lists_in now.0)
      at unclaimed w fits = record {
        not_won = fits.won;
        not_seen = λ owner. not_true _ (λ e. false≢true (fits.seen owner e));
        not_published = fits.published;
        not_seen_published = not_true _ (λ e. false≢true (fits.seen_published e));
        lists = now_lists after_look number file found old now f ∙ ap (λ (w : ℕ). after_look w number file old) free;
      }
      at (owned owner) w fits = absurd (omega arith)
      at (done owner rec) w fits = absurd (omega arith)

  look_claimed : (number file found : ℕ) (old : Lists T) (now : Me (std.Option T) (List (ℕ × Lists T))) → Finds after_look number file found old now → found ≢ 0 → found % 2 ≡ 0
      → IsClaimed number file (found / 2 - 1) old (lists_in now.0)
  look_claimed number file found old now f held even = at f.stage f.word_is f.fits
    where
      at : (stage : Stage T) → found ≡ word_of stage → Fits number file stage old → IsClaimed number file (found / 2 - 1) old (lists_in now.0)
      at unclaimed w fits = absurd (held w)
      at (owned owner) w fits = let who : found / 2 - 1 ≡ owner = omega arith in record {
        known = known number file owner (found / 2 - 1) (owned owner) old (lists_in now.0) fits who (λ _. refl) (now_lists after_look number file found old now f ∙ look_at_owned found owner number file old held even who);
        not_published = fits.published;
        not_seen_published = not_true _ (λ e. false≢true (fits.seen_published e));
      }
      at (done owner rec) w fits = absurd (omega arith)

  look_published : (number file found : ℕ) (old : Lists T) (now : Me (std.Option T) (List (ℕ × Lists T))) → Finds after_look number file found old now → found ≢ 0 → found % 2 ≢ 0
      → IsPublished number file (found / 2 - 1) old (lists_in now.0)
  look_published number file found old now f held odd = at f.stage f.word_is f.fits
    where
      at : (stage : Stage T) → found ≡ word_of stage → Fits number file stage old → IsPublished number file (found / 2 - 1) old (lists_in now.0)
      at unclaimed w fits = absurd (held w)
      at (owned owner) w fits = absurd (odd (omega arith))
      at (done owner rec) w fits = let who : found / 2 - 1 ≡ owner = omega arith in record {
        won = fits.won ∙ ap (λ (k : ℕ). k == number) (sym who);
        published = ap is_some fits.published ∙ some_if (owner == number) rec ∙ ap (λ (k : ℕ). k == number) (sym who);
        seen = λ other e. who ∙ eqb-true owner other (fits.seen other e);
        lists = now_lists after_look number file found old now f ∙ look_at_done found owner number file old held odd who ∙ ap (λ (k : ℕ). cond (k == number) old (see_published file k old)) (sym who);
      }

  pub names_owner : (after : ℕ → ℕ → ℕ → Lists T → Lists T) (number file found : ℕ) (old : Lists T) (now : Me (std.Option T) (List (ℕ × Lists T))) → Finds after number file found old now → found ≢ 0
      → (2 ≤ found) × (found / 2 - 1 < 2 ^ 32)
  names_owner after number file found old now f held = at f.stage f.word_is f.below
    where
      at : (stage : Stage T) → found ≡ word_of stage → OwnerBelow 4294967295 stage → (2 ≤ found) × (found / 2 - 1 < 2 ^ 32)
      at unclaimed w below = absurd (held w)
      at (owned owner) w below = let h : owner < 4294967295 = below in (omega arith, omega arith)
      at (done owner rec) w below = let h : owner < 4294967295 = below in (omega arith, omega arith)

  -- ---- what stays true of a seat

  once_win : (file : ℕ) (lists : Lists T) → IsOnce lists → IsOnce (win file lists)
  once_win file lists once other =
      let few = once other in
      let more = or-more (is_in other lists.won) (file == other) in
      let is : one_if (is_in other (lists.won ++ file ∷ [])) ≡ one_if (is_in other lists.won || (file == other)) = ap one_if (any-push (λ (k : ℕ). k == other) lists.won file) in
      omega arith

  inside_win : (files file : ℕ) (lists : Lists T) → file < files → AreInside files lists → AreInside files (win file lists)
  inside_win files file lists below inside = (
    λ other e. ⊎_elim (λ (old : is_in other lists.won ≡ true). inside.0 other old) (λ (new : (file == other) ≡ true). subst (λ (k : ℕ). k < files) (eqb-true file other new) below)
        (any-last (λ (k : ℕ). k == other) lists.won file e),
    inside.1,
    inside.2,
  )

  see_inside : (files file owner : ℕ) (lists : Lists T) → file < files → AreInside files lists → (other p : ℕ) → is_seen other p (lists.seen ++ (file, owner) ∷ []) ≡ true → other < files
  see_inside files file owner lists below inside other p e = ⊎_elim
      (λ (old : is_seen other p lists.seen ≡ true). inside.1 other p old)
      (λ (new : ((file == other) && (owner == p)) ≡ true). subst (λ (k : ℕ). k < files) (eqb-true file other (and-both (file == other) (owner == p) new).0) below)
      (any-last (λ (pair : ℕ × ℕ). (pair.0 == other) && (pair.1 == p)) lists.seen (file, owner) e)

  inside_see : (files file owner : ℕ) (lists : Lists T) → file < files → AreInside files lists → AreInside files (see file owner lists)
  inside_see files file owner lists below inside = (inside.0, see_inside files file owner lists below inside, inside.2)

  inside_see_published : (files file owner : ℕ) (lists : Lists T) → file < files → AreInside files lists → AreInside files (see_published file owner lists)
  inside_see_published files file owner lists below inside = (
    inside.0,
    see_inside files file owner lists below inside,
    λ other e. ⊎_elim (λ (old : is_in other lists.seen_published ≡ true). inside.2 other old)
        (λ (new : (file == other) ≡ true). subst (λ (k : ℕ). k < files) (eqb-true file other new) below)
        (any-last (λ (k : ℕ). k == other) lists.seen_published file e),
  )

  -- what is said of each seat's lists
  abbrev pub IsSteady : ℕ → Lists T → Type 0
  IsSteady files lists = (lists.out ≡ []) × IsOnce lists × AreInside files lists

  pub steady_claim : (files found number file : ℕ) (lists : Lists T) → file < files → IsSteady files lists → IsSteady files (after_claim found number file lists)
  steady_claim files found number file lists below steady =
      choose (IsSteady files) (found == 0) (win file lists) (after_owned (found / 2 - 1) number file lists)
      (steady.0, once_win file lists steady.1, inside_win files file lists below steady.2)
      (steady_owned files (found / 2 - 1) number file lists below steady)
    where
      steady_owned : (files owner number file : ℕ) (lists : Lists T) → file < files → IsSteady files lists → IsSteady files (after_owned owner number file lists)
      steady_owned files owner number file lists below steady =
          choose (IsSteady files) (owner == number) lists (see file owner lists) steady (steady.0, steady.1, inside_see files file owner lists below steady.2)

  pub steady_look : (files found number file : ℕ) (lists : Lists T) → file < files → IsSteady files lists → IsSteady files (after_look found number file lists)
  steady_look files found number file lists below steady =
      choose (IsSteady files) (found == 0) lists (cond (found % 2 == 0) (after_owned (found / 2 - 1) number file lists) (after_done (found / 2 - 1) number file lists)) steady
      (choose (IsSteady files) (found % 2 == 0) (after_owned (found / 2 - 1) number file lists) (after_done (found / 2 - 1) number file lists)
      (choose (IsSteady files) (found / 2 - 1 == number) lists (see file (found / 2 - 1) lists) steady (steady.0, steady.1, inside_see files file (found / 2 - 1) lists below steady.2))
      (choose (IsSteady files) (found / 2 - 1 == number) lists (see_published file (found / 2 - 1) lists) steady (steady.0, steady.1, inside_see_published files file (found / 2 - 1) lists below steady.2)))

  no_copies : (file : ℕ) (pairs : List (ℕ × T)) → record_in file pairs ≡ None → copies file pairs ≡ 0
  no_copies file [] e = refl
  no_copies file (x ∷ xs) e = head (x.0 == file) refl e (no_copies file xs)
    where
      head : (b : Bool) → (x.0 == file) ≡ b → cond b (Some x.1) (record_in file xs) ≡ None → (record_in file xs ≡ None → copies file xs ≡ 0) → copies file (x ∷ xs) ≡ 0
      head true is e next = absurd (cc)
      head false is e next =
          let rest : copies file xs ≡ 0 = next e in
          let one : one_if (x.0 == file) ≡ 0 = ap one_if is in
          let sum = sum_by-cons (λ (pair : ℕ × T). cond (pair.0 == file) 1 0) x xs in omega arith

  pub once_put : (file : ℕ) (rec : T) (lists : Lists T) → is_in file lists.won ≡ true → record_in file lists.published ≡ None → IsOnce lists → IsOnce (put_in file rec lists)
  once_put file rec lists won first once other =
      let sum = sum_by-append (λ (pair : ℕ × T). cond (pair.0 == other) 1 0) lists.published ((file, rec) ∷ []) in
      let few = once other in
      ⊎_elim
      (λ (t : ((file == other) ≡ true) × (file ≡ other)).
      let one : one_if (file == other) ≡ 1 = ap one_if t.0 in
      let none : copies other lists.published ≡ 0 = subst (λ (k : ℕ). copies k lists.published ≡ 0) t.1 (no_copies file lists.published first) in
      let mine : one_if (is_in other lists.won) ≡ 1 = ap one_if (subst (λ (k : ℕ). is_in k lists.won ≡ true) t.1 won) in
      omega arith)
      (λ (t : ((file == other) ≡ false) × (file ≢ other)). let zero_more : one_if (file == other) ≡ 0 = ap one_if t.0 in omega arith)
      (eqb_tells file other)

  pub steady_put : (files file : ℕ) (rec : T) (lists : Lists T) → is_in file lists.won ≡ true → record_in file lists.published ≡ None → IsSteady files lists → IsSteady files (put_in file rec lists)
  steady_put files file rec lists won first steady = (refl, once_put file rec lists won first steady.1, steady.2)

  -- a seat's token after a step
  pub steady_seat : (files number : ℕ) (now : Lists T) (me : Me (std.Option T) (List (ℕ × Lists T))) → me ≡ (only number now, []) → IsSteady files now
      → (me ≡ (only number (lists_in me.0), [])) × IsSteady files (lists_in me.0)
  steady_seat files number now me is steady =
      let lists : lists_in me.0 ≡ now = ap (λ (m : Me (std.Option T) (List (ℕ × Lists T))). lists_in m.0) is in
      (is ∙ ap (λ (l : Lists T). (only number l, [])) (sym lists), subst (IsSteady files) (sym lists) steady)

  pub took : (slots number file : ℕ) (lists : Lists T) (me now : Me (std.Option T) (List (ℕ × Lists T))) → me ≡ (only number lists, []) → Took (step slots (file + 1) 0 0 none) me now
      → now ≡ (only number (take_out file lists), (file, None) ∷ [])
  took slots number file lists me now alone told =
      told ∙ ap (λ (m : Me (std.Option T) (List (ℕ × Lists T))). (only (number_in m.0) (take_out (file + 1 - 1) (lists_in m.0)), (file + 1 - 1, None) ∷ m.1)) alone
      ∙ ap (λ (k : ℕ). (only number (take_out k lists), (k, None) ∷ [])) (one_back file)

  pub gave : (number file : ℕ) (rec : T) (lists : Lists T) (me now : Me (std.Option T) (List (ℕ × Lists T))) → me ≡ (only number (take_out file lists), (file, Some rec) ∷ []) → Gave me now
      → now ≡ (only number (put_in file rec lists), [])
  gave number file rec lists me now out told = told ∙ ap (λ (m : Me (std.Option T) (List (ℕ × Lists T))). (only (number_in m.0) (give_back m.1 (lists_in m.0)), [])) out

  pub steady_empty : (files : ℕ) (lists : Lists T) → lists ≡ empty_lists → IsSteady files lists
  steady_empty files lists is = subst (IsSteady files) (sym is)
      (refl, (λ file. omega arith), ((λ file e. absurd (false≢true e)), (λ file owner e. absurd (false≢true e)), λ file e. absurd (false≢true e)))

  -- the same, of the owner that was answered
  pub known_as : (number file found owner : ℕ) (old : Lists T) (now : Me (std.Option T) (List (ℕ × Lists T))) → owner ≡ found / 2 - 1 → Finds after_claim number file found old now → found ≢ 0
      → IsKnown number file owner old (lists_in now.0)
  known_as number file found owner old now is f held = subst (λ (k : ℕ). IsKnown number file k old (lists_in now.0)) (sym is) (claim_known number file found old now f held)

  pub claimed_as : (number file found owner : ℕ) (old : Lists T) (now : Me (std.Option T) (List (ℕ × Lists T))) → owner ≡ found / 2 - 1 → Finds after_look number file found old now → found ≢ 0 → found % 2 ≡ 0
      → IsClaimed number file owner old (lists_in now.0)
  claimed_as number file found owner old now is f held even = subst (λ (k : ℕ). IsClaimed number file k old (lists_in now.0)) (sym is) (look_claimed number file found old now f held even)

  pub published_as : (number file found owner : ℕ) (old : Lists T) (now : Me (std.Option T) (List (ℕ × Lists T))) → owner ≡ found / 2 - 1 → Finds after_look number file found old now → found ≢ 0 → found % 2 ≢ 0
      → IsPublished number file owner old (lists_in now.0)
  published_as number file found owner old now is f held odd = subst (λ (k : ℕ). IsPublished number file k old (lists_in now.0)) (sym is) (look_published number file found old now f held odd)
