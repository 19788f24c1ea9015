-- The seats stay with their tokens when one seat's entry changes, when a token is split, when two are joined and when an
-- empty one comes.
use Rattle.std.proofs.Common.{◌≡◌, ◌≢◌, ℕ, zero, suc, ◌+◌, ◌-◌, ◌<◌, List, [], ◌∷◌, ◌++◌, length, replicate, set, cond, eqb, eq-eqb, ne_eqb, refl, sym, ap, subst, ◌∙◌, ⊎_elim, arith}
use mathlib.Core.Option.{some, some-ne-none}
use lib.ListN.{get_elem?}
use Rattle.atomic_table.proofs.Lists.{at_set, set_here, set_else}
use Rattle.board_seats.specs.Seats.{only, numbered, IsApart, SitWith, AllSit}
use Rattle.board_seats.proofs.Lists.{below_length, at_end}

-- one seat is with the new token, and each other one where it was
abbrev pub moved : (ℕ → ℕ) → ℕ → ℕ → ℕ → ℕ
moved holder number new k = cond (eqb k number) new (holder k)

moved_other : (holder : ℕ → ℕ) (number new k : ℕ) → k ≢ number → moved holder number new k ≡ holder k
moved_other holder number new k ne = rw (ne_eqb k number ne) refl

moved_here : (holder : ℕ → ℕ) (number new : ℕ) → moved holder number new number ≡ new
moved_here holder number new = rw (eq-eqb number number refl) refl

-- who was with one token is with another
abbrev pub merged : (ℕ → ℕ) → ℕ → ℕ → ℕ → ℕ
merged holder from to k = cond (eqb (holder k) from) to (holder k)

merged_other : (holder : ℕ → ℕ) (from to token k : ℕ) → holder k ≡ token → token ≢ from → merged holder from to k ≡ token
merged_other holder from to token k held ne = rw (ne_eqb (holder k) from (λ q. ne (sym held ∙ q))) held

merged_here : (holder : ℕ → ℕ) (from to k : ℕ) → holder k ≡ from → merged holder from to k ≡ to
merged_here holder from to k held = rw (eq-eqb (holder k) from held) refl

module _ {E : Type 0} where
  -- whoever is with one token is as it was for each change that leaves its seats alone
  pub sit_as : (book now : List E) (holder held : ℕ → ℕ) (token other : ℕ) (seats : List (ℕ × E))
      → ((k : ℕ) → holder k ≡ token → (get_elem? now k ≡ get_elem? book k) × (held k ≡ other))
      → SitWith book holder token seats → SitWith now held other seats
  sit_as book now holder held token other [] same sit = tt
  sit_as book now holder held token other (x ∷ xs) same sit =
      let here = same x.0 sit.1 in (here.0 ∙ sit.0, here.1, sit.2, sit_as book now holder held token other xs same sit.3)

  -- a seat that a token stands for
  pub sits_first : (book : List E) (holder : ℕ → ℕ) (tokens : List (List (ℕ × E))) (token number : ℕ) (entry : E)
      → AllSit book holder tokens → get_elem? tokens token ≡ some (only number entry) → (get_elem? book number ≡ some entry) × (holder number ≡ token)
  sits_first book holder tokens token number entry sit e = let s = sit token (only number entry) e in (s.0, s.1)

  pub sit_step : (book : List E) (holder : ℕ → ℕ) (tokens : List (List (ℕ × E))) (token number : ℕ) (entry now : E)
      → AllSit book holder tokens → get_elem? tokens token ≡ some (only number entry)
      → AllSit (set book number now) holder (set tokens token (only number now))
  sit_step book holder tokens token number entry now sit e i seats at =
      let mine = sits_first book holder tokens token number entry sit e in
      ⊎_elim
      (λ (t : (i ≡ token) × (only number now ≡ seats)). subst (λ (s : List (ℕ × E)). SitWith (set book number now) holder i s) t.1
      (set_here book number now (below_length book number entry mine.0), mine.1 ∙ sym t.0, tt, tt))
      (λ (t : (i ≢ token) × (get_elem? tokens i ≡ some seats)). sit_as book (set book number now) holder holder i i seats
      (λ k held. (set_else book number k now (λ (q : k ≡ number). t.0 (sym held ∙ ap holder q ∙ mine.1)), held))
      (sit i seats t.1))
      (at_set tokens token i (only number now) seats at)

  sit_moved : (book : List E) (holder : ℕ → ℕ) (number new token : ℕ) (seats : List (ℕ × E))
      → IsApart number seats → SitWith book holder token seats → SitWith book (moved holder number new) token seats
  sit_moved book holder number new token [] apart sit = tt
  sit_moved book holder number new token (x ∷ xs) apart sit =
      (sit.0, moved_other holder number new x.0 (λ e. apart.0 (sym e)) ∙ sit.1, sit.2, sit_moved book holder number new token xs apart.1 sit.3)

  elsewhere : (book : List E) (holder : ℕ → ℕ) (number token : ℕ) (seats : List (ℕ × E)) → holder number ≢ token → SitWith book holder token seats → IsApart number seats
  elsewhere book holder number token [] away sit = tt
  elsewhere book holder number token (x ∷ xs) away sit = ((λ (e : number ≡ x.0). away (ap holder e ∙ sit.1)), elsewhere book holder number token xs away sit.3)

  pub sit_split : (book : List E) (holder : ℕ → ℕ) (tokens : List (List (ℕ × E))) (token : ℕ) (seat : ℕ × E) (rest : List (ℕ × E))
      → AllSit book holder tokens → get_elem? tokens token ≡ some (seat ∷ rest)
      → AllSit book (moved holder seat.0 (length tokens)) (set tokens token rest ++ (seat ∷ []) ∷ [])
  sit_split book holder tokens token seat rest sit e i seats at =
      let mine = sit token (seat ∷ rest) e in
      ⊎_elim
      (λ (old : get_elem? (set tokens token rest) i ≡ some seats). ⊎_elim
      (λ (t : (i ≡ token) × (rest ≡ seats)). subst (λ (y : ℕ × List (ℕ × E)). SitWith book (moved holder seat.0 (length tokens)) y.0 y.1) (λ j. (sym t.0 j, t.1 j))
      (sit_moved book holder seat.0 (length tokens) token rest mine.2 mine.3))
      (λ (t : (i ≢ token) × (get_elem? tokens i ≡ some seats)).
      let there = sit i seats t.1 in
      sit_moved book holder seat.0 (length tokens) i seats (elsewhere book holder seat.0 i seats (λ q. t.0 (sym q ∙ mine.1)) there) there)
      (at_set tokens token i rest seats old))
      (λ (new : (i ≡ length (set tokens token rest)) × ((seat ∷ []) ≡ seats)).
      subst (λ (s : List (ℕ × E)). SitWith book (moved holder seat.0 (length tokens)) i s) new.1
      (mine.0, moved_here holder seat.0 (length tokens) ∙ sym (new.0 ∙ lib.ListN.length-set tokens token rest), tt, tt))
      (at_end (set tokens token rest) (seat ∷ []) seats i at)

  apart_join : (number : ℕ) (xs ys : List (ℕ × E)) → IsApart number xs → IsApart number ys → IsApart number (xs ++ ys)
  apart_join number [] ys a b = b
  apart_join number (x ∷ xs) ys a b = (a.0, apart_join number xs ys a.1 b)

  sit_both : (book : List E) (holder : ℕ → ℕ) (to from : ℕ) (xs ys : List (ℕ × E)) → to ≢ from
      → SitWith book holder to xs → SitWith book holder from ys → SitWith book (merged holder from to) to (xs ++ ys)
  sit_both book holder to from [] ys ne sx sy = sit_as book book holder (merged holder from to) from to ys (λ k held. (refl, merged_here holder from to k held)) sy
  sit_both book holder to from (x ∷ xs) ys ne sx sy =
      (sx.0, merged_other holder from to to x.0 sx.1 ne, apart_join x.0 xs ys sx.2 (elsewhere book holder x.0 from ys (λ q. ne (sym sx.1 ∙ q)) sy), sit_both book holder to from xs ys ne sx.3 sy)

  pub sit_join : (book : List E) (holder : ℕ → ℕ) (tokens : List (List (ℕ × E))) (to from : ℕ) (xs ys : List (ℕ × E)) → ¬ (from ≡ to)
      → AllSit book holder tokens → get_elem? tokens to ≡ some xs → get_elem? (set tokens to (xs ++ ys)) from ≡ some ys
      → AllSit book (merged holder from to) (set (set tokens to (xs ++ ys)) from [])
  sit_join book holder tokens to from xs ys ne sit e f i seats at =
      let theirs : get_elem? tokens from ≡ some ys = sym (set_else tokens to from (xs ++ ys) ne) ∙ f in
      ⊎_elim
      (λ (t : (i ≡ from) × ([] ≡ seats)). subst (λ (s : List (ℕ × E)). SitWith book (merged holder from to) i s) t.1 tt)
      (λ (t : (i ≢ from) × (get_elem? (set tokens to (xs ++ ys)) i ≡ some seats)). ⊎_elim
      (λ (u : (i ≡ to) × ((xs ++ ys) ≡ seats)). subst (λ (y : ℕ × List (ℕ × E)). SitWith book (merged holder from to) y.0 y.1) (λ j. (sym u.0 j, u.1 j))
      (sit_both book holder to from xs ys (λ q. ne (sym q)) (sit to xs e) (sit from ys theirs)))
      (λ (u : (i ≢ to) × (get_elem? tokens i ≡ some seats)). sit_as book book holder (merged holder from to) i i seats (λ k held. (refl, merged_other holder from to i k held t.0)) (sit i seats u.1))
      (at_set tokens to i (xs ++ ys) seats t.1))
      (at_set (set tokens to (xs ++ ys)) from i [] seats at)

  pub sit_blank : (book : List E) (holder : ℕ → ℕ) (tokens : List (List (ℕ × E))) → AllSit book holder tokens → AllSit book holder (tokens ++ [] ∷ [])
  sit_blank book holder tokens sit i seats at =
      ⊎_elim
      (λ (old : get_elem? tokens i ≡ some seats). sit i seats old)
      (λ (new : (i ≡ length tokens) × ([] ≡ seats)). subst (λ (s : List (ℕ × E)). SitWith book holder i s) new.1 tt)
      (at_end tokens [] seats i at)

  -- ---- a token of all seats

  later : (number from : ℕ) (entries : List E) → number < from → IsApart number (numbered from entries)
  later number from [] h = tt
  later number from (x ∷ xs) h = ((λ (e : number ≡ from). omega arith), later number (suc from) xs (omega arith))

  pub sit_numbered : (book : List E) (holder : ℕ → ℕ) (token from : ℕ) (entries : List E)
      → ((k : ℕ) (entry : E) → get_elem? entries k ≡ some entry → get_elem? book (from + k) ≡ some entry)
      → ((k : ℕ) → holder k ≡ token) → SitWith book holder token (numbered from entries)
  sit_numbered book holder token from [] has held = tt
  sit_numbered book holder token from (x ∷ xs) has held =
      let first : from + 0 ≡ from = omega arith in (
        subst (λ (k : ℕ). get_elem? book k ≡ some x) first (has 0 x refl),
        held from,
        later from (suc from) xs (omega arith),
        sit_numbered book holder token (suc from) xs
            (λ k entry e. let next : from + suc k ≡ suc from + k = omega arith in subst (λ (j : ℕ). get_elem? book j ≡ some entry) next (has (suc k) entry e)) held,
      )

  pub book_has : (book : List E) (holder : ℕ → ℕ) (token from : ℕ) (entries : List E) → SitWith book holder token (numbered from entries)
      → (k : ℕ) (entry : E) → get_elem? entries k ≡ some entry → get_elem? book (from + k) ≡ some entry
  book_has book holder token from [] sit k entry e = absurd (some-ne-none entry (sym e))
  book_has book holder token from (x ∷ xs) sit zero entry e =
      let first : from ≡ from + 0 = omega arith in subst (λ (j : ℕ). get_elem? book j ≡ some entry) first (sit.0 ∙ e)
  book_has book holder token from (x ∷ xs) sit (suc k) entry e =
      let next : suc from + k ≡ from + suc k = omega arith in subst (λ (j : ℕ). get_elem? book j ≡ some entry) next (book_has book holder token (suc from) xs sit.3 k entry e)

  -- the seat that comes after all these
  pub numbered-push : (from number : ℕ) (entries : List E) (entry : E) → number ≡ from + length entries
      → numbered from entries ++ only number entry ≡ numbered from (entries ++ entry ∷ [])
  numbered-push from number [] entry e = let here : number ≡ from = omega arith in λ k. (here k, entry) ∷ []
  numbered-push from number (x ∷ xs) entry e = λ k. (from, x) ∷ numbered-push (suc from) number xs entry (omega arith) k

  -- the first of the seats from a number up to an end, all alike
  pub numbered-next : (number end : ℕ) (entry : E) → number < end
      → numbered number (replicate (end - number) entry) ≡ (number, entry) ∷ numbered (number + 1) (replicate (end - (number + 1)) entry)
  numbered-next number end entry h =
      let more : end - number ≡ suc (end - (number + 1)) = omega arith in
      let one : suc number ≡ number + 1 = omega arith in
      ap (λ (n : ℕ). numbered number (replicate n entry)) more ∙ ap (λ (n : ℕ). (number, entry) ∷ numbered n (replicate (end - (number + 1)) entry)) one
