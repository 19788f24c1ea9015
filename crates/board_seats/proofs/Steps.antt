-- What the table asks of each step, by what the rule asks.
use Rattle.std.proofs.Common.{◌≡◌, ℕ, zero, suc, ◌+◌, List, [], ◌∷◌, ◌++◌, length, set, map, refl, sym, subst, arith}
use mathlib.Core.Option.{Option, some, some-injective, some-ne-none}
use lib.ListN.{get_elem?}
use Rattle.atomic_table.specs.Table.{State, Me, Allows, Splits, Joins, Enters, opening}
use Rattle.board_seats.specs.Seats.{only, numbered, first_of, rest_of, SitWith, AllSit, Seated, Moves}
use Rattle.board_seats.proofs.Lists.{same_places}
use Rattle.board_seats.proofs.Sitting.{sits_first, sit_step, sit_split, sit_join, sit_blank, sit_numbered, book_has, moved, merged}

module _ {S E : Type 0} (rule : List ℕ → List (Option S) → List E → Type 0) where
  pub allows : (slots token number : ℕ) (entry : E) (carried : List (ℕ × S)) (word : ℕ) (f : ℕ → ℕ) (then : ℕ → Me S (List (ℕ × E)) → Type 0)
      → Moves rule slots number entry carried word f then → Allows (Seated rule) slots token (only number entry, carried) word f then
  allows slots token number entry carried word f then moves s held deep at small =
      let mine = sits_first held.book held.holder s.views token number entry held.sit at in
      let m = moves s.words s.homes held.book held.ruled deep mine.0 small in
      (only number m.0, m.1, m.2, record { book = set held.book number m.0; holder = held.holder; sit = sit_step held.book held.holder s.views token number entry m.0 held.sit at; ruled = m.3 }, m.4)

  pub splits : (token : ℕ) (seat : ℕ × E) (rest : List (ℕ × E)) → Splits (Seated rule) token (seat ∷ rest) rest (seat ∷ [])
  splits token seat rest s held at =
      record { book = held.book; holder = moved held.holder seat.0 (length s.views); sit = sit_split held.book held.holder s.views token seat rest held.sit at; ruled = held.ruled }

  pub splits_first : (token : ℕ) (seats : List (ℕ × E)) (seat : ℕ × E) (rest : List (ℕ × E)) → seats ≡ seat ∷ rest
      → Splits (Seated rule) token seats (rest_of seats) (first_of seats)
  splits_first token seats seat rest is = subst (λ (xs : List (ℕ × E)). Splits (Seated rule) token xs (rest_of xs) (first_of xs)) (sym is) (splits token seat rest)

  pub joins : (to from : ℕ) (xs ys : List (ℕ × E)) → Joins (Seated rule) to xs from ys (xs ++ ys) []
  joins to from xs ys s held at apart there =
      record { book = held.book; holder = merged held.holder from to; sit = sit_join held.book held.holder s.views to from xs ys apart held.sit at there; ruled = held.ruled }

  pub enters : (slots word : ℕ) → Enters (Seated rule) slots word (λ _ seats. let now : Me S (List (ℕ × E)) = (seats, []) in let blank : Me S (List (ℕ × E)) = ([], []) in now ≡ blank)
  enters slots word s held deep small =
      ([], record { book = held.book; holder = held.holder; sit = sit_blank held.book held.holder s.views held.sit; ruled = held.ruled }, refl)

  -- the first token stands for all seats
  pub opens : (words : List ℕ) (homes : List S) (book : List E) → rule words (map some homes) book → Seated rule (opening words homes (numbered 0 book))
  opens words homes book ruled = record { book = book; holder = λ _. 0; sit = first; ruled = ruled }
    where
      first : AllSit book (λ _. 0) (numbered 0 book ∷ [])
      first zero seats e = subst (λ (s : List (ℕ × E)). SitWith book (λ _. 0) 0 s) (some-injective _ _ e)
          (sit_numbered book (λ _. 0) 0 0 book (λ k entry q. let same : 0 + k ≡ k = omega arith in subst (λ (j : ℕ). get_elem? book j ≡ some entry) (sym same) q) (λ _. refl))
      first (suc token) seats e = absurd (some-ne-none seats (sym e))

  -- who holds a token of as many seats as there are, in their order, knows the book
  pub knows : (s : State S (List (ℕ × E))) (token : ℕ) (entries : List E) (held : Seated rule s) → get_elem? s.views token ≡ some (numbered 0 entries)
      → length held.book ≡ length entries → rule s.words s.homes entries
  knows s token entries held at wide =
      let sits = held.sit token (numbered 0 entries) at in
      let same : held.book ≡ entries = same_places held.book entries wide
      (λ k entry q. let zero_k : 0 + k ≡ k = omega arith in subst (λ (j : ℕ). get_elem? held.book j ≡ some entry) zero_k (book_has held.book held.holder token 0 entries sits k entry q)) in
      subst (λ (b : List E). rule s.words s.homes b) same held.ruled
