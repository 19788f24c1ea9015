-- A key that matches a subpath is told by how long it is and how long its part before `*`.
use Rattle.std.proofs.Common.{◌≡◌, ℕ, suc, ◌+◌, ◌-◌, ◌<◌, ◌≤◌, Bool, true, false, not, ◌&&◌, ◌||◌, cond, eqb, ltb, leb, List, ◌∷◌, ◌++◌, length, take, drop, get_or, count_by, Some, None, refl, sym, ap, ◌∙◌, inl, inr, arith, add-one, drop-cons, drop-drop}
use Rattle.std.specs.List.{ends_with, position_or_len, starts_with}
use Rattle.std.specs.Str.{bytes_eq}
use Rattle.std.proofs.lemmas.Bool.Decides.{eqb_tells, leb_tells, nat_tests}
use Rattle.std.proofs.lemmas.List.{length-drop, length-take, take-append-drop}
use Rattle.std.proofs.lemmas.List.Quantifiers.{position-Some}
use Rattle.std.proofs.lemmas.List.Sums.{prefix_len-le-length}
use Rattle.std.proofs.lemmas.Slice.Eq.{bytes_eq-Decides}
use Rattle.pkg_exports.specs.Keys.{is_match, is_star, length_before, matched_part, outranks, part_after, part_before}
use Rattle.pkg_exports.proofs.Stars.{lengths, placed}

both : (a b : Bool) → (a && b) ≡ true → (a ≡ true) × (b ≡ true)
both true b e = (refl, e)
both false b e = cc

equal : (a b : ℕ) → eqb a b ≡ true → a ≡ b
equal a b e = elim (eqb_tells a b) [ inl w ↦ w.1 | inr w ↦ cc ]

tied : (a b c d : ℕ) → (ltb c a || (eqb a c && ltb d b)) ≡ false → (ltb a c || (eqb c a && ltb b d)) ≡ false → (a ≡ c) × (b ≡ d)
tied a b c d h k = (grind (arith, nat_tests), grind (arith, nat_tests))

-- the parts of a key that matches, by the subpath
record Parts (subpath key : List ℕ) : Type 0 where
  one : count_by is_star key ≡ 1
  front : part_before key ≡ take (length (part_before key)) subpath
  end : part_after key ≡ drop (length subpath - length (part_after key)) subpath
  long : length key ≤ length subpath

parts : (subpath key : List ℕ) → is_match subpath key ≡ true → Parts subpath key
parts subpath key e =
    let fits = both (eqb (count_by is_star key) 1 && starts_with eqb subpath (part_before key) && not (bytes_eq subpath (part_before key)) && ends_with eqb subpath (part_after key)) (leb (length key) (length subpath)) e in
    let ends = both (eqb (count_by is_star key) 1 && starts_with eqb subpath (part_before key) && not (bytes_eq subpath (part_before key))) (ends_with eqb subpath (part_after key)) fits.0 in
    let goes_on = both (eqb (count_by is_star key) 1 && starts_with eqb subpath (part_before key)) (not (bytes_eq subpath (part_before key))) ends.0 in
    let starts = both (eqb (count_by is_star key) 1) (starts_with eqb subpath (part_before key)) goes_on.0 in
    record {
      one = equal (count_by is_star key) 1 starts.0;
      front = (bytes_eq-Decides (part_before key) (take (length (part_before key)) subpath)).0 starts.1;
      end = (bytes_eq-Decides (part_after key) (drop (length subpath - length (part_after key)) subpath)).0 ends.1;
      long = elim (leb_tells (length key) (length subpath)) [ inl w ↦ w.1 | inr w ↦ cc ];
    }

placed_test : (place len : ℕ) → place < len → cond (ltb place len) (Some place) None ≡ Some place
placed_test place len l = elim (leb_tells (suc place) len) [ inl w ↦ rw w.0 refl | inr w ↦ absurd (omega (arith, w.1)) ]

-- a key is its parts with a star between them
whole : (key : List ℕ) → position_or_len is_star key < length key → key ≡ part_before key ++ (42 ∷ part_after key)
whole key l =
    let star = position-Some is_star key (position_or_len is_star key) 0 (placed_test (position_or_len is_star key) (length key) l) in
    let here : get_or key (position_or_len is_star key) 0 ≡ 42 = equal (get_or key (position_or_len is_star key) 0) 42 star.1 in
    sym (take-append-drop (position_or_len is_star key) key)
    ∙ ap (λ rest. part_before key ++ rest) (drop-cons key (position_or_len is_star key) 0 l ∙ ap (λ byte. byte ∷ drop (suc (position_or_len is_star key)) key) here)
    ∙ ap (λ i. part_before key ++ (42 ∷ drop i key)) (sym (add-one (position_or_len is_star key)))

length_front : (key : List ℕ) → length (part_before key) ≡ length_before key
length_front key = omega (arith, length-take (position_or_len is_star key) key, prefix_len-le-length (λ byte. not (is_star byte)) key)

pub ranked : (subpath key other : List ℕ) → is_match subpath key ≡ true → is_match subpath other ≡ true → outranks key other ≡ false → outranks other key ≡ false → key ≡ other
ranked subpath key other m n h k =
    let tie = tied (length_before key) (length key) (length_before other) (length other) h k in
    let one = parts subpath key m in
    let two = parts subpath other n in
    let at_one = placed is_star key one.one in
    let at_two = placed is_star other two.one in
    let before : length (part_before key) ≡ length (part_before other) = length_front key ∙ tie.0 ∙ sym (length_front other) in
    let after : length (part_after key) ≡ length (part_after other) = omega (arith, lengths key at_one, lengths other at_two, tie.1) in
    whole key at_one
    ∙ ap (λ front. front ++ (42 ∷ part_after key)) (one.front ∙ ap (λ i. take i subpath) before ∙ sym two.front)
    ∙ ap (λ end. part_before other ++ (42 ∷ end)) (one.end ∙ ap (λ n. drop (length subpath - n) subpath) after ∙ sym two.end)
    ∙ sym (whole other at_two)

-- what stands between the parts of a key that matches
pub cut : (subpath key : List ℕ) → is_match subpath key ≡ true → (subpath ≡ part_before key ++ (matched_part subpath key ++ part_after key)) × (1 ≤ length (matched_part subpath key))
cut subpath key e =
    let p = parts subpath key e in
    let sum = lengths key (placed is_star key p.one) in
    let long = p.long in
    let b = length (part_before key) in
    let n = length subpath - length (part_after key) - b in
    let behind : b + n ≡ length subpath - length (part_after key) = omega (arith, sum, long) in (
      sym (take-append-drop b subpath)
          ∙ ap (λ rest. take b subpath ++ rest) (sym (take-append-drop n (drop b subpath)))
          ∙ ap (λ rest. take b subpath ++ (take n (drop b subpath) ++ rest)) (drop-drop n b subpath ∙ ap (λ i. drop i subpath) behind ∙ sym p.end)
          ∙ ap (λ front. front ++ (take n (drop b subpath) ++ part_after key)) (sym p.front),
      omega (arith, length-take n (drop b subpath), length-drop b subpath, sum, long),
    )
