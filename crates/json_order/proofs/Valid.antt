-- What holds of each reader on the way: its words are UTF-8, and its mode fits the innermost bracket.
use Rattle.std.proofs.Common.{◌≡◌, ℕ, zero, suc, ◌+◌, ◌*◌, ◌≤◌, ◌<◌, Bool, true, false, cond, inl, inr, ◌&&◌, List, [], ◌∷◌, ◌++◌, Option, Some, None, Result, Ok, Err, refl, sym, subst, append_assoc, arith, ◌==◌, ◌||◌, nat_lt, nat_le, lit<, lit≤, ◌-◌}
use Rattle.std.specs.Prelude.{option_and_then, option_map}
use Rattle.std.specs.Char.{digit_value, is_ascii_digit}
use Rattle.std.specs.Str.{IsUtf8, is_utf8}
use Rattle.std.proofs.lemmas.Bool.{eqb-true, ltb-true, ltb-false}
use Rattle.std.proofs.lemmas.Bool.Decides.{nat_tests}
use Rattle.std.proofs.lemmas.Str.{IsUtf8-append, IsUtf8-nil}
use Rattle.json_order.specs.declared.tree.JsonNode.TheVariants as node
use Rattle.json_order.specs.declared.tree.JsonTree.{JsonTree}
use Rattle.json_order.specs.declared.frame.Frame.{Frame}
use Rattle.json_order.specs.declared.frame.Frame.TheVariants as frame
use Rattle.json_order.specs.declared.mode.Mode.{Mode}
use Rattle.json_order.specs.declared.mode.Mode.TheVariants as mode
use Rattle.json_order.specs.declared.mode.Part.{Part}
use Rattle.json_order.specs.declared.mode.Part.TheVariants as part
use Rattle.json_order.specs.declared.mode.Letters.{Letters}
use Rattle.json_order.specs.declared.mode.Digits.{Digits}
use Rattle.json_order.specs.declared.mode.Digits.TheVariants as digits
use Rattle.json_order.specs.declared.reader.Reader.{Reader}
use Rattle.json_order.specs.Grammar.{Tails, tails_of, AreTails, escaped, is_high, is_low, character, paired}
use Rattle.json_order.specs.inner.Frames.{inner_of}
use Rattle.json_order.specs.inner.Modes.{first_part, next_part, first_digit, digit, or_else, after_integer, after_fraction, sign, is_final, letter_of, letters_after, named, with_digit}
use Rattle.json_order.specs.inner.Steps.{tree_at, put_value, with_value, spaced, is_space, value_step, begin_at, other_at, string_at, key_step, after_step, comma_in, closed_list, close_list_of, closed_object, close_object_of, name_on, number_on, closed_number, chars_step, tail_on, escape_on, digits_on, unit_after, lone_unit, tail_mode, close_string_of, string_done, keyed_in, ended, alone, with_bytes, in_mode, step_in}
use Rattle.json_order.proofs.Tests.{by_test, tested, either}
use Rattle.json_order.proofs.Utf8Laws.{IsUtf8-ascii, IsUtf8-character, RowLaws, row_laws}
use Rattle.json_order.proofs.NumberLaws.{digit_from_test}

abbrev pub TopIsList : List Frame → Type 0
TopIsList [] = ⊥
TopIsList (frame.List p xs ∷ frames) = Unit {0}
TopIsList (frame.Object p ms key key_at ∷ frames) = ⊥

abbrev pub TopIsObject : List Frame → Type 0
TopIsObject [] = ⊥
TopIsObject (frame.List p xs ∷ frames) = ⊥
TopIsObject (frame.Object p ms key key_at ∷ frames) = Unit {0}

abbrev pub HasRoot : List Frame → Option JsonTree → Type 0
HasRoot [] root = (x : JsonTree) × (root ≡ Some x)
HasRoot (f ∷ frames) root = Unit {0}

abbrev pub KeyFits : Bool → List Frame → Type 0
KeyFits true frames = TopIsObject frames
KeyFits false frames = Unit {0}

abbrev pub StringFits : Reader → Type 0
StringFits r = IsUtf8 r.word × KeyFits r.is_key r.stack

pub record TailFits (r : Reader) (low high left : ℕ) : Type 0 where
  pub some : 1 ≤ left
  pub room : low ≤ high
  pub utf8 : (tail : List ℕ) → AreTails low high left tail → IsUtf8 (r.word ++ tail)
  pub key : KeyFits r.is_key r.stack

abbrev pub ValidIn : Mode → Reader → Type 0
ValidIn mode.Value r = Unit {0}
ValidIn mode.FirstItem r = TopIsList r.stack
ValidIn mode.FirstKey r = TopIsObject r.stack
ValidIn mode.Key r = TopIsObject r.stack
ValidIn mode.Colon r = TopIsObject r.stack
ValidIn mode.After r = HasRoot r.stack r.root
ValidIn (mode.Name l) r = Unit {0}
ValidIn (mode.Number p) r = IsUtf8 r.word
ValidIn mode.Chars r = StringFits r
ValidIn mode.Escape r = StringFits r
ValidIn (mode.Hex ds) r = StringFits r
ValidIn (mode.Tail low high left) r = TailFits r low high left

abbrev pub Valid : Reader → Type 0
Valid r = ValidIn r.mode r

abbrev pub AllValid : Option Reader → Type 0
AllValid None = Unit {0}
AllValid (Some r) = Valid r

place_valid : (r : Reader) (x : JsonTree) (frames : List Frame) → Valid (put_value r x frames)
place_valid r x [] = (x, refl)
place_valid r x (frame.List p xs ∷ frames) = tt
place_valid r x (frame.Object p ms key key_at ∷ frames) = tt

spaced_valid : (r : Reader) (b : ℕ) → Valid r → AllValid (spaced r b)
spaced_valid r b h = by_test AllValid (is_space b) (Some r) None (λ _. h) (λ _. tt)

ascii_digit : (b : ℕ) (p q : Part) → digit b p ≡ Some q → b < 128
ascii_digit b p q e = elim (tested (λ (o : Option Part). o ≡ Some q) (is_ascii_digit b) (Some p) None e) [
  | inl g ↦ let is = digit_from_test b g.0 in omega arith
  | inr g ↦ cc
]

ascii_first_digit : (b : ℕ) (q : Part) → first_digit b ≡ Some q → b < 128
ascii_first_digit b q e = elim (tested (λ (o : Option Part). o ≡ Some q) (b == 48) (Some part.Zero) (digit b part.Integer) e) [
  | inl g ↦ let is : b ≡ 48 = eqb-true b 48 g.0 in omega arith
  | inr g ↦ ascii_digit b part.Integer q g.1
]

ascii_first : (b : ℕ) (q : Part) → first_part b ≡ Some q → b < 128
ascii_first b q e = elim (tested (λ (o : Option Part). o ≡ Some q) (b == 45) (Some part.Minus) (first_digit b) e) [
  | inl g ↦ let is : b ≡ 45 = eqb-true b 45 g.0 in omega arith
  | inr g ↦ ascii_first_digit b q g.1
]

ascii_two : (b m n : ℕ) (p q : Part) → m < 128 → n < 128 → cond ((b == m) || (b == n)) (Some p) None ≡ Some q → b < 128
ascii_two b m n p q h k e = elim (tested (λ (o : Option Part). o ≡ Some q) ((b == m) || (b == n)) (Some p) None e) [
  | inl g ↦ elim (either (b == m) (b == n) g.0) [
    | inl i ↦ let is : b ≡ m = eqb-true b m i in omega arith
    | inr i ↦ let is : b ≡ n = eqb-true b n i in omega arith
  ]
  | inr g ↦ cc
]

ascii_after_integer : (b : ℕ) (q : Part) → after_integer b ≡ Some q → b < 128
ascii_after_integer b q e = elim (tested (λ (o : Option Part). o ≡ Some q) (b == 46) (Some part.Point) (after_fraction b) e) [
  | inl g ↦ let is : b ≡ 46 = eqb-true b 46 g.0 in omega arith
  | inr g ↦ ascii_two b 101 69 part.Letter q (lit< tt) (lit< tt) g.1
]

ascii_or : (o p : Option Part) (b : ℕ) (q : Part) → ((x : Part) → o ≡ Some x → b < 128) → ((x : Part) → p ≡ Some x → b < 128) → or_else o p ≡ Some q → b < 128
ascii_or (Some x) p b q f g e = f x refl
ascii_or None p b q f g e = g q e

ascii_next : (p : Part) (b : ℕ) (q : Part) → next_part p b ≡ Some q → b < 128
ascii_next part.Minus b q e = ascii_first_digit b q e
ascii_next part.Zero b q e = ascii_after_integer b q e
ascii_next part.Integer b q e = ascii_or (digit b part.Integer) (after_integer b) b q (λ x. ascii_digit b part.Integer x) (λ x. ascii_after_integer b x) e
ascii_next part.Point b q e = ascii_digit b part.Fraction q e
ascii_next part.Fraction b q e = ascii_or (digit b part.Fraction) (after_fraction b) b q (λ x. ascii_digit b part.Fraction x) (λ x. ascii_two b 101 69 part.Letter x (lit< tt) (lit< tt)) e
ascii_next part.Letter b q e = ascii_or (sign b) (digit b part.Exponent) b q (λ x. ascii_two b 43 45 part.Sign x (lit< tt) (lit< tt)) (λ x. ascii_digit b part.Exponent x) e
ascii_next part.Sign b q e = ascii_digit b part.Exponent q e
ascii_next part.Exponent b q e = ascii_digit b part.Exponent q e

other_valid : (r : Reader) (at b : ℕ) → Valid r → AllValid (other_at r at b)
other_valid r at b h =
    by_test AllValid (b == 34) _ _ (λ _. (IsUtf8-nil, tt)) (λ _.
    by_test AllValid (b == 91) _ _ (λ _. tt) (λ _.
    by_test AllValid (b == 123) _ _ (λ _. tt) (λ _.
    by_test AllValid (b == 110) _ _ (λ _. tt) (λ _.
    by_test AllValid (b == 116) _ _ (λ _. tt) (λ _.
    by_test AllValid (b == 102) _ _ (λ _. tt) (λ _. spaced_valid r b h))))))

begin_valid : (r : Reader) (at b : ℕ) (o : Option Part) → first_part b ≡ o → Valid r → AllValid (begin_at r at b o)
begin_valid r at b None e h = other_valid r at b h
begin_valid r at b (Some p) e h = IsUtf8-ascii b (ascii_first b p e)

value_valid : (r : Reader) (at b : ℕ) → Valid r → AllValid (value_step r at b)
value_valid r at b h = begin_valid r at b (first_part b) refl h

list_valid : (r : Reader) (frames : List Frame) → AllValid (close_list_of r frames)
list_valid r [] = tt
list_valid r (frame.List p xs ∷ frames) = place_valid r (tree_at p (node.List xs)) frames
list_valid r (frame.Object p ms key key_at ∷ frames) = tt

object_valid : (r : Reader) (frames : List Frame) → AllValid (close_object_of r frames)
object_valid r [] = tt
object_valid r (frame.List p xs ∷ frames) = tt
object_valid r (frame.Object p ms key key_at ∷ frames) = place_valid r (tree_at p (node.Object ms)) frames

key_valid : (r : Reader) (at b : ℕ) → TopIsObject r.stack → Valid r → AllValid (key_step r at b)
key_valid r at b top h = by_test AllValid (b == 34) (Some (string_at r at true)) (spaced r b) (λ _. (IsUtf8-nil, top)) (λ _. spaced_valid r b h)

comma_valid : (r : Reader) (frames : List Frame) → r.stack ≡ frames → AllValid (comma_in r (inner_of frames))
comma_valid r [] e = tt
comma_valid r (frame.List p xs ∷ frames) e = tt
comma_valid r (frame.Object p ms key key_at ∷ frames) e = subst (λ (k : List Frame). TopIsObject k) (sym e) tt

after_valid : (r : Reader) (b : ℕ) → Valid r → AllValid (after_step r b)
after_valid r b h =
    by_test AllValid (b == 44) _ _ (λ _. comma_valid r r.stack refl) (λ _.
    by_test AllValid (b == 93) _ _ (λ _. list_valid r r.stack) (λ _.
    by_test AllValid (b == 125) _ _ (λ _. object_valid r r.stack) (λ _. spaced_valid r b h)))

name_valid : (r : Reader) (l : Letters) (o : Option Letters) → Valid (name_on r l o)
name_valid r l None = place_valid r (tree_at r.start (named l)) r.stack
name_valid r l (Some next) = tt

number_valid : (r : Reader) (p : Part) (b : ℕ) (o : Option Part) → next_part p b ≡ o → IsUtf8 r.word → AllValid (number_on r p b o)
number_valid r p b (Some q) e h = IsUtf8-append r.word (b ∷ []) h (IsUtf8-ascii b (ascii_next p b q e))
number_valid r p b None e h =
    by_test AllValid (is_final p) (option_and_then (λ s. after_step s b) (closed_number r)) None
    (λ _. by_test (λ (o : Option Reader). AllValid (option_and_then (λ s. after_step s b) o)) (is_utf8 r.word)
    (Some (with_value (record r { word = [] }) (tree_at r.start (node.Number r.word)))) None
    (λ _. after_valid (with_value (record r { word = [] }) (tree_at r.start (node.Number r.word))) b (place_valid (record r { word = [] }) (tree_at r.start (node.Number r.word)) r.stack))
    (λ _. tt))
    (λ _. tt)

pub IsUtf8-alone : (high : Option ℕ) → IsUtf8 (alone high)
IsUtf8-alone None = IsUtf8-nil
IsUtf8-alone (Some h) = IsUtf8-character h

pub IsUtf8-ended : (word : List ℕ) (high : Option ℕ) → IsUtf8 word → IsUtf8 (word ++ alone high)
IsUtf8-ended word high h = IsUtf8-append word (alone high) h (IsUtf8-alone high)

keyed_valid : (r : Reader) (content : List ℕ) (frames : List Frame) → AllValid (keyed_in r content frames)
keyed_valid r content [] = tt
keyed_valid r content (frame.List p xs ∷ frames) = tt
keyed_valid r content (frame.Object p ms key key_at ∷ frames) = tt

closed_string_valid : (r : Reader) → AllValid (close_string_of r)
closed_string_valid r =
    by_test AllValid (is_utf8 r.word) (string_done (record r { word = [] }) r.word) None
    (λ _. by_test AllValid r.is_key (keyed_in (record r { word = [] }) r.word r.stack) (Some (with_value (record r { word = [] }) (tree_at r.start (node.Str r.word))))
    (λ _. keyed_valid (record r { word = [] }) r.word r.stack)
    (λ _. place_valid (record r { word = [] }) (tree_at r.start (node.Str r.word)) r.stack))
    (λ _. tt)

taken_valid : (r : Reader) (b : ℕ) → b < 128 → StringFits r → Valid (with_bytes (ended r) (b ∷ []) mode.Chars)
taken_valid r b h fits = (IsUtf8-append (r.word ++ alone r.high) (b ∷ []) (IsUtf8-ended r.word r.high fits.0) (IsUtf8-ascii b h), fits.1)

tail_valid : (r : Reader) (b : ℕ) (o : Option Tails) → tails_of b ≡ o → StringFits r
    → AllValid (tail_on r b (option_map (λ (row : Tails). mode.Tail row.low row.high row.left) o))
tail_valid r b None e fits = tt
tail_valid r b (Some row) e fits =
    let laws : RowLaws b row = row_laws b row e in
    record {
      some = laws.some;
      room = laws.room;
      utf8 = λ tail are. subst (λ (w : List ℕ). IsUtf8 w) (sym (append_assoc (r.word ++ alone r.high) (b ∷ []) tail))
          (IsUtf8-append (r.word ++ alone r.high) (b ∷ tail) (IsUtf8-ended r.word r.high fits.0) (laws.utf8 tail are));
      key = fits.1;
    }

chars_valid : (r : Reader) (b : ℕ) → StringFits r → AllValid (chars_step r b)
chars_valid r b fits =
    by_test AllValid (b == 34) _ _ (λ _. closed_string_valid (ended r)) (λ _.
    by_test AllValid (b == 92) _ _ (λ _. fits) (λ _.
    by_test AllValid (nat_lt b 32) _ _ (λ _. tt) (λ _.
    by_test AllValid (nat_lt b 128) _ _ (λ e. taken_valid r b (ltb-true b 128 e) fits) (λ _. tail_valid r b (tails_of b) refl fits))))

escaped_ascii : (b char : ℕ) → escaped b ≡ Some char → char < 128
escaped_ascii b char e =
    let P : Option ℕ → Type 0 = λ o. o ≡ Some char in
    elim (tested P (b == 34) _ _ e) [
      | inl g ↦ let is : 34 ≡ char = cc in omega arith
      | inr g ↦
          elim (tested P (b == 92) _ _ g.1) [
            | inl h ↦ let is : 92 ≡ char = cc in omega arith
            | inr h ↦
                elim (tested P (b == 47) _ _ h.1) [
                  | inl i ↦ let is : 47 ≡ char = cc in omega arith
                  | inr i ↦
                      elim (tested P (b == 98) _ _ i.1) [
                        | inl j ↦ let is : 8 ≡ char = cc in omega arith
                        | inr j ↦
                            elim (tested P (b == 102) _ _ j.1) [
                              | inl k ↦ let is : 12 ≡ char = cc in omega arith
                              | inr k ↦
                                  elim (tested P (b == 110) _ _ k.1) [
                                    | inl l ↦ let is : 10 ≡ char = cc in omega arith
                                    | inr l ↦
                                        elim (tested P (b == 114) _ _ l.1) [
                                          | inl m ↦ let is : 13 ≡ char = cc in omega arith
                                          | inr m ↦
                                              elim (tested P (b == 116) _ _ m.1) [ inl n ↦ let is : 9 ≡ char = cc in omega arith | inr n ↦ cc ]
                                        ]
                                  ]
                            ]
                      ]
                ]
          ]
    ]

escape_valid : (r : Reader) (o : Option ℕ) → ((char : ℕ) → o ≡ Some char → char < 128) → StringFits r → AllValid (escape_on r o)
escape_valid r None h fits = tt
escape_valid r (Some char) h fits = taken_valid r char (h char refl) fits

lone_valid : (r : Reader) (n : ℕ) → StringFits r → Valid (lone_unit r n)
lone_valid r n fits = by_test Valid (is_high n) (record r { mode = mode.Chars; high = Some n }) (with_bytes r (character n) mode.Chars)
    (λ _. fits) (λ _. (IsUtf8-append r.word (character n) fits.0 (IsUtf8-character n), fits.1))

unit_valid : (r : Reader) (n : ℕ) (o : Option ℕ) → StringFits r → Valid (unit_after r n o)
unit_valid r n None fits = lone_valid (ended r) n (IsUtf8-ended r.word r.high fits.0, fits.1)
unit_valid r n (Some h) fits = by_test Valid (is_high h && is_low n) (record r { mode = mode.Chars; word = r.word ++ paired h n; high = None }) (lone_unit (ended r) n)
    (λ _. (IsUtf8-append r.word (paired h n) fits.0 (IsUtf8-character (0x10000 + (h - 0xD800) * 1024 + (n - 0xDC00))), fits.1))
    (λ _. lone_valid (ended r) n (IsUtf8-ended r.word r.high fits.0, fits.1))

digits_valid : (r : Reader) (o : Result Digits ℕ) → StringFits r → Valid (digits_on r o)
digits_valid r (Ok more) fits = fits
digits_valid r (Err n) fits = unit_valid r n r.high fits

tail_step_valid : (r : Reader) (low high left b : ℕ) → TailFits r low high left → low ≤ b → b ≤ high → Valid (with_bytes r (b ∷ []) (tail_mode left))
tail_step_valid r low high zero b fits above below = absurd (let some : 1 ≤ zero = fits.some in omega arith)
tail_step_valid r low high (suc left) b fits above below =
    by_test (λ (m : Mode). Valid (with_bytes r (b ∷ []) m)) (nat_lt (suc left) 2) mode.Chars (mode.Tail 0x80 0xBF (suc left - 1))
    (λ e. (fits.utf8 (b ∷ []) (above, below, last left (ltb-true (suc left) 2 e)), fits.key))
    (λ e. let more : 2 ≤ suc left = ltb-false (suc left) 2 e in
    let same : suc left - 1 ≡ left = omega arith in
    record {
      some = omega arith;
      room = lit≤ tt;
      utf8 = λ tail are. subst (λ (w : List ℕ). IsUtf8 w) (sym (append_assoc r.word (b ∷ []) tail))
          (fits.utf8 (b ∷ tail) (above, below, subst (λ (n : ℕ). AreTails 0x80 0xBF n tail) same are));
      key = fits.key;
    })
  where
    last : (n : ℕ) → suc n < 2 → AreTails 0x80 0xBF n []
    last zero h = refl
    last (suc n) h = absurd (omega arith)

in_range : (low high b : ℕ) → (nat_le low b && nat_le b high) ≡ true → (low ≤ b) × (b ≤ high)
in_range low high b e = grind (arith, nat_tests)

pub step_valid : (m : Mode) (r : Reader) (at b : ℕ) → r.mode ≡ m → ValidIn m r → AllValid (step_in m r at b)
step_valid m r at b is h = go m (subst (λ (k : Mode). ValidIn k r) (sym is) h) h
  where
    go : (m : Mode) → Valid r → ValidIn m r → AllValid (step_in m r at b)
    go mode.Value valid h = value_valid r at b valid
    go mode.FirstItem valid h = by_test AllValid (b == 93) (closed_list r) (value_step r at b) (λ _. list_valid r r.stack) (λ _. value_valid r at b valid)
    go mode.FirstKey valid h = by_test AllValid (b == 125) (closed_object r) (key_step r at b) (λ _. object_valid r r.stack) (λ _. key_valid r at b h valid)
    go mode.Key valid h = key_valid r at b h valid
    go mode.Colon valid h = by_test AllValid (b == 58) (Some (in_mode r mode.Value)) (spaced r b) (λ _. tt) (λ _. spaced_valid r b valid)
    go mode.After valid h = after_valid r b valid
    go (mode.Name l) valid h = by_test AllValid (b == letter_of l) (Some (name_on r l (letters_after l))) None (λ _. name_valid r l (letters_after l)) (λ _. tt)
    go (mode.Number p) valid h = number_valid r p b (next_part p b) refl h
    go mode.Chars valid h = chars_valid r b h
    go mode.Escape valid h = by_test AllValid (b == 117) (Some (in_mode r (mode.Hex digits.Zero))) (escape_on r (escaped b)) (λ _. h) (λ _. escape_valid r (escaped b) (escaped_ascii b) h)
    go (mode.Hex ds) valid h = by_test AllValid (nat_lt (digit_value b) 16) (Some (digits_on r (with_digit ds (digit_value b)))) None (λ _. digits_valid r (with_digit ds (digit_value b)) h) (λ _. tt)
    go (mode.Tail low high left) valid h = by_test AllValid (nat_le low b && nat_le b high) (Some (with_bytes r (b ∷ []) (tail_mode left))) None
        (λ e. let k : (low ≤ b) × (b ≤ high) = in_range low high b e in tail_step_valid r low high left b h k.0 k.1) (λ _. tt)
