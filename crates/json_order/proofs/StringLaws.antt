-- Within a string.
use Rattle.std.proofs.Common.{◌≡◌, ◌∙◌, ℕ, suc, zero, ◌+◌, ◌-◌, ◌≤◌, ◌<◌, Bool, true, false, cond, inl, inr, ◌&&◌, List, [], ◌∷◌, ◌++◌, length, Option, Some, None, Result, Ok, Err, refl, ap, sym, subst, append-nil, append_assoc, arith, ◌==◌, nat_lt, nat_le}
use Rattle.std.specs.Prelude.{option_map}
use Rattle.std.specs.Char.{digit_value}
use Rattle.std.specs.Str.{is_utf8}
use Rattle.std.proofs.lemmas.Bool.{eqb-true, cond-true, cond-false, ltb-true, ltb-false, lt-ltb, le-ltb}
use Rattle.std.proofs.lemmas.Bool.Decides.{nat_tests}
use Rattle.json_order.specs.declared.tree.JsonNode.TheVariants as node
use Rattle.json_order.specs.declared.tree.JsonTree.{JsonTree}
use Rattle.json_order.specs.declared.frame.Frame.{Frame}
use Rattle.json_order.specs.declared.frame.Frame.TheVariants as frame
use Rattle.json_order.specs.declared.mode.Mode.{Mode}
use Rattle.json_order.specs.declared.mode.Mode.TheVariants as mode
use Rattle.json_order.specs.declared.mode.Digits.{Digits}
use Rattle.json_order.specs.declared.mode.Digits.TheVariants as digits
use Rattle.json_order.specs.declared.reader.Reader.{Reader}
use Rattle.json_order.specs.Grammar.{Word, Chars, Piece, plain, escape, unit, IsUnescaped, Tails, tails_of, AreTails, escaped, unit_of, is_high, is_low, character, paired, content_of}
use Rattle.json_order.specs.inner.Modes.{with_digit, tail_behind}
use Rattle.json_order.specs.inner.Steps.{tree_at, chars_step, unescaped_step, tail_on, escape_step, escape_on, hex_step, digits_on, with_unit, lone_unit, tail_step, tail_mode, closed_string, string_done, keyed_in, ended, alone, with_bytes, in_mode}
use Rattle.json_order.proofs.Rest.{Plan, root_of, Behind, Lands, RestOfChars, RestOfEscape, RestOfHex, RestOfTail, RestOfColon, Rooted, Followed, content_with, content_number, Completes}
use Rattle.json_order.proofs.Tests.{by_test, tested, same_depth}
use Rattle.json_order.proofs.Places.{reader, place_on, place_back}

content_alone : (high : Option ℕ) → content_with high [] ≡ alone high
content_alone None = refl
content_alone (Some h) = refl

content_plain : (high : Option ℕ) (bytes : List ℕ) (ps : List Piece) → content_with high (plain bytes ∷ ps) ≡ alone high ++ (bytes ++ content_of ps)
content_plain None bytes ps = refl
content_plain (Some h) bytes ps = refl

content_escape : (high : Option ℕ) (letter char : ℕ) (ps : List Piece) → content_with high (escape letter char ∷ ps) ≡ alone high ++ ((char ∷ []) ++ content_of ps)
content_escape None letter char ps = refl
content_escape (Some h) letter char ps = refl

content_single : (a b c d : ℕ) (ps : List Piece) → content_of (unit a b c d ∷ ps) ≡ content_with (Some (unit_of a b c d)) ps
content_single a b c d [] = refl
content_single a b c d (plain bytes ∷ ps) = refl
content_single a b c d (escape letter char ∷ ps) = refl
content_single a b c d (unit e f g h ∷ ps) = refl

content_unit : (high : Option ℕ) (a b c d : ℕ) (ps : List Piece) → content_with high (unit a b c d ∷ ps) ≡ content_number high (unit_of a b c d) ps
content_unit None a b c d ps = content_single a b c d ps
content_unit (Some h) a b c d ps =
    ap (λ (w : List ℕ). cond (is_high h && is_low (unit_of a b c d)) (paired h (unit_of a b c d) ++ content_of ps) (character h ++ w)) (content_single a b c d ps)

-- a number that is no high surrogate stands alone
content_low : (n : ℕ) (ps : List Piece) (v : Bool) → is_high n ≡ v → v ≡ false → content_with (Some n) ps ≡ character n ++ content_of ps
content_low n [] v e f = sym (append-nil (character n))
content_low n (plain bytes ∷ ps) v e f = refl
content_low n (escape letter char ∷ ps) v e f = refl
content_low n (unit a b c d ∷ ps) v e f =
    ap (λ (w : Bool). cond (w && is_low (unit_of a b c d)) (paired n (unit_of a b c d) ++ content_of ps) (character n ++ content_of (unit a b c d ∷ ps))) (e ∙ f)

regroup : (a b c d : List ℕ) → a ++ (b ++ (c ++ d)) ≡ ((a ++ b) ++ c) ++ d
regroup a b c d = sym (append_assoc (a ++ b) c d ∙ append_assoc a b (c ++ d))

tails_high : (b : ℕ) (row : Tails) → tails_of b ≡ Some row → 194 ≤ b
tails_high b row e = elim (tested (λ (o : Option Tails). o ≡ Some row) (nat_lt b 0xC2) None _ e) [
  | inl g ↦ cc
  | inr g ↦ ltb-false b 0xC2 g.0
]

not_eq : (a b : ℕ) → (a ≡ b → ⊥) → (a == b) ≡ false
not_eq a b h = grind (arith, nat_tests)

module _ (start : ℕ) (is_key : Bool) (frames : List Frame) (root : Option JsonTree) (deep : ℕ) (t : JsonTree) where
  abbrev pub str : Mode → List ℕ → Option ℕ → Reader
  str m word high = reader m start word high is_key frames root

  abbrev Total : ℕ
  Total = deep + length frames

  -- what the string is, and what stands behind it
  abbrev Is : List ℕ → JsonTree → Plan frames → Type 0
  Is content x plan = Rooted is_key frames start content x plan t

  abbrev Then : JsonTree → Plan frames → ℕ → List ℕ → Type 0
  Then x plan at text = Followed is_key deep frames x plan at text

  reread : (a b : List ℕ) (x : JsonTree) (plan : Plan frames) → a ≡ b → Is a x plan → Is b x plan
  reread a b x plan e h = subst (λ (c : List ℕ). Is c x plan) e h

  at_depth : (d : ℕ) (pieces : List Piece) (tail : List ℕ) (x : JsonTree) (plan : Plan frames) (at : ℕ) (text : List ℕ) → d + length frames ≡ deep + length frames
      → Word tail (Chars pieces (Followed is_key d frames x plan)) at text → Word tail (Chars pieces (Then x plan)) at text
  at_depth d pieces tail x plan at text same h = same_depth (λ (n : ℕ). Word tail (Chars pieces (Followed is_key n frames x plan)) at text) d deep (length frames) same h

  -- the code unit is added
  lone_on : (m : Mode) (w : List ℕ) (n : ℕ) (ps : List Piece) (x : JsonTree) (plan : Plan frames) (at : ℕ) (text : List ℕ)
      → Is (w ++ content_with (Some n) ps) x plan → Chars ps (Then x plan) at text → Lands Total (Some (lone_unit (str m w None) n)) t at text
  lone_on m w n ps x plan at text is h =
      by_test (λ (s : Reader). Lands Total (Some s) t at text) (is_high n) (str mode.Chars w (Some n)) (str mode.Chars (w ++ character n) None)
      (λ e. (deep, refl, (ps, x, plan, is, h)))
      (λ e. (deep, refl, (ps, x, plan, reread _ _ x plan (ap (λ (c : List ℕ). w ++ c) (content_low n ps (is_high n) refl e) ∙ sym (append_assoc w (character n) (content_of ps))) is, h)))

  unit_on : (m : Mode) (word : List ℕ) (high : Option ℕ) (n : ℕ) (ps : List Piece) (x : JsonTree) (plan : Plan frames) (at : ℕ) (text : List ℕ)
      → Is (word ++ content_number high n ps) x plan → Chars ps (Then x plan) at text → Lands Total (Some (with_unit (str m word high) n)) t at text
  unit_on m word None n ps x plan at text is h =
      lone_on m (word ++ []) n ps x plan at text (reread _ _ x plan (ap (λ (w : List ℕ). w ++ content_with (Some n) ps) (sym (append-nil word))) is) h
  unit_on m word (Some high) n ps x plan at text is h =
      by_test (λ (s : Reader). Lands Total (Some s) t at text) (is_high high && is_low n) (str mode.Chars (word ++ paired high n) None) (lone_unit (str m (word ++ character high) None) n)
      (λ e. (
        deep,
        refl,
        (
          ps,
          x,
          plan,
          reread _ _ x plan (ap (λ (c : List ℕ). word ++ c) (cond-true (is_high high && is_low n) (paired high n ++ content_of ps) (character high ++ content_with (Some n) ps) e)
              ∙ sym (append_assoc word (paired high n) (content_of ps))) is,
          h,
        ),
      ))
      (λ e. lone_on m (word ++ character high) n ps x plan at text (reread _ _ x plan (ap (λ (c : List ℕ). word ++ c) (cond-false (is_high high && is_low n) (paired high n ++ content_of ps) (character high ++ content_with (Some n) ps) e)
      ∙ sym (append_assoc word (character high) (content_with (Some n) ps))) is) h)

  -- a string that goes on
  abbrev GoesOnBy : (List Piece → List ℕ) → ℕ → List ℕ → Type 0
  GoesOnBy content at text = (ps : List Piece) × (x : JsonTree) × (plan : Plan frames) × Is (content ps) x plan × Chars ps (Then x plan) at text

  lone_back : (m : Mode) (w : List ℕ) (n : ℕ) (at : ℕ) (text : List ℕ) → Lands Total (Some (lone_unit (str m w None) n)) t at text
      → GoesOnBy (λ ps. w ++ content_with (Some n) ps) at text
  lone_back m w n at text h =
      elim (tested (λ (s : Reader). Lands Total (Some s) t at text) (is_high n) (str mode.Chars w (Some n)) (str mode.Chars (w ++ character n) None) h) [
        | inl g ↦ high_back g.1
        | inr g ↦ low_back g.0 g.1
      ]
    where
      high_back : Lands Total (Some (str mode.Chars w (Some n))) t at text → GoesOnBy (λ ps. w ++ content_with (Some n) ps) at text
      high_back (d, same, (ps, x, plan, is, h)) = (ps, x, plan, is, at_depth d ps [] x plan at text same h)

      low_back : is_high n ≡ false → Lands Total (Some (str mode.Chars (w ++ character n) None)) t at text → GoesOnBy (λ ps. w ++ content_with (Some n) ps) at text
      low_back e (d, same, (ps, x, plan, is, h)) =
          (ps, x, plan, reread _ _ x plan (append_assoc w (character n) (content_of ps) ∙ ap (λ (c : List ℕ). w ++ c) (sym (content_low n ps (is_high n) refl e))) is, at_depth d ps [] x plan at text same h)

  unit_back : (m : Mode) (word : List ℕ) (high : Option ℕ) (n : ℕ) (at : ℕ) (text : List ℕ) → Lands Total (Some (with_unit (str m word high) n)) t at text
      → GoesOnBy (λ ps. word ++ content_number high n ps) at text
  unit_back m word None n at text h =
      let k : GoesOnBy (λ ps. (word ++ []) ++ content_with (Some n) ps) at text = lone_back m (word ++ []) n at text h in
      (k.0, k.1, k.2, reread _ _ k.1 k.2 (ap (λ (w : List ℕ). w ++ content_with (Some n) k.0) (append-nil word)) k.3, k.4)
  unit_back m word (Some high) n at text h =
      elim (tested (λ (s : Reader). Lands Total (Some s) t at text) (is_high high && is_low n) (str mode.Chars (word ++ paired high n) None) (lone_unit (str m (word ++ character high) None) n) h) [
        | inl g ↦ pair_back g.0 g.1
        | inr g ↦ none_back g.0 (lone_back m (word ++ character high) n at text g.1)
      ]
    where
      pair_back : (is_high high && is_low n) ≡ true → Lands Total (Some (str mode.Chars (word ++ paired high n) None)) t at text → GoesOnBy (λ ps. word ++ content_number (Some high) n ps) at text
      pair_back e (d, same, (ps, x, plan, is, h)) = (
        ps,
        x,
        plan,
        reread _ _ x plan (append_assoc word (paired high n) (content_of ps)
            ∙ ap (λ (c : List ℕ). word ++ c) (sym (cond-true (is_high high && is_low n) (paired high n ++ content_of ps) (character high ++ content_with (Some n) ps) e))) is,
        at_depth d ps [] x plan at text same h,
      )

      none_back : (is_high high && is_low n) ≡ false → GoesOnBy (λ ps. (word ++ character high) ++ content_with (Some n) ps) at text → GoesOnBy (λ ps. word ++ content_number (Some high) n ps) at text
      none_back e (ps, x, plan, is, h) = (
        ps,
        x,
        plan,
        reread _ _ x plan (append_assoc word (character high) (content_with (Some n) ps)
            ∙ ap (λ (c : List ℕ). word ++ c) (sym (cond-false (is_high high && is_low n) (paired high n ++ content_of ps) (character high ++ content_with (Some n) ps) e))) is,
        h,
      )

  module _ (word : List ℕ) (high : Option ℕ) (at : ℕ) (rest : List ℕ) where
    abbrev pub In : Mode → Reader
    In m = str m word high

    abbrev flushed : List ℕ
    flushed = word ++ alone high

    abbrev LandsIn : Option Reader → Type 0
    LandsIn o = Lands Total o t (at + 1) rest

    -- the closing quotation mark
    key_done : (frames' : List Frame) (content : List ℕ) (x : JsonTree) (plan : Plan frames')
        → Rooted true frames' start content x plan t → Followed true deep frames' x plan (at + 1) rest
        → Lands (deep + length frames') (keyed_in (reader mode.Chars start [] None true frames' root) content frames') t (at + 1) rest
    key_done [] content x plan is h = absurd is
    key_done (frame.List p xs ∷ frames') content x plan is h = absurd is
    key_done (frame.Object p ms key key_at ∷ frames') content x plan is h = (deep, refl, (x, plan, is, h))

    key_undone : (frames' : List Frame) (content : List ℕ)
        → Lands (deep + length frames') (keyed_in (reader mode.Chars start [] None true frames' root) content frames') t (at + 1) rest
        → (x : JsonTree) × (plan : Plan frames') × Rooted true frames' start content x plan t × Followed true deep frames' x plan (at + 1) rest
    key_undone [] content h = absurd h
    key_undone (frame.List p xs ∷ frames') content h = absurd h
    key_undone (frame.Object p ms key key_at ∷ frames') content (d, same, h) =
        let k : RestOfColon deep (frame.Object p ms content start ∷ frames') t (at + 1) rest
        = same_depth (λ (n : ℕ). RestOfColon n (frame.Object p ms content start ∷ frames') t (at + 1) rest) d deep (suc (length frames')) same h in
        (k.0, k.1, k.2, k.3)

  done : (key : Bool) (content : List ℕ) (x : JsonTree) (plan : Plan frames) (at : ℕ) (rest : List ℕ)
      → Rooted key frames start content x plan t → Followed key deep frames x plan (at + 1) rest
      → Lands Total (string_done (reader mode.Chars start [] None key frames root) content) t (at + 1) rest
  done true content x plan at rest is h = key_done [] None at rest frames content x plan is h
  done false content x plan at rest is h =
      place_on (reader mode.Chars start [] None false frames root) (tree_at start (node.Str content)) frames plan deep t (at + 1) rest is h

  undone : (key : Bool) (content : List ℕ) (at : ℕ) (rest : List ℕ)
      → Lands Total (string_done (reader mode.Chars start [] None key frames root) content) t (at + 1) rest
      → (x : JsonTree) × (plan : Plan frames) × Rooted key frames start content x plan t × Followed key deep frames x plan (at + 1) rest
  undone true content at rest h = key_undone [] None at rest frames content h
  undone false content at rest h =
      let k : (plan : Plan frames) × (root_of frames plan (tree_at start (node.Str content)) ≡ t) × Behind deep frames plan (at + 1) rest
      = place_back (reader mode.Chars start [] None false frames root) (tree_at start (node.Str content)) frames deep t (at + 1) rest h in
      (t, k.0, k.1, k.2)

  module _ (word : List ℕ) (high : Option ℕ) (at : ℕ) (rest : List ℕ) where
    abbrev CharsGoal : ℕ → Type 0
    CharsGoal b = Lands Total (chars_step (In word high at rest mode.Chars) b) t (at + 1) rest

    closed_on : (x : JsonTree) (plan : Plan frames) → is_utf8 (word ++ alone high) ≡ true → Is (word ++ content_with high []) x plan → Then x plan (at + 1) rest → CharsGoal 34
    closed_on x plan valid is h =
        let k : Lands Total (string_done (reader mode.Chars start [] None is_key frames root) (word ++ alone high)) t (at + 1) rest
        = done is_key (word ++ alone high) x plan at rest (reread _ _ x plan (ap (λ (c : List ℕ). word ++ c) (content_alone high)) is) h in
        subst (λ (v : Bool). Lands Total (cond v (string_done (reader mode.Chars start [] None is_key frames root) (word ++ alone high)) None) t (at + 1) rest) (sym valid) k

    -- the reader has this byte at the end of its word
    abbrev Taken : ℕ → Mode → Type 0
    Taken b m = Lands Total (Some (str m ((word ++ alone high) ++ (b ∷ [])) None)) t (at + 1) rest

    low_on : (b : ℕ) → 32 ≤ b → b < 128 → (b ≡ 34 → ⊥) → (b ≡ 92 → ⊥) → Taken b mode.Chars → CharsGoal b
    low_on b low ascii no_quote no_slash k =
        let one : nat_lt b 32 ≡ false = le-ltb b 32 low in
        let two : nat_lt b 128 ≡ true = lt-ltb b 128 ascii in
        let P : Option Reader → Type 0 = λ o. Lands Total o t (at + 1) rest in
        let r : Reader = In word high at rest mode.Chars in
        let step2 : P (cond (nat_lt b 128) (Some (with_bytes (ended r) (b ∷ []) mode.Chars)) (tail_on r b (tail_behind b)))
        = subst (λ (v : Bool). P (cond v (Some (with_bytes (ended r) (b ∷ []) mode.Chars)) (tail_on r b (tail_behind b)))) (sym two) k in
        let step1 : P (unescaped_step r b) = subst (λ (v : Bool). P (cond v None (cond (nat_lt b 128) (Some (with_bytes (ended r) (b ∷ []) mode.Chars)) (tail_on r b (tail_behind b))))) (sym one) step2 in
        let step0 : P (cond (b == 92) (Some (in_mode r mode.Escape)) (unescaped_step r b))
        = subst (λ (v : Bool). P (cond v (Some (in_mode r mode.Escape)) (unescaped_step r b))) (sym (not_eq b 92 no_slash)) step1 in
        subst (λ (v : Bool). P (cond v (closed_string r) (cond (b == 92) (Some (in_mode r mode.Escape)) (unescaped_step r b)))) (sym (not_eq b 34 no_quote)) step0

    high_on : (b : ℕ) (row : Tails) → tails_of b ≡ Some row → Taken b (mode.Tail row.low row.high row.left) → CharsGoal b
    high_on b row e k =
        let least : 194 ≤ b = tails_high b row e in
        let one : nat_lt b 32 ≡ false = le-ltb b 32 (omega arith) in
        let two : nat_lt b 128 ≡ false = le-ltb b 128 (omega arith) in
        let no_quote : (b == 34) ≡ false = not_eq b 34 (λ is. omega arith) in
        let no_slash : (b == 92) ≡ false = not_eq b 92 (λ is. omega arith) in
        let P : Option Reader → Type 0 = λ o. Lands Total o t (at + 1) rest in
        let r : Reader = In word high at rest mode.Chars in
        let step3 : P (tail_on r b (tail_behind b))
        = subst (λ (o : Option Tails). P (tail_on r b (option_map (λ (row : Tails). mode.Tail row.low row.high row.left) o))) (sym e) k in
        let step2 : P (cond (nat_lt b 128) (Some (with_bytes (ended r) (b ∷ []) mode.Chars)) (tail_on r b (tail_behind b)))
        = subst (λ (v : Bool). P (cond v (Some (with_bytes (ended r) (b ∷ []) mode.Chars)) (tail_on r b (tail_behind b)))) (sym two) step3 in
        let step1 : P (unescaped_step r b) = subst (λ (v : Bool). P (cond v None (cond (nat_lt b 128) (Some (with_bytes (ended r) (b ∷ []) mode.Chars)) (tail_on r b (tail_behind b))))) (sym one) step2 in
        let step0 : P (cond (b == 92) (Some (in_mode r mode.Escape)) (unescaped_step r b))
        = subst (λ (v : Bool). P (cond v (Some (in_mode r mode.Escape)) (unescaped_step r b))) (sym no_slash) step1 in
        subst (λ (v : Bool). P (cond v (closed_string r) (cond (b == 92) (Some (in_mode r mode.Escape)) (unescaped_step r b)))) (sym no_quote) step0

    -- the content with a character of one or more bytes in front
    front_content : (b : ℕ) (bytes : List ℕ) (ps : List Piece)
        → word ++ content_with high (plain (b ∷ bytes) ∷ ps) ≡ (((word ++ alone high) ++ (b ∷ [])) ++ bytes) ++ content_of ps
    front_content b bytes ps =
        ap (λ (c : List ℕ). word ++ c) (content_plain high (b ∷ bytes) ps)
        ∙ (sym (append_assoc word (alone high) ((b ∷ []) ++ (bytes ++ content_of ps)))
        ∙ regroup (word ++ alone high) (b ∷ []) bytes (content_of ps))

    plain_on : (c : ℕ) (bytes : List ℕ) (ps : List Piece) (x : JsonTree) (plan : Plan frames) → IsUnescaped (c ∷ bytes)
        → Is (word ++ content_with high (plain (c ∷ bytes) ∷ ps)) x plan → Word bytes (Chars ps (Then x plan)) (at + 1) rest → CharsGoal c
    plain_on c bytes ps x plan (inl (low, ascii, no_quote, no_slash, none)) is h =
        let is' : Is (((word ++ alone high) ++ (c ∷ [])) ++ content_of ps) x plan
        = reread _ _ x plan (front_content c [] ps ∙ ap (λ (w : List ℕ). w ++ content_of ps) (append-nil ((word ++ alone high) ++ (c ∷ []))))
        (subst (λ (bs : List ℕ). Is (word ++ content_with high (plain (c ∷ bs) ∷ ps)) x plan) none is) in
        let h' : Chars ps (Then x plan) (at + 1) rest = subst (λ (bs : List ℕ). Word bs (Chars ps (Then x plan)) (at + 1) rest) none h in
        low_on c low ascii no_quote no_slash (deep, refl, (ps, x, plan, is', h'))
    plain_on c bytes ps x plan (inr (row, e, tails)) is h =
        high_on c row e (deep, refl, (bytes, ps, x, plan, tails, reread _ _ x plan (front_content c bytes ps) is, h))

    pub chars_on : (b : ℕ) → is_utf8 (word ++ alone high) ≡ true → RestOfChars deep (In word high at rest mode.Chars) t at (b ∷ rest) → CharsGoal b
    chars_on b valid ([], x, plan, is, (quote, h)) = subst (λ (c : ℕ). CharsGoal c) (sym quote) (closed_on x plan valid is h)
    chars_on b valid (plain [] ∷ ps, x, plan, is, (none, h)) = absurd none
    chars_on b valid (plain (c ∷ bytes) ∷ ps, x, plan, is, (unescaped, (same, h))) =
        subst (λ (c : ℕ). CharsGoal c) (sym same) (plain_on c bytes ps x plan unescaped is h)
    chars_on b valid (escape letter char ∷ ps, x, plan, is, (escapes, (slash, h))) =
        subst (λ (c : ℕ). CharsGoal c) (sym slash) (deep, refl, (escape letter char, letter ∷ [], ps, x, plan, escapes, refl, is, h))
    chars_on b valid (unit a c d e ∷ ps, x, plan, is, (digits, (slash, h))) =
        subst (λ (c : ℕ). CharsGoal c) (sym slash) (deep, refl, (unit a c d e, 117 ∷ (a ∷ (c ∷ (d ∷ (e ∷ [])))), ps, x, plan, digits, refl, is, h))

    abbrev CharsBack : ℕ → Type 0
    CharsBack b = RestOfChars deep (In word high at rest mode.Chars) t at (b ∷ rest)

    closed_back : (b : ℕ) → b ≡ 34 → Lands Total (closed_string (In word high at rest mode.Chars)) t (at + 1) rest → CharsBack b
    closed_back b quote h =
        elim (tested (λ (o : Option Reader). Lands Total o t (at + 1) rest) (is_utf8 (word ++ alone high)) (string_done (reader mode.Chars start [] None is_key frames root) (word ++ alone high)) None h) [
          | inl g ↦ let k : (x : JsonTree) × (plan : Plan frames) × Rooted is_key frames start (word ++ alone high) x plan t × Followed is_key deep frames x plan (at + 1) rest
              = undone is_key (word ++ alone high) at rest g.1 in
              ([], k.0, k.1, reread _ _ k.0 k.1 (ap (λ (c : List ℕ). word ++ c) (sym (content_alone high))) k.2, (quote, k.3))
          | inr g ↦ absurd g.1
        ]

    escape_back : (b : ℕ) → b ≡ 92 → Lands Total (Some (In word high at rest mode.Escape)) t (at + 1) rest → CharsBack b
    escape_back b slash (d, same, (piece, tail, ps, x, plan, is_piece, spells, is, h)) =
        let k : Word (92 ∷ tail) (Chars ps (Then x plan)) at (b ∷ rest) = (slash, at_depth d ps tail x plan (at + 1) rest same h) in
        (piece ∷ ps, x, plan, is, (is_piece, subst (λ (w : List ℕ). Word w (Chars ps (Then x plan)) at (b ∷ rest)) (sym spells) k))

    low_back : (b : ℕ) → 32 ≤ b → b < 128 → (b ≡ 34 → ⊥) → (b ≡ 92 → ⊥) → Taken b mode.Chars → CharsBack b
    low_back b low ascii no_quote no_slash (d, same, (ps, x, plan, is, h)) = (
      plain (b ∷ []) ∷ ps,
      x,
      plan,
      reread _ _ x plan (sym (front_content b [] ps ∙ ap (λ (w : List ℕ). w ++ content_of ps) (append-nil ((word ++ alone high) ++ (b ∷ []))))) is,
      (inl (low, ascii, no_quote, no_slash, refl), (refl, at_depth d ps [] x plan (at + 1) rest same h)),
    )

    tail_back : (b : ℕ) (o : Option Tails) → tails_of b ≡ o
        → Lands Total (tail_on (In word high at rest mode.Chars) b (option_map (λ (row : Tails). mode.Tail row.low row.high row.left) o)) t (at + 1) rest → CharsBack b
    tail_back b None e h = absurd h
    tail_back b (Some row) e (d, same, (bytes, ps, x, plan, tails, is, h)) =
        (plain (b ∷ bytes) ∷ ps, x, plan, reread _ _ x plan (sym (front_content b bytes ps)) is, (inr (row, e, tails), (refl, at_depth d ps bytes x plan (at + 1) rest same h)))

    is_not : (a c : ℕ) → (a == c) ≡ false → a ≡ c → ⊥
    is_not a c e same = grind (arith, nat_tests)

    pub chars_back : (b : ℕ) → CharsGoal b → CharsBack b
    chars_back b h =
        let P : Option Reader → Type 0 = λ o. Lands Total o t (at + 1) rest in
        let r : Reader = In word high at rest mode.Chars in
        elim (tested P (b == 34) (closed_string r) _ h) [
          | inl g ↦ closed_back b (eqb-true b 34 g.0) g.1
          | inr g ↦ elim (tested P (b == 92) (Some (in_mode r mode.Escape)) (unescaped_step r b) g.1) [
            | inl k ↦ escape_back b (eqb-true b 92 k.0) k.1
            | inr k ↦ elim (tested P (nat_lt b 32) None _ k.1) [
              | inl i ↦ absurd i.1
              | inr i ↦ elim (tested P (nat_lt b 128) (Some (with_bytes (ended r) (b ∷ []) mode.Chars)) (tail_on r b (tail_behind b)) i.1) [
                | inl j ↦ low_back b (ltb-false b 32 i.0) (ltb-true b 128 j.0) (is_not b 34 g.0) (is_not b 92 k.0) j.1
                | inr j ↦ tail_back b (tails_of b) refl j.1
              ]
            ]
          ]
        ]

  module _ (word : List ℕ) (high : Option ℕ) (at : ℕ) (rest : List ℕ) where
    abbrev LandsOn : Option Reader → Type 0
    LandsOn o = Lands Total o t (at + 1) rest

    -- behind a backslash
    abbrev EscapeGoal : ℕ → Type 0
    EscapeGoal b = LandsOn (escape_step (In word high at rest mode.Escape) b)

    escape_content : (letter char : ℕ) (ps : List Piece)
        → word ++ content_with high (escape letter char ∷ ps) ≡ ((word ++ alone high) ++ (char ∷ [])) ++ content_of ps
    escape_content letter char ps =
        ap (λ (c : List ℕ). word ++ c) (content_escape high letter char ps)
        ∙ (sym (append_assoc word (alone high) ((char ∷ []) ++ content_of ps)) ∙ sym (append_assoc (word ++ alone high) (char ∷ []) (content_of ps)))

    letter_on : (letter char : ℕ) → escaped letter ≡ Some char → LandsOn (Some (str mode.Chars ((word ++ alone high) ++ (char ∷ [])) None)) → EscapeGoal letter
    letter_on letter char e k =
        let r : Reader = In word high at rest mode.Escape in
        let chosen : LandsOn (escape_on r (escaped letter)) = subst (λ (o : Option ℕ). LandsOn (escape_on r o)) (sym e) k in
        by_test LandsOn (letter == 117) (Some (in_mode r (mode.Hex digits.Zero))) (escape_on r (escaped letter))
        (λ is. let never : escaped 117 ≡ Some char = subst (λ (c : ℕ). escaped c ≡ Some char) (eqb-true letter 117 is) e in cc)
        (λ is. chosen)

    unescaped_no : (bytes tail : List ℕ) → IsUnescaped bytes → bytes ≡ 92 ∷ tail → ⊥
    unescaped_no bytes tail is e = never (subst (λ (w : List ℕ). IsUnescaped w) e is)
      where
        never : IsUnescaped (92 ∷ tail) → ⊥
        never (inl (low, ascii, no_quote, no_slash, none)) = no_slash refl
        never (inr (row, same, tails)) = cc

    pub escape_on_law : (b : ℕ) → RestOfEscape deep (In word high at rest mode.Escape) t at (b ∷ rest) → EscapeGoal b
    escape_on_law b (plain bytes, tail, ps, x, plan, is_piece, spells, is, h) = absurd (unescaped_no bytes tail is_piece spells)
    escape_on_law b (escape letter char, tail, ps, x, plan, is_piece, spells, is, h) =
        let same : tail ≡ letter ∷ [] = cc in
        let h' : Word (letter ∷ []) (Chars ps (Then x plan)) at (b ∷ rest) = subst (λ (w : List ℕ). Word w (Chars ps (Then x plan)) at (b ∷ rest)) same h in
        subst (λ (c : ℕ). EscapeGoal c) (sym h'.0) (letter_on letter char is_piece (deep, refl, (ps, x, plan, reread _ _ x plan (escape_content letter char ps) is, h'.1)))
    escape_on_law b (unit a c d e, tail, ps, x, plan, is_piece, spells, is, h) =
        let same : tail ≡ 117 ∷ (a ∷ (c ∷ (d ∷ (e ∷ [])))) = cc in
        let h' : Word (117 ∷ (a ∷ (c ∷ (d ∷ (e ∷ []))))) (Chars ps (Then x plan)) at (b ∷ rest) = subst (λ (w : List ℕ). Word w (Chars ps (Then x plan)) at (b ∷ rest)) same h in
        subst (λ (y : ℕ). EscapeGoal y) (sym h'.0) (
          deep,
          refl,
          (
            unit_of a c d e,
            a ∷ (c ∷ (d ∷ (e ∷ []))),
            ps,
            x,
            plan,
            (is_piece.0, (is_piece.1, (is_piece.2, (is_piece.3, refl)))),
            reread _ _ x plan (ap (λ (w : List ℕ). word ++ w) (content_unit high a c d e ps)) is,
            h'.1,
          ),
        )

    abbrev EscapeBack : ℕ → Type 0
    EscapeBack b = RestOfEscape deep (In word high at rest mode.Escape) t at (b ∷ rest)

    digits_back : (b : ℕ) → b ≡ 117 → LandsOn (Some (In word high at rest (mode.Hex digits.Zero))) → EscapeBack b
    digits_back b is (d, same, (number, [], ps, x, plan, never, rooted, h)) = absurd never
    digits_back b is (d, same, (number, a ∷ [], ps, x, plan, (one, never), rooted, h)) = absurd never
    digits_back b is (d, same, (number, a ∷ (c ∷ []), ps, x, plan, (one, (two, never)), rooted, h)) = absurd never
    digits_back b is (d, same, (number, a ∷ (c ∷ (e ∷ [])), ps, x, plan, (one, (two, (three, never))), rooted, h)) = absurd never
    digits_back b is (d, same, (number, a ∷ (c ∷ (e ∷ (f ∷ []))), ps, x, plan, (one, (two, (three, (four, whole)))), rooted, h)) = (
      unit a c e f,
      117 ∷ (a ∷ (c ∷ (e ∷ (f ∷ [])))),
      ps,
      x,
      plan,
      (one, two, three, four),
      refl,
      reread _ _ x plan (ap (λ (n : ℕ). word ++ content_number high n ps) whole ∙ ap (λ (w : List ℕ). word ++ w) (sym (content_unit high a c e f ps))) rooted,
      (is, at_depth d ps (a ∷ (c ∷ (e ∷ (f ∷ [])))) x plan (at + 1) rest same h),
    )
    digits_back b is (d, same, (number, a ∷ (c ∷ (e ∷ (f ∷ (g ∷ tail)))), ps, x, plan, (one, (two, (three, (four, never)))), rooted, h)) = absurd never

    letter_back : (b : ℕ) (o : Option ℕ) → escaped b ≡ o → LandsOn (escape_on (In word high at rest mode.Escape) o) → EscapeBack b
    letter_back b None e h = absurd h
    letter_back b (Some char) e (d, same, (ps, x, plan, is, h)) =
        (escape b char, b ∷ [], ps, x, plan, e, refl, reread _ _ x plan (sym (escape_content b char ps)) is, (refl, at_depth d ps [] x plan (at + 1) rest same h))

    pub escape_back_law : (b : ℕ) → EscapeGoal b → EscapeBack b
    escape_back_law b h =
        let r : Reader = In word high at rest mode.Escape in
        elim (tested LandsOn (b == 117) (Some (in_mode r (mode.Hex digits.Zero))) (escape_on r (escaped b)) h) [
          | inl g ↦ digits_back b (eqb-true b 117 g.0) g.1
          | inr g ↦ letter_back b (escaped b) refl g.1
        ]

    -- among the digits of an escape
    abbrev hexing : Digits → Reader
    hexing ds = In word high at rest (mode.Hex ds)

    digit_on : (ds : Digits) (o : Result Digits ℕ) (number : ℕ) (tail : List ℕ) (ps : List Piece) (x : JsonTree) (plan : Plan frames)
        → Completes o tail number → Is (word ++ content_number high number ps) x plan → Word tail (Chars ps (Then x plan)) (at + 1) rest
        → LandsOn (Some (digits_on (hexing ds) o))
    digit_on ds (Ok more) number tail ps x plan completes is h = (deep, refl, (number, tail, ps, x, plan, completes, is, h))
    digit_on ds (Err whole) number [] ps x plan completes is h =
        unit_on (mode.Hex ds) word high whole ps x plan (at + 1) rest (reread _ _ x plan (ap (λ (n : ℕ). word ++ content_number high n ps) completes) is) h
    digit_on ds (Err whole) number (c ∷ tail) ps x plan completes is h = absurd completes

    pub hex_on : (ds : Digits) (b : ℕ) → RestOfHex deep (hexing ds) ds t at (b ∷ rest) → LandsOn (hex_step (hexing ds) ds b)
    hex_on ds b (number, [], ps, x, plan, never, is, h) = absurd never
    hex_on ds b (number, c ∷ tail, ps, x, plan, (is_digit, completes), is, (same, h)) =
        let k : LandsOn (Some (digits_on (hexing ds) (with_digit ds (digit_value c)))) = digit_on ds (with_digit ds (digit_value c)) number tail ps x plan completes is h in
        subst (λ (y : ℕ). LandsOn (hex_step (hexing ds) ds y)) (sym same)
        (subst (λ (v : Bool). LandsOn (cond v (Some (digits_on (hexing ds) (with_digit ds (digit_value c)))) None)) (sym (lt-ltb (digit_value c) 16 is_digit)) k)

    digit_back : (ds : Digits) (b : ℕ) (o : Result Digits ℕ) → with_digit ds (digit_value b) ≡ o → digit_value b < 16
        → LandsOn (Some (digits_on (hexing ds) o)) → RestOfHex deep (hexing ds) ds t at (b ∷ rest)
    digit_back ds b (Ok more) e is_digit (d, same, (number, tail, ps, x, plan, completes, is, h)) = (
      number,
      b ∷ tail,
      ps,
      x,
      plan,
      (is_digit, subst (λ (o : Result Digits ℕ). Completes o tail number) (sym e) completes),
      is,
      (refl, at_depth d ps tail x plan (at + 1) rest same h),
    )
    digit_back ds b (Err whole) e is_digit h =
        let k : GoesOnBy (λ ps. word ++ content_number high whole ps) (at + 1) rest = unit_back (mode.Hex ds) word high whole (at + 1) rest h in
        (whole, b ∷ [], k.0, k.1, k.2, (is_digit, subst (λ (o : Result Digits ℕ). Completes o [] whole) (sym e) refl), k.3, (refl, k.4))

    pub hex_back : (ds : Digits) (b : ℕ) → LandsOn (hex_step (hexing ds) ds b) → RestOfHex deep (hexing ds) ds t at (b ∷ rest)
    hex_back ds b h =
        elim (tested LandsOn (nat_lt (digit_value b) 16) (Some (digits_on (hexing ds) (with_digit ds (digit_value b)))) None h) [
          | inl g ↦ digit_back ds b (with_digit ds (digit_value b)) refl (ltb-true (digit_value b) 16 g.0) g.1
          | inr g ↦ absurd g.1
        ]

    -- within a character of several bytes
    abbrev tailing : ℕ → ℕ → ℕ → Reader
    tailing low most left = In word high at rest (mode.Tail low most left)

    mode_last : (n : ℕ) → tail_mode (suc (suc n)) ≡ mode.Tail 0x80 0xBF (suc n)
    mode_last n =
        cond-false (nat_lt (suc (suc n)) 2) mode.Chars (mode.Tail 0x80 0xBF (suc (suc n) - 1)) (le-ltb (suc (suc n)) 2 (omega arith))
        ∙ ap (λ (k : ℕ). mode.Tail 0x80 0xBF k) (omega arith)

    tail_content : (c : ℕ) (tail : List ℕ) (ps : List Piece)
        → (word ++ (c ∷ tail)) ++ content_with high ps ≡ ((word ++ (c ∷ [])) ++ tail) ++ content_with high ps
    tail_content c tail ps = ap (λ (w : List ℕ). w ++ content_with high ps) (sym (append_assoc word (c ∷ []) tail))

    last_content : (c : ℕ) (ps : List Piece) → (word ++ (c ∷ [])) ++ content_with high ps ≡ ((word ++ (c ∷ [])) ++ []) ++ content_with high ps
    last_content c ps = ap (λ (w : List ℕ). w ++ content_with high ps) (sym (append-nil (word ++ (c ∷ []))))

    next_tail : (left c : ℕ) (tail : List ℕ) (ps : List Piece) (x : JsonTree) (plan : Plan frames) → AreTails 0x80 0xBF left tail
        → Is ((word ++ (c ∷ tail)) ++ content_with high ps) x plan → Word tail (Chars ps (Then x plan)) (at + 1) rest
        → LandsOn (Some (str (tail_mode (suc left)) (word ++ (c ∷ [])) high))
    next_tail zero c tail ps x plan none is h = (
      deep,
      refl,
      (
        ps,
        x,
        plan,
        reread _ _ x plan (tail_content c tail ps ∙ (ap (λ (w : List ℕ). ((word ++ (c ∷ [])) ++ w) ++ content_with high ps) none ∙ sym (last_content c ps))) is,
        subst (λ (w : List ℕ). Word w (Chars ps (Then x plan)) (at + 1) rest) none h,
      ),
    )
    next_tail (suc left) c tail ps x plan tails is h =
        subst (λ (m : Mode). LandsOn (Some (str m (word ++ (c ∷ [])) high))) (sym (mode_last left))
        (deep, refl, (tail, ps, x, plan, tails, reread _ _ x plan (tail_content c tail ps) is, h))

    pub tail_on_law : (low most left b : ℕ) → RestOfTail deep (tailing low most (suc left)) low most (suc left) t at (b ∷ rest)
        → LandsOn (tail_step (tailing low most (suc left)) low most (suc left) b)
    tail_on_law low most left b ([], ps, x, plan, never, is, h) = absurd never
    tail_on_law low most left b (c ∷ tail, ps, x, plan, (above, below, tails), is, (same, h)) =
        let test : (nat_le low c && nat_le c most) ≡ true = grind (arith, nat_tests) in
        subst (λ (y : ℕ). LandsOn (tail_step (tailing low most (suc left)) low most (suc left) y)) (sym same)
        (subst (λ (v : Bool). LandsOn (cond v (Some (str (tail_mode (suc left)) (word ++ (c ∷ [])) high)) None)) (sym test)
        (next_tail left c tail ps x plan tails is h))

    tail_undone : (low most left b : ℕ) → low ≤ b → b ≤ most → LandsOn (Some (str (tail_mode (suc left)) (word ++ (b ∷ [])) high))
        → RestOfTail deep (tailing low most (suc left)) low most (suc left) t at (b ∷ rest)
    tail_undone low most zero b above below (d, same, (ps, x, plan, is, h)) =
        (b ∷ [], ps, x, plan, (above, below, refl), is, (refl, at_depth d ps [] x plan (at + 1) rest same h))
    tail_undone low most (suc left) b above below h = back (subst (λ (m : Mode). LandsOn (Some (str m (word ++ (b ∷ [])) high))) (mode_last left) h)
      where
        back : LandsOn (Some (str (mode.Tail 0x80 0xBF (suc left)) (word ++ (b ∷ [])) high)) → RestOfTail deep (tailing low most (suc (suc left))) low most (suc (suc left)) t at (b ∷ rest)
        back (d, same, (tail, ps, x, plan, tails, is, h)) =
            (b ∷ tail, ps, x, plan, (above, below, tails), reread _ _ x plan (sym (tail_content b tail ps)) is, (refl, at_depth d ps tail x plan (at + 1) rest same h))

    in_range : (low most b : ℕ) → (nat_le low b && nat_le b most) ≡ true → (low ≤ b) × (b ≤ most)
    in_range low most b e = grind (arith, nat_tests)

    pub tail_back_law : (low most left b : ℕ) → LandsOn (tail_step (tailing low most (suc left)) low most (suc left) b)
        → RestOfTail deep (tailing low most (suc left)) low most (suc left) t at (b ∷ rest)
    tail_back_law low most left b h =
        elim (tested LandsOn (nat_le low b && nat_le b most) (Some (str (tail_mode (suc left)) (word ++ (b ∷ [])) high)) None h) [
          | inl g ↦ tail_undone low most left b (in_range low most b g.0).0 (in_range low most b g.0).1 g.1
          | inr g ↦ absurd g.1
        ]
