-- Each reader on the way can go on to a JSON text: strings, names and numbers are completed, and the brackets closed.
use Rattle.std.proofs.Common.{◌≡◌, ℕ, zero, suc, ◌+◌, ◌≤◌, Bool, true, false, inl, List, [], ◌∷◌, ◌++◌, Option, Some, Ok, refl, arith, lit<, lit≤}
use Rattle.json_order.specs.declared.tree.JsonNode.TheVariants as node
use Rattle.json_order.specs.declared.tree.JsonTree.{JsonTree}
use Rattle.json_order.specs.declared.tree.JsonPair.{JsonPair}
use Rattle.json_order.specs.declared.frame.Frame.{Frame}
use Rattle.json_order.specs.declared.frame.Frame.TheVariants as frame
use Rattle.json_order.specs.declared.mode.Mode.{Mode}
use Rattle.json_order.specs.declared.mode.Mode.TheVariants as mode
use Rattle.json_order.specs.declared.mode.Part.{Part}
use Rattle.json_order.specs.declared.mode.Part.TheVariants as part
use Rattle.json_order.specs.declared.mode.Digits.{Digits}
use Rattle.json_order.specs.declared.mode.Digits.TheVariants as digits
use Rattle.json_order.specs.declared.reader.Reader.{Reader}
use Rattle.json_order.specs.Grammar.{Word, Space, Value, number, escape, Chars, AreTails}
use Rattle.json_order.specs.inner.Steps.{tree_at}
use Rattle.json_order.proofs.Rest.{Plan, root_of, Behind, Rest, left_of, ends, Rooted, Followed, content_with, content_number, Completes, colon}
use Rattle.json_order.proofs.Places.{reader}
use Rattle.json_order.proofs.NumberLaws.{number_from_begins}
use Rattle.json_order.proofs.Valid.{Valid, ValidIn, TopIsList, TopIsObject, HasRoot, KeyFits}

-- nothing more in any bracket, and the brackets that close them
nothing : (frames : List Frame) → Plan frames
nothing [] = tt
nothing (frame.List p xs ∷ frames) = ([], nothing frames)
nothing (frame.Object p ms key key_at ∷ frames) = ([], nothing frames)

closers : List Frame → List ℕ
closers [] = []
closers (frame.List p xs ∷ frames) = 93 ∷ closers frames
closers (frame.Object p ms key key_at ∷ frames) = 125 ∷ closers frames

closed : (deep : ℕ) (frames : List Frame) (at : ℕ) → Behind deep frames (nothing frames) at (closers frames)
unfolding nothing closers
closed deep [] at = tt
closed deep (frame.List p xs ∷ frames) at = inl (refl, closed (suc deep) frames (at + 1))
closed deep (frame.Object p ms key key_at ∷ frames) at = inl (refl, closed (suc deep) frames (at + 1))

word_then : (w : List ℕ) (behind : ℕ → List ℕ → Type 0) (text : List ℕ) → ((at : ℕ) → behind at text) → (at : ℕ) → Word w behind at (w ++ text)
word_then [] behind text h at = h at
word_then (c ∷ cs) behind text h at = (refl, word_then cs behind text h (at + 1))

-- the number 0 at a place
zero_tree : ℕ → JsonTree
zero_tree at = tree_at at (node.Number (48 ∷ []))

zero_value : (deep : ℕ) (behind : ℕ → List ℕ → Type 0) (text : List ℕ) → ((at : ℕ) → behind at text) → (at : ℕ) → Value deep (zero_tree at) behind at (48 ∷ text)
unfolding zero_tree
zero_value deep behind text h at = (number (48 ∷ []), refl, (number_from_begins (48 ∷ []) refl, (refl, h (at + 1))))

-- the reader can go on
abbrev pub GoesOnFrom : ℕ → Reader → ℕ → Type 0
GoesOnFrom deep r at = (text : List ℕ) × (t : JsonTree) × Rest deep r t at text

abbrev ColonText : List Frame → List ℕ
ColonText frames = 58 ∷ (48 ∷ closers frames)

colon_then : (deep : ℕ) (frames : List Frame) (at : ℕ) → Space (Word colon (Space (Value deep (zero_tree (at + 1)) (Behind deep frames (nothing frames))))) at (ColonText frames)
colon_then deep frames at = inl (refl, inl (zero_value deep (Behind deep frames (nothing frames)) (closers frames) (closed deep frames) (at + 1)))

module _ (deep : ℕ) (start : ℕ) (word : List ℕ) (high : Option ℕ) (is_key : Bool) (root : Option JsonTree) (at : ℕ) where
  abbrev R : Mode → List Frame → Reader
  R m frames = reader m start word high is_key frames root

  first_item_goes : (frames : List Frame) → TopIsList frames → GoesOnFrom deep (R mode.FirstItem frames) at
  first_item_goes [] top = absurd top
  first_item_goes (frame.List p xs ∷ frames) top = (93 ∷ closers frames, _, ([], nothing frames, refl, inl (refl, closed (suc deep) frames (at + 1))))
  first_item_goes (frame.Object p ms key key_at ∷ frames) top = absurd top

  first_key_goes : (frames : List Frame) → TopIsObject frames → GoesOnFrom deep (R mode.FirstKey frames) at
  first_key_goes [] top = absurd top
  first_key_goes (frame.List p xs ∷ frames) top = absurd top
  first_key_goes (frame.Object p ms key key_at ∷ frames) top = (125 ∷ closers frames, _, ([], nothing frames, refl, inl (refl, closed (suc deep) frames (at + 1))))

  key_goes : (frames : List Frame) → TopIsObject frames → GoesOnFrom deep (R mode.Key frames) at
  unfolding closers nothing zero_tree
  key_goes [] top = absurd top
  key_goes (frame.List p xs ∷ frames) top = absurd top
  key_goes (frame.Object p ms key key_at ∷ frames) top =
      let inside : List Frame = frame.Object p ms key key_at ∷ frames in
      let pair : JsonPair = record { key = []; key_at = at; value = zero_tree (at + 1 + 1 + 1) } in
      (34 ∷ (34 ∷ ColonText inside), _, (pair, [], nothing frames, refl, inl ([], refl, refl, (refl, (refl, closing inside)))))
    where
      closing : (inside : List Frame) → Space (Word colon (Space (Value deep (zero_tree (at + 1 + 1 + 1)) (Behind deep inside (nothing inside))))) (at + 1 + 1) (ColonText inside)
      closing inside = colon_then deep inside (at + 1 + 1)

  colon_goes : (frames : List Frame) → TopIsObject frames → GoesOnFrom deep (R mode.Colon frames) at
  colon_goes [] top = absurd top
  colon_goes (frame.List p xs ∷ frames) top = absurd top
  colon_goes (frame.Object p ms key key_at ∷ frames) top =
      let inside : List Frame = frame.Object p ms key key_at ∷ frames in
      (ColonText inside, _, (zero_tree (at + 1), nothing inside, refl, colon_then deep inside at))

  after_goes : (frames : List Frame) → HasRoot frames root → GoesOnFrom deep (R mode.After frames) at
  after_goes [] (x, e) = ([], x, (e, tt))
  after_goes (frame.List p xs ∷ frames) top = (93 ∷ closers frames, _, ([], nothing frames, refl, inl (refl, closed (suc deep) frames (at + 1))))
  after_goes (frame.Object p ms key key_at ∷ frames) top = (125 ∷ closers frames, _, ([], nothing frames, refl, inl (refl, closed (suc deep) frames (at + 1))))

  part_goes : (p : Part) → (tail : List ℕ) × (ends (Some p) tail ≡ true)
  part_goes part.Minus = (48 ∷ [], refl)
  part_goes part.Zero = ([], refl)
  part_goes part.Integer = ([], refl)
  part_goes part.Point = (48 ∷ [], refl)
  part_goes part.Fraction = ([], refl)
  part_goes part.Letter = (48 ∷ [], refl)
  part_goes part.Sign = (48 ∷ [], refl)
  part_goes part.Exponent = ([], refl)

  -- what stands behind a string, and the value of the text then
  abbrev Follow : Bool → List Frame → List ℕ → Type 0
  Follow key frames content = (text : List ℕ) × (x : ℕ → JsonTree) × (plan : Plan frames)
      × ((at : ℕ) → (t : JsonTree) × Rooted key frames start content (x at) plan t) × ((at : ℕ) → Followed key deep frames (x at) plan at text)

  follow : (key : Bool) (frames : List Frame) (content : List ℕ) → KeyFits key frames → Follow key frames content
  follow true [] content fits = absurd fits
  follow true (frame.List p xs ∷ frames) content fits = absurd fits
  follow true (frame.Object p ms k k_at ∷ frames) content fits = (
    ColonText (frame.Object p ms k k_at ∷ frames),
    (λ at. zero_tree (at + 1)),
    nothing (frame.Object p ms k k_at ∷ frames),
    (λ at. (root_of (frame.Object p ms content start ∷ frames) (nothing (frame.Object p ms k k_at ∷ frames)) (zero_tree (at + 1)), refl)),
    colon_then deep (frame.Object p ms k k_at ∷ frames),
  )
  follow false frames content fits =
      (closers frames, (λ at. zero_tree at), nothing frames, (λ at. (root_of frames (nothing frames) (tree_at start (node.Str content)), refl)), closed deep frames)

  chars_goes : (frames : List Frame) → KeyFits is_key frames → GoesOnFrom deep (R mode.Chars frames) at
  chars_goes frames fits =
      let k : Follow is_key frames (word ++ content_with high []) = follow is_key frames (word ++ content_with high []) fits in
      (34 ∷ k.0, (k.3 (at + 1)).0, ([], k.1 (at + 1), k.2, (k.3 (at + 1)).1, (refl, k.4 (at + 1))))

  escape_goes : (frames : List Frame) → KeyFits is_key frames → GoesOnFrom deep (R mode.Escape frames) at
  escape_goes frames fits =
      let content : List ℕ = word ++ content_with high (escape 110 10 ∷ []) in
      let k : Follow is_key frames content = follow is_key frames content fits in
      (110 ∷ (34 ∷ k.0), (k.3 (at + 1 + 1)).0, (escape 110 10, 110 ∷ [], [], k.1 (at + 1 + 1), k.2, refl, refl, (k.3 (at + 1 + 1)).1, (refl, (refl, k.4 (at + 1 + 1)))))

  digits_go : (ds : Digits) → (n : ℕ) × (tail : List ℕ) × Completes (Ok ds) tail n
  digits_go digits.Zero = (_, 48 ∷ (48 ∷ (48 ∷ (48 ∷ []))), (lit< tt, (lit< tt, (lit< tt, (lit< tt, refl)))))
  digits_go (digits.One a) = (_, 48 ∷ (48 ∷ (48 ∷ [])), (lit< tt, (lit< tt, (lit< tt, refl))))
  digits_go (digits.Two a b) = (_, 48 ∷ (48 ∷ []), (lit< tt, (lit< tt, refl)))
  digits_go (digits.Three a b c) = (_, 48 ∷ [], (lit< tt, refl))

  -- a place behind some bytes
  past : List ℕ → ℕ → ℕ
  past [] n = n
  past (c ∷ cs) n = past cs (n + 1)

  word_at : (w : List ℕ) (behind : ℕ → List ℕ → Type 0) (text : List ℕ) (n : ℕ) → behind (past w n) text → Word w behind n (w ++ text)
  unfolding past
  word_at [] behind text n h = h
  word_at (c ∷ cs) behind text n h = (refl, word_at cs behind text (n + 1) h)

  hex_goes : (ds : Digits) (frames : List Frame) → KeyFits is_key frames → GoesOnFrom deep (R (mode.Hex ds) frames) at
  hex_goes ds frames fits =
      let d : (n : ℕ) × (tail : List ℕ) × Completes (Ok ds) tail n = digits_go ds in
      let content : List ℕ = word ++ content_number high d.0 [] in
      let k : Follow is_key frames content = follow is_key frames content fits in
      let place : ℕ = past d.1 at in (
        d.1 ++ (34 ∷ k.0),
        (k.3 (place + 1)).0,
        (
          d.0,
          d.1,
          [],
          k.1 (place + 1),
          k.2,
          d.2,
          (k.3 (place + 1)).1,
          word_at d.1 (Chars [] (Followed is_key deep frames (k.1 (place + 1)) k.2)) (34 ∷ k.0) at (refl, k.4 (place + 1)),
        ),
      )

  tails_go : (left : ℕ) → (tail : List ℕ) × AreTails 0x80 0xBF left tail
  tails_go zero = ([], refl)
  tails_go (suc left) = let k : (tail : List ℕ) × AreTails 0x80 0xBF left tail = tails_go left in (0x80 ∷ k.0, (lit≤ tt, lit≤ tt, k.1))

  tail_goes : (low most left : ℕ) → 1 ≤ left → low ≤ most → (tail : List ℕ) × AreTails low most left tail
  tail_goes low most zero some room = absurd (omega arith)
  tail_goes low most (suc left) some room =
      let k : (tail : List ℕ) × AreTails 0x80 0xBF left tail = tails_go left in
      let self : low ≤ low = omega arith in
      (low ∷ k.0, (self, room, k.1))

  within_goes : (low most left : ℕ) (frames : List Frame) → 1 ≤ left → low ≤ most → KeyFits is_key frames → GoesOnFrom deep (R (mode.Tail low most left) frames) at
  within_goes low most left frames some room fits =
      let d : (tail : List ℕ) × AreTails low most left tail = tail_goes low most left some room in
      let content : List ℕ = (word ++ d.0) ++ content_with high [] in
      let k : Follow is_key frames content = follow is_key frames content fits in
      let place : ℕ = past d.0 at in (
        d.0 ++ (34 ∷ k.0),
        (k.3 (place + 1)).0,
        (
          d.0,
          [],
          k.1 (place + 1),
          k.2,
          d.1,
          (k.3 (place + 1)).1,
          word_at d.0 (Chars [] (Followed is_key deep frames (k.1 (place + 1)) k.2)) (34 ∷ k.0) at (refl, k.4 (place + 1)),
        ),
      )

  goes_in : (m : Mode) (frames : List Frame) → ValidIn m (R m frames) → GoesOnFrom deep (R m frames) at
  goes_in mode.Value frames valid =
      (48 ∷ closers frames, _, (zero_tree at, nothing frames, refl, inl (zero_value deep (Behind deep frames (nothing frames)) (closers frames) (closed deep frames) at)))
  goes_in mode.FirstItem frames valid = first_item_goes frames valid
  goes_in mode.FirstKey frames valid = first_key_goes frames valid
  goes_in mode.Key frames valid = key_goes frames valid
  goes_in mode.Colon frames valid = colon_goes frames valid
  goes_in mode.After frames valid = after_goes frames valid
  goes_in (mode.Name l) frames valid =
      (left_of l ++ closers frames, _, (nothing frames, refl, word_then (left_of l) (Behind deep frames (nothing frames)) (closers frames) (closed deep frames) at))
  goes_in (mode.Number p) frames valid =
      let d : (tail : List ℕ) × (ends (Some p) tail ≡ true) = part_goes p in
      (d.0 ++ closers frames, _, (d.0, nothing frames, d.1, refl, word_then d.0 (Behind deep frames (nothing frames)) (closers frames) (closed deep frames) at))
  goes_in mode.Chars frames valid = chars_goes frames valid.1
  goes_in mode.Escape frames valid = escape_goes frames valid.1
  goes_in (mode.Hex ds) frames valid = hex_goes ds frames valid.1
  goes_in (mode.Tail low most left) frames valid = within_goes low most left frames valid.some valid.room valid.key

pub goes_on : (r : Reader) (deep at : ℕ) → Valid r → GoesOnFrom deep r at
goes_on r deep at valid = goes_in deep r.start r.word r.high r.is_key r.root at r.mode r.stack valid
