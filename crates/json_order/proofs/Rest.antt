-- What may still come, by what the reader waits for: each part of the grammar of which the front was read.
use Rattle.std.proofs.Common.{◌≡◌, ℕ, suc, ◌+◌, Bool, true, false, ◌&&◌, if◌then◌else◌, List, [], ◌∷◌, ◌++◌, length, Option, Some, None, Result, Ok, Err}
use Rattle.std.specs.Char.{digit_value}
use Rattle.json_order.specs.declared.tree.JsonNode.TheVariants as node
use Rattle.json_order.specs.declared.tree.JsonTree.{JsonTree}
use Rattle.json_order.specs.declared.tree.JsonPair.{JsonPair}
use Rattle.json_order.specs.declared.frame.Frame.{Frame}
use Rattle.json_order.specs.declared.frame.Frame.TheVariants as frame
use Rattle.json_order.specs.declared.mode.Mode.{Mode}
use Rattle.json_order.specs.declared.mode.Mode.TheVariants as mode
use Rattle.json_order.specs.declared.mode.Part.{Part}
use Rattle.json_order.specs.declared.mode.Letters.{Letters}
use Rattle.json_order.specs.declared.mode.Letters.TheVariants as letters
use Rattle.json_order.specs.declared.mode.Digits.{Digits}
use Rattle.json_order.specs.declared.reader.Reader.{Reader}
use Rattle.json_order.specs.Grammar.{IsEnd, Word, Space, Value, Items, MoreItems, Members, MoreMembers, Member, Piece, plain, escape, unit, spelled, IsPiece, IsHexDigit, unit_of, is_high, is_low, character, paired, content_of, Chars, AreTails}
use Rattle.json_order.specs.Members.{put, merged}
use Rattle.json_order.specs.inner.Modes.{next_part, is_final, named, with_digit}
use Rattle.json_order.specs.inner.Steps.{tree_at}

-- what is still to come of each open bracket
abbrev pub Plan : List Frame → Type 0
Plan [] = Unit {0}
Plan (frame.List p xs ∷ frames) = List JsonTree × Plan frames
Plan (frame.Object p ms key key_at ∷ frames) = List JsonPair × Plan frames

-- the value of the whole text, once a value is whole in these brackets
abbrev pub root_of : (frames : List Frame) → Plan frames → JsonTree → JsonTree
root_of [] plan x = x
root_of (frame.List p xs ∷ frames) plan x = root_of frames plan.1 (tree_at p (node.List (xs ++ (x ∷ plan.0))))
root_of (frame.Object p ms key key_at ∷ frames) plan x = root_of frames plan.1 (tree_at p (node.Object (merged (put ms key key_at x) plan.0)))

-- what stands behind a whole value in these brackets
abbrev pub Behind : ℕ → (frames : List Frame) → Plan frames → ℕ → List ℕ → Type 0
Behind deep [] plan at text = Space IsEnd at text
Behind deep (frame.List p xs ∷ frames) plan at text = Space (MoreItems (Value deep) plan.0 (Behind (suc deep) frames plan.1)) at text
Behind deep (frame.Object p ms key key_at ∷ frames) plan at text = Space (MoreMembers (Value deep) plan.0 (Behind (suc deep) frames plan.1)) at text

abbrev pub RestOfValue : ℕ → List Frame → JsonTree → ℕ → List ℕ → Type 0
RestOfValue deep frames t at text = (x : JsonTree) × (plan : Plan frames) × (root_of frames plan x ≡ t) × Space (Value deep x (Behind deep frames plan)) at text

abbrev pub RestOfFirstItem : ℕ → List Frame → JsonTree → ℕ → List ℕ → Type 0
RestOfFirstItem deep [] t at text = ⊥
RestOfFirstItem deep (frame.List p xs ∷ frames) t at text = (all : List JsonTree) × (plan : Plan frames)
    × (root_of frames plan (tree_at p (node.List (xs ++ all))) ≡ t) × Space (Items (Value deep) all (Behind (suc deep) frames plan)) at text
RestOfFirstItem deep (frame.Object p ms key key_at ∷ frames) t at text = ⊥

abbrev pub RestOfFirstKey : ℕ → List Frame → JsonTree → ℕ → List ℕ → Type 0
RestOfFirstKey deep [] t at text = ⊥
RestOfFirstKey deep (frame.List p xs ∷ frames) t at text = ⊥
RestOfFirstKey deep (frame.Object p ms key key_at ∷ frames) t at text = (all : List JsonPair) × (plan : Plan frames)
    × (root_of frames plan (tree_at p (node.Object (merged ms all))) ≡ t) × Space (Members (Value deep) all (Behind (suc deep) frames plan)) at text

abbrev pub RestOfKey : ℕ → List Frame → JsonTree → ℕ → List ℕ → Type 0
RestOfKey deep [] t at text = ⊥
RestOfKey deep (frame.List p xs ∷ frames) t at text = ⊥
RestOfKey deep (frame.Object p ms key key_at ∷ frames) t at text = (pair : JsonPair) × (more : List JsonPair) × (plan : Plan frames)
    × (root_of frames plan (tree_at p (node.Object (merged ms (pair ∷ more)))) ≡ t)
    × Space (Member (Value deep) pair (Space (MoreMembers (Value deep) more (Behind (suc deep) frames plan)))) at text

abbrev pub colon : List ℕ
colon = 58 ∷ []

abbrev pub RestOfColon : ℕ → List Frame → JsonTree → ℕ → List ℕ → Type 0
RestOfColon deep [] t at text = ⊥
RestOfColon deep (frame.List p xs ∷ frames) t at text = ⊥
RestOfColon deep (frame.Object p ms key key_at ∷ frames) t at text = (x : JsonTree) × (plan : Plan (frame.Object p ms key key_at ∷ frames))
    × (root_of (frame.Object p ms key key_at ∷ frames) plan x ≡ t)
    × Space (Word colon (Space (Value deep x (Behind deep (frame.Object p ms key key_at ∷ frames) plan)))) at text

abbrev pub RestAfter : ℕ → List Frame → Option JsonTree → JsonTree → ℕ → List ℕ → Type 0
RestAfter deep [] root t at text = (root ≡ Some t) × Space IsEnd at text
RestAfter deep (frame.List p xs ∷ frames) root t at text = (more : List JsonTree) × (plan : Plan frames)
    × (root_of frames plan (tree_at p (node.List (xs ++ more))) ≡ t) × Space (MoreItems (Value deep) more (Behind (suc deep) frames plan)) at text
RestAfter deep (frame.Object p ms key key_at ∷ frames) root t at text = (more : List JsonPair) × (plan : Plan frames)
    × (root_of frames plan (tree_at p (node.Object (merged ms more))) ≡ t) × Space (MoreMembers (Value deep) more (Behind (suc deep) frames plan)) at text

-- what is left of a name
abbrev pub left_of : Letters → List ℕ
left_of letters.Ull = 117 ∷ 108 ∷ 108 ∷ []
left_of letters.Ll = 108 ∷ 108 ∷ []
left_of letters.L = 108 ∷ []
left_of letters.Rue = 114 ∷ 117 ∷ 101 ∷ []
left_of letters.Ue = 117 ∷ 101 ∷ []
left_of letters.TrueE = 101 ∷ []
left_of letters.Alse = 97 ∷ 108 ∷ 115 ∷ 101 ∷ []
left_of letters.Lse = 108 ∷ 115 ∷ 101 ∷ []
left_of letters.Se = 115 ∷ 101 ∷ []
left_of letters.FalseE = 101 ∷ []

abbrev pub RestOfName : ℕ → List Frame → ℕ → Letters → JsonTree → ℕ → List ℕ → Type 0
RestOfName deep frames start l t at text = (plan : Plan frames) × (root_of frames plan (tree_at start (named l)) ≡ t) × Word (left_of l) (Behind deep frames plan) at text

-- these bytes end a number that has come so far
abbrev pub ends : Option Part → List ℕ → Bool
ends None bytes = false
ends (Some p) [] = is_final p
ends (Some p) (byte ∷ bytes) = ends (next_part p byte) bytes

abbrev pub RestOfNumber : ℕ → List Frame → ℕ → List ℕ → Part → JsonTree → ℕ → List ℕ → Type 0
RestOfNumber deep frames start word p t at text = (tail : List ℕ) × (plan : Plan frames) × (ends (Some p) tail ≡ true)
    × (root_of frames plan (tree_at start (node.Number (word ++ tail))) ≡ t) × Word tail (Behind deep frames plan) at text

-- what the pieces of a string stand for, where a surrogate may wait
abbrev pub content_with : Option ℕ → List Piece → List ℕ
content_with None pieces = content_of pieces
content_with (Some high) [] = character high
content_with (Some high) (plain bytes ∷ pieces) = character high ++ (bytes ++ content_of pieces)
content_with (Some high) (escape letter char ∷ pieces) = character high ++ (char ∷ content_of pieces)
content_with (Some high) (unit a b c d ∷ pieces) = if (is_high high && is_low (unit_of a b c d))
    then (paired high (unit_of a b c d) ++ content_of pieces)
    else (character high ++ content_of (unit a b c d ∷ pieces))

-- the value of the whole text, once the string is whole
abbrev pub RootedKey : (frames : List Frame) → ℕ → List ℕ → JsonTree → Plan frames → JsonTree → Type 0
RootedKey [] start content x plan t = ⊥
RootedKey (frame.List p xs ∷ frames) start content x plan t = ⊥
RootedKey (frame.Object p ms key key_at ∷ frames) start content x plan t = root_of (frame.Object p ms content start ∷ frames) plan x ≡ t

abbrev pub Rooted : Bool → (frames : List Frame) → ℕ → List ℕ → JsonTree → Plan frames → JsonTree → Type 0
Rooted true frames start content x plan t = RootedKey frames start content x plan t
Rooted false frames start content x plan t = root_of frames plan (tree_at start (node.Str content)) ≡ t

-- what stands behind the string
abbrev pub Followed : Bool → ℕ → (frames : List Frame) → JsonTree → Plan frames → ℕ → List ℕ → Type 0
Followed true deep frames x plan at text = Space (Word colon (Space (Value deep x (Behind deep frames plan)))) at text
Followed false deep frames x plan at text = Behind deep frames plan at text

abbrev pub RestOfChars : ℕ → Reader → JsonTree → ℕ → List ℕ → Type 0
RestOfChars deep r t at text = (pieces : List Piece) × (x : JsonTree) × (plan : Plan r.stack)
    × Rooted r.is_key r.stack r.start (r.word ++ content_with r.high pieces) x plan t × Chars pieces (Followed r.is_key deep r.stack x plan) at text

abbrev pub RestOfEscape : ℕ → Reader → JsonTree → ℕ → List ℕ → Type 0
RestOfEscape deep r t at text = (piece : Piece) × (tail : List ℕ) × (pieces : List Piece) × (x : JsonTree) × (plan : Plan r.stack)
    × IsPiece piece × (spelled piece ≡ 92 ∷ tail)
    × Rooted r.is_key r.stack r.start (r.word ++ content_with r.high (piece ∷ pieces)) x plan t
    × Word tail (Chars pieces (Followed r.is_key deep r.stack x plan)) at text

-- what a code unit and the pieces behind it stand for
abbrev pub content_number : Option ℕ → ℕ → List Piece → List ℕ
content_number None number pieces = content_with (Some number) pieces
content_number (Some high) number pieces = if (is_high high && is_low number)
    then (paired high number ++ content_of pieces)
    else (character high ++ content_with (Some number) pieces)

-- these digits complete the number
abbrev pub Completes : Result Digits ℕ → List ℕ → ℕ → Type 0
Completes (Ok ds) [] number = ⊥
Completes (Ok ds) (byte ∷ bytes) number = IsHexDigit byte × Completes (with_digit ds (digit_value byte)) bytes number
Completes (Err whole) [] number = number ≡ whole
Completes (Err whole) (byte ∷ bytes) number = ⊥

abbrev pub RestOfHex : ℕ → Reader → Digits → JsonTree → ℕ → List ℕ → Type 0
RestOfHex deep r ds t at text = (number : ℕ) × (tail : List ℕ) × (pieces : List Piece) × (x : JsonTree) × (plan : Plan r.stack)
    × Completes (Ok ds) tail number
    × Rooted r.is_key r.stack r.start (r.word ++ content_number r.high number pieces) x plan t
    × Word tail (Chars pieces (Followed r.is_key deep r.stack x plan)) at text

abbrev pub RestOfTail : ℕ → Reader → ℕ → ℕ → ℕ → JsonTree → ℕ → List ℕ → Type 0
RestOfTail deep r low high left t at text = (tail : List ℕ) × (pieces : List Piece) × (x : JsonTree) × (plan : Plan r.stack)
    × AreTails low high left tail
    × Rooted r.is_key r.stack r.start ((r.word ++ tail) ++ content_with r.high pieces) x plan t
    × Word tail (Chars pieces (Followed r.is_key deep r.stack x plan)) at text

abbrev pub RestIn : Mode → ℕ → Reader → JsonTree → ℕ → List ℕ → Type 0
RestIn mode.Value deep r t at text = RestOfValue deep r.stack t at text
RestIn mode.FirstItem deep r t at text = RestOfFirstItem deep r.stack t at text
RestIn mode.FirstKey deep r t at text = RestOfFirstKey deep r.stack t at text
RestIn mode.Key deep r t at text = RestOfKey deep r.stack t at text
RestIn mode.Colon deep r t at text = RestOfColon deep r.stack t at text
RestIn mode.After deep r t at text = RestAfter deep r.stack r.root t at text
RestIn (mode.Name l) deep r t at text = RestOfName deep r.stack r.start l t at text
RestIn (mode.Number p) deep r t at text = RestOfNumber deep r.stack r.start r.word p t at text
RestIn mode.Chars deep r t at text = RestOfChars deep r t at text
RestIn mode.Escape deep r t at text = RestOfEscape deep r t at text
RestIn (mode.Hex ds) deep r t at text = RestOfHex deep r ds t at text
RestIn (mode.Tail low high left) deep r t at text = RestOfTail deep r low high left t at text

-- With so many more brackets allowed, the rest of the text makes it a JSON text of this tree.
abbrev pub Rest : ℕ → Reader → JsonTree → ℕ → List ℕ → Type 0
Rest deep r t at text = RestIn r.mode deep r t at text

-- the same after a step, with so many brackets allowed in all
abbrev pub Lands : ℕ → Option Reader → JsonTree → ℕ → List ℕ → Type 0
Lands total None t at text = ⊥
Lands total (Some r) t at text = (deep : ℕ) × (deep + length r.stack ≡ total) × Rest deep r t at text
