-- The text of a sample's configuration has no fault.
use Rattle.std.proofs.Common.{◌≡◌, ℕ, ◌+◌, ◌<◌, Bool, true, false, ◌&&◌, not, ◌==◌, List, [], ◌∷◌, ◌++◌, length, codes, ap, ◌∙◌, inl, inr, refl, arith, rules}
use Rattle.std.proofs.lemmas.Bool.Decides.{nat_tests}
use Rattle.std.specs.List.{list_all}
use Rattle.std.specs.Prelude.{nat_le, nat_lt, Contains, Result, Ok, Err}
use Rattle.json_order.specs.Answer.{IsAnswer}
use Rattle.json_order.specs.Grammar.{Chars, Formed, IsEnd, IsPiece, IsText, MoreMembers, Piece, Quoted, Said, Space, Word, Written, content_of, node_of, object, plain, string}
use Rattle.json_order.specs.declared.fault.JsonFault.{JsonFault}
use Rattle.json_order.specs.declared.tree.JsonNode.TheViews.{the_lemmas}
use Rattle.json_order.specs.declared.tree.JsonPair.{JsonPair}
use Rattle.json_order.specs.declared.tree.JsonTree.{JsonTree}
use Rattle.pack_config.specs.Answer.{IsAnswerBy, IsConfigAnswer, size_limit}
use Rattle.pack_config.specs.Grammar.{faults_of}
use Rattle.pack_config.specs.declared.fault.ConfigFault.{ConfigFault}
use Rattle.pack_run.specs.Sample.{sample_config}

-- ---- a string of bytes that stand as they are

abbrev is_simple : ℕ → Bool
is_simple byte = nat_le 32 byte && (nat_lt byte 128 && (not (byte == 34) && not (byte == 92)))

abbrev pieces_of : List ℕ → List Piece
pieces_of [] = []
pieces_of (byte ∷ bytes) = plain (byte ∷ []) ∷ pieces_of bytes

piece_is : (byte : ℕ) → is_simple byte ≡ true → IsPiece (plain (byte ∷ []))
piece_is byte simple = inl (grind (arith, nat_tests), grind (arith, nat_tests), grind (arith, nat_tests), grind (arith, nat_tests), refl)

-- the offset behind the bytes and the closing quotation mark
abbrev behind_of : ℕ → List ℕ → ℕ
behind_of at [] = at + 1
behind_of at (byte ∷ bytes) = behind_of (at + 1) bytes

first_of : (b c : Bool) → (b && c) ≡ true → b ≡ true
first_of true c both = refl
first_of false c both = cc

rest_of : (b c : Bool) → (b && c) ≡ true → c ≡ true
rest_of true c both = both
rest_of false c both = cc

chars_are : (bytes rest : List ℕ) (behind : Said) (at : ℕ) → list_all is_simple bytes ≡ true → behind (behind_of at bytes) rest → Chars (pieces_of bytes) behind at (bytes ++ 34 ∷ rest)
chars_are [] rest behind at simple fact = (refl, fact)
chars_are (byte ∷ bytes) rest behind at simple fact = (
  piece_is byte (first_of (is_simple byte) (list_all is_simple bytes) simple),
  (refl, chars_are bytes rest behind (at + 1) (rest_of (is_simple byte) (list_all is_simple bytes) simple) fact),
)

-- ---- the text

abbrev key_bytes : List ℕ
key_bytes = codes "entry"

abbrev value_bytes : List ℕ
value_bytes = codes "./src/m00000.js"

abbrev value_tree : JsonTree
value_tree = record { at = 9; node = node_of (string (pieces_of value_bytes)) }

abbrev member : JsonPair
member = record { key = content_of (pieces_of key_bytes); key_at = 1; value = value_tree }

abbrev tree : JsonTree
tree = record { at = 0; node = node_of (object (member ∷ [])) }

abbrev Inner : JsonTree → Said → ℕ → List ℕ → Type 0
Inner = Written (λ form. Formed form 127)

abbrev behind_value : Said
behind_value = Space (MoreMembers Inner [] (Space IsEnd))

abbrev behind_key : Said
behind_key = Space (Word (codes ":") (Space (Inner value_tree behind_value)))

value_is : Inner value_tree behind_value 9 (codes "\"./src/m00000.js\"}")
value_is = (string (pieces_of value_bytes), refl, (refl, chars_are value_bytes (codes "}") behind_value 10 refl (inl (refl, tt))))

key_is : Quoted (pieces_of key_bytes) behind_key 1 (codes "\"entry\":\"./src/m00000.js\"}")
key_is = (refl, chars_are key_bytes (codes ":\"./src/m00000.js\"}") behind_key 2 refl (inl (refl, inl value_is)))

text_is : IsText 128 tree 0 sample_config
text_is = inl (object (member ∷ []), refl, (refl, inl (pieces_of key_bytes, refl, refl, key_is)))

no_faults : faults_of tree ≡ []
no_faults = search (rules, the_lemmas)

-- ---- no fault is its answer

abbrev pub OneText : Type 0
OneText = (text : List ℕ) (one other : Result JsonTree JsonFault) → IsAnswer text one → IsAnswer text other → one ≡ other

none_among : (faults : List ConfigFault) (fault : ConfigFault) → faults ≡ [] → Contains faults fault → ⊥
none_among faults fault is among = (let none : length faults ≡ 0 = ap length is in let within = among.1 in omega (arith, none, within))

by_tree : (read : Result JsonTree JsonFault) (fault : ConfigFault) → read ≡ Ok tree → IsAnswerBy sample_config read (Err fault) → ⊥
by_tree (Ok other) fault same by =
    let is : other ≡ tree = cc in
    none_among (faults_of other) fault (ap faults_of is ∙ no_faults) by.among
by_tree (Err stop) fault same by = cc

pub never_faulty : OneText → (fault : ConfigFault) → IsConfigAnswer sample_config (Err fault) → ⊥
never_faulty one_answer fault (inl long) = let more : size_limit < length sample_config = long.0 in omega arith
never_faulty one_answer fault (inr read) = by_tree read.1.0 fault (one_answer sample_config read.1.0 (Ok tree) read.1.1 text_is) read.1.2
