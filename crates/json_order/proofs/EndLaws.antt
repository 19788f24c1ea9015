-- Where the text ends, it is a JSON text exactly where the reader has its value; and it can always go on to one.
use Rattle.std.proofs.Common.{◌≡◌, ◌∙◌, ℕ, zero, suc, ◌≤◌, Bool, true, false, cond, inl, inr, List, [], ◌∷◌, Option, Some, None, refl, ap, sym, subst, arith, append-nil}
use Rattle.std.specs.Prelude.{option_and_then}
use Rattle.std.specs.Str.{is_utf8}
use Rattle.std.proofs.lemmas.Str.{is_utf8-from_IsUtf8}
use Rattle.json_order.specs.declared.tree.JsonNode.TheVariants as node
use Rattle.json_order.specs.declared.tree.JsonTree.{JsonTree}
use Rattle.json_order.specs.declared.tree.JsonPair.{JsonPair}
use Rattle.json_order.specs.declared.frame.Frame.{Frame}
use Rattle.json_order.specs.declared.frame.Frame.TheVariants as frame
use Rattle.json_order.specs.declared.mode.Mode.{Mode}
use Rattle.json_order.specs.declared.mode.Mode.TheVariants as mode
use Rattle.json_order.specs.declared.mode.Part.{Part}
use Rattle.json_order.specs.declared.mode.Letters.{Letters}
use Rattle.json_order.specs.declared.mode.Letters.TheVariants as letters
use Rattle.json_order.specs.declared.reader.Reader.{Reader}
use Rattle.json_order.specs.Grammar.{Word, Value, Form, null, boolean, number, string, array, object, Formed, Items, MoreItems, Members, MoreMembers, Piece, plain, escape, unit, spelled, IsPiece, IsUnescaped, Chars}
use Rattle.json_order.specs.inner.Modes.{is_final}
use Rattle.json_order.specs.inner.Steps.{tree_at, put_value, closed_number, finished, finish_in, root_at}
use Rattle.json_order.proofs.Rest.{Rest, RestOfFirstItem, RestOfFirstKey, RestOfKey, RestOfColon, RestAfter, RestOfNumber, left_of}
use Rattle.json_order.proofs.Tests.{tested}
use Rattle.json_order.proofs.Places.{reader}
use Rattle.json_order.proofs.NumberLaws.{number_begins}
use Rattle.json_order.proofs.Valid.{Valid, ValidIn}

-- nothing stands where the text ends
no_form : (form : Form) (deep : ℕ) (behind : ℕ → List ℕ → Type 0) (at : ℕ) → Formed form deep behind at [] → ⊥
no_form null deep behind at h = h
no_form (boolean true) deep behind at h = h
no_form (boolean false) deep behind at h = h
no_form (number []) deep behind at h = let never : false ≡ true = number_begins [] h.0 in cc
no_form (number (c ∷ cs)) deep behind at h = h.1
no_form (string pieces) deep behind at h = h
no_form (array items) zero behind at h = h
no_form (array items) (suc deep) behind at h = h
no_form (object members) zero behind at h = h
no_form (object members) (suc deep) behind at h = h

no_value : (deep : ℕ) (x : JsonTree) (behind : ℕ → List ℕ → Type 0) (at : ℕ) → Value deep x behind at [] → ⊥
no_value deep x behind at (form, is, h) = no_form form deep behind at h

no_items : (deep : ℕ) (items : List JsonTree) (behind : ℕ → List ℕ → Type 0) (at : ℕ) → Items (Value deep) items behind at [] → ⊥
no_items deep [] behind at h = h
no_items deep (x ∷ more) behind at h = no_value deep x _ at h

no_more_items : (deep : ℕ) (items : List JsonTree) (behind : ℕ → List ℕ → Type 0) (at : ℕ) → MoreItems (Value deep) items behind at [] → ⊥
no_more_items deep [] behind at h = h
no_more_items deep (x ∷ more) behind at h = h

no_members : (deep : ℕ) (members : List JsonPair) (behind : ℕ → List ℕ → Type 0) (at : ℕ) → Members (Value deep) members behind at [] → ⊥
no_members deep [] behind at h = h
no_members deep (x ∷ more) behind at h = h.3

no_more_members : (deep : ℕ) (members : List JsonPair) (behind : ℕ → List ℕ → Type 0) (at : ℕ) → MoreMembers (Value deep) members behind at [] → ⊥
no_more_members deep [] behind at h = h
no_more_members deep (x ∷ more) behind at h = h

no_letters : (l : Letters) (behind : ℕ → List ℕ → Type 0) (at : ℕ) → Word (left_of l) behind at [] → ⊥
no_letters letters.Ull behind at h = h
no_letters letters.Ll behind at h = h
no_letters letters.L behind at h = h
no_letters letters.Rue behind at h = h
no_letters letters.Ue behind at h = h
no_letters letters.TrueE behind at h = h
no_letters letters.Alse behind at h = h
no_letters letters.Lse behind at h = h
no_letters letters.Se behind at h = h
no_letters letters.FalseE behind at h = h

no_chars : (pieces : List Piece) (behind : ℕ → List ℕ → Type 0) (at : ℕ) → Chars pieces behind at [] → ⊥
no_chars [] behind at h = h
no_chars (plain [] ∷ pieces) behind at h = h.0
no_chars (plain (c ∷ cs) ∷ pieces) behind at h = h.1
no_chars (escape letter char ∷ pieces) behind at h = h.1
no_chars (unit a b c d ∷ pieces) behind at h = h.1

no_escape : (piece : Piece) (tail : List ℕ) (behind : ℕ → List ℕ → Type 0) (at : ℕ) → IsPiece piece → spelled piece ≡ 92 ∷ tail → Word tail behind at [] → ⊥
no_escape piece (c ∷ cs) behind at is e h = h
no_escape (plain bytes) [] behind at is e h = never (subst (λ (w : List ℕ). IsUnescaped w) e is)
  where
    never : IsUnescaped (92 ∷ []) → ⊥
    never (inl (low, ascii, no_quote, no_slash, none)) = no_slash refl
    never (inr (row, same, tails)) = cc
no_escape (escape letter char) [] behind at is e h = cc
no_escape (unit a b c d) [] behind at is e h = cc

module _ (deep : ℕ) (t : JsonTree) (at : ℕ) where
  no_first_item : (frames : List Frame) → RestOfFirstItem deep frames t at [] → ⊥
  no_first_item [] h = h
  no_first_item (frame.List p xs ∷ frames) (all, plan, e, h) = no_items deep all _ at h
  no_first_item (frame.Object p ms key key_at ∷ frames) h = h

  no_first_key : (frames : List Frame) → RestOfFirstKey deep frames t at [] → ⊥
  no_first_key [] h = h
  no_first_key (frame.List p xs ∷ frames) h = h
  no_first_key (frame.Object p ms key key_at ∷ frames) (all, plan, e, h) = no_members deep all _ at h

  no_key : (frames : List Frame) → RestOfKey deep frames t at [] → ⊥
  no_key [] h = h
  no_key (frame.List p xs ∷ frames) h = h
  no_key (frame.Object p ms key key_at ∷ frames) (pair, more, plan, e, h) = h.3

  no_colon : (frames : List Frame) → RestOfColon deep frames t at [] → ⊥
  no_colon [] h = h
  no_colon (frame.List p xs ∷ frames) h = h
  no_colon (frame.Object p ms key key_at ∷ frames) (x, plan, e, h) = h

  after_end : (frames : List Frame) (root : Option JsonTree) → RestAfter deep frames root t at [] → root_at root frames ≡ Some t
  after_end [] root h = h.0
  after_end (frame.List p xs ∷ frames) root (more, plan, e, h) = absurd (no_more_items deep more _ at h)
  after_end (frame.Object p ms key key_at ∷ frames) root (more, plan, e, h) = absurd (no_more_members deep more _ at h)

  end_after : (frames : List Frame) (root : Option JsonTree) → root_at root frames ≡ Some t → RestAfter deep frames root t at []
  end_after [] root e = (e, tt)
  end_after (f ∷ frames) root e = cc

  module _ (start : ℕ) (word : List ℕ) (high : Option ℕ) (is_key : Bool) (root : Option JsonTree) where
    abbrev Ends : Part → List Frame → Type 0
    Ends p frames = finish_in (mode.Number p) (reader (mode.Number p) start word high is_key frames root) ≡ Some t

    number_end : (p : Part) (frames : List Frame) → is_utf8 word ≡ true → RestOfNumber deep frames start word p t at [] → Ends p frames
    number_end p frames utf8 (c ∷ tail, plan, is, e, h) = absurd h
    number_end p [] utf8 ([], plan, is, e, h) =
        let root_is : tree_at start (node.Number word) ≡ t = ap (λ (w : List ℕ). tree_at start (node.Number w)) (sym (append-nil word)) ∙ e in
        subst (λ (v : Bool). cond v (option_and_then (λ s. root_at s.root s.stack) (closed_number (reader (mode.Number p) start word high is_key [] root))) None ≡ Some t) (sym is)
        (subst (λ (v : Bool). option_and_then (λ s. root_at s.root s.stack) (cond v (Some (put_value (reader (mode.Number p) start [] high is_key [] root) (tree_at start (node.Number word)) [])) None) ≡ Some t) (sym utf8)
        (ap Some root_is))
    number_end p (frame.List q xs ∷ frames) utf8 ([], plan, is, e, h) = absurd (no_more_items deep plan.0 _ at h)
    number_end p (frame.Object q ms key key_at ∷ frames) utf8 ([], plan, is, e, h) = absurd (no_more_members deep plan.0 _ at h)

    abbrev Closed : Part → List Frame → Option Reader → Type 0
    Closed p frames o = option_and_then (λ s. root_at s.root s.stack) o ≡ Some t

    end_placed : (p : Part) (frames : List Frame) → is_final p ≡ true
        → Closed p frames (Some (put_value (reader (mode.Number p) start [] high is_key frames root) (tree_at start (node.Number word)) frames)) → RestOfNumber deep frames start word p t at []
    end_placed p [] final e = ([], tt, final, ap (λ (w : List ℕ). tree_at start (node.Number w)) (append-nil word) ∙ cc, tt)
    end_placed p (frame.List q xs ∷ frames) final e = cc
    end_placed p (frame.Object q ms key key_at ∷ frames) final e = cc

    end_number : (p : Part) (frames : List Frame) → Ends p frames → RestOfNumber deep frames start word p t at []
    end_number p frames e =
        elim (tested (λ (o : Option JsonTree). o ≡ Some t) (is_final p) (option_and_then (λ s. root_at s.root s.stack) (closed_number (reader (mode.Number p) start word high is_key frames root))) None e) [
          | inl g ↦ elim (tested (Closed p frames) (is_utf8 word) (Some (put_value (reader (mode.Number p) start [] high is_key frames root) (tree_at start (node.Number word)) frames)) None g.1) [
            | inl k ↦ end_placed p frames g.0 k.1
            | inr k ↦ cc
          ]
          | inr g ↦ cc
        ]

    rest_end : (m : Mode) (frames : List Frame) → ValidIn m (reader m start word high is_key frames root) → Rest deep (reader m start word high is_key frames root) t at []
        → finish_in m (reader m start word high is_key frames root) ≡ Some t
    rest_end mode.Value frames valid (x, plan, e, h) = absurd (no_value deep x _ at h)
    rest_end mode.FirstItem frames valid h = absurd (no_first_item frames h)
    rest_end mode.FirstKey frames valid h = absurd (no_first_key frames h)
    rest_end mode.Key frames valid h = absurd (no_key frames h)
    rest_end mode.Colon frames valid h = absurd (no_colon frames h)
    rest_end mode.After frames valid h = after_end frames root h
    rest_end (mode.Name l) frames valid (plan, e, h) = absurd (no_letters l _ at h)
    rest_end (mode.Number p) frames valid h = number_end p frames (is_utf8-from_IsUtf8 word valid) h
    rest_end mode.Chars frames valid (pieces, x, plan, e, h) = absurd (no_chars pieces _ at h)
    rest_end mode.Escape frames valid (piece, tail, pieces, x, plan, is, spells, e, h) = absurd (no_escape piece tail _ at is spells h)
    rest_end (mode.Hex ds) frames valid (n, [], pieces, x, plan, never, e, h) = absurd never
    rest_end (mode.Hex ds) frames valid (n, c ∷ tail, pieces, x, plan, is, e, h) = absurd h
    rest_end (mode.Tail low most zero) frames valid h = absurd (let some : 1 ≤ zero = valid.some in omega arith)
    rest_end (mode.Tail low most (suc left)) frames valid ([], pieces, x, plan, never, e, h) = absurd never
    rest_end (mode.Tail low most (suc left)) frames valid (c ∷ tail, pieces, x, plan, is, e, h) = absurd h

    end_rest : (m : Mode) (frames : List Frame) → finish_in m (reader m start word high is_key frames root) ≡ Some t → Rest deep (reader m start word high is_key frames root) t at []
    end_rest mode.Value frames e = cc
    end_rest mode.FirstItem frames e = cc
    end_rest mode.FirstKey frames e = cc
    end_rest mode.Key frames e = cc
    end_rest mode.Colon frames e = cc
    end_rest mode.After frames e = end_after frames root e
    end_rest (mode.Name l) frames e = cc
    end_rest (mode.Number p) frames e = end_number p frames e
    end_rest mode.Chars frames e = cc
    end_rest mode.Escape frames e = cc
    end_rest (mode.Hex ds) frames e = cc
    end_rest (mode.Tail low most left) frames e = cc

pub finished_on : (r : Reader) (deep : ℕ) (t : JsonTree) (at : ℕ) → Valid r → Rest deep r t at [] → finished r ≡ Some t
unfolding finished
finished_on r deep t at valid h = rest_end deep t at r.start r.word r.high r.is_key r.root r.mode r.stack valid h

pub finished_back : (r : Reader) (deep : ℕ) (t : JsonTree) (at : ℕ) → finished r ≡ Some t → Rest deep r t at []
unfolding finished
finished_back r deep t at e = end_rest deep t at r.start r.word r.high r.is_key r.root r.mode r.stack e
