-- The template of a text is what is read from its pieces, and nothing else is.
use Rattle.std.proofs.Common.{◌≡◌, ℕ, ◌≤◌, Bool, true, false, not, cond, ◌||◌, List, [], ◌∷◌, ◌++◌, Option, Some, None, option_and_then, refl, sym, ap, ◌∙◌, subst}
use Rattle.std.proofs.lemmas.Bool.{and_parts, and_from, and_left, or_parts, or_from, both_ways, not-true, not_from_false}
use Rattle.std.proofs.lemmas.List.{append-nil, append_assoc}
use Rattle.std.proofs.lemmas.List.Folds.{list_any-append}
use Rattle.std.specs.List.{AllByRecursion, AllZip, concat, flat_map, slice_split, list_any, list_all}
use Rattle.graph_types.specs.declared.part.Part.{Part}
use Rattle.graph_types.specs.declared.part.Part.TheVariants.{Fixed, Name, Id, Hash}
use Rattle.graph_types.specs.Parts.{is_part}
use Rattle.path_text.specs.Path.{is_normal}
use Rattle.asset_names.specs.Reading.{is_open, is_close, with_fixed, with_marked, with_all, with_pieces, read_pieces, fixed_parts, mark_of}
use Rattle.asset_names.specs.Template.{IsSpelling, IsSpelled, IsTemplateOf, is_bracket, is_sound, is_fixed, begins_fixed, are_apart, letter_for}
use Rattle.asset_names.proofs.Marks.{has_word, is_mark}
use Rattle.asset_names.proofs.Pieces.{split_front, has_first, IsClear, pieces-clear, behind, pieces-text, with_marked-at, with_marked-some}

-- ---- a text without brackets

lacks : (text : List ℕ) → list_any is_bracket text ≡ false → (list_any is_open text ≡ false) × (list_any is_close text ≡ false)
lacks [] none = (refl, refl)
lacks (byte ∷ bytes) none =
    let parts = or_parts (is_bracket byte) (list_any is_bracket bytes) none in
    let here = or_parts (is_open byte) (is_close byte) parts.0 in
    let rest = lacks bytes parts.1 in
    (or_from _ _ here.0 rest.0, or_from _ _ here.1 rest.1)

lacks_both : (text : List ℕ) → list_any is_open text ≡ false → list_any is_close text ≡ false → list_any is_bracket text ≡ false
lacks_both [] opens closes = refl
lacks_both (byte ∷ bytes) opens closes =
    let no_open = or_parts (is_open byte) (list_any is_open bytes) opens in
    let no_close = or_parts (is_close byte) (list_any is_close bytes) closes in
    or_from _ _ (or_from _ _ no_open.0 no_close.0) (lacks_both bytes no_open.1 no_close.1)

-- ---- what is written as a template is read

-- a fixed text in front
read_fixed : (digits : ℕ) (before parts : List Part) (byte : ℕ) (bytes text : List ℕ) (rest : List (List ℕ)) → list_any is_bracket (byte ∷ bytes) ≡ false → slice_split is_open text ≡ [] ∷ rest → with_pieces digits (before ++ Fixed (byte ∷ bytes) ∷ []) (slice_split is_open text) ≡ Some ((before ++ Fixed (byte ∷ bytes) ∷ []) ++ parts) → with_pieces digits before (slice_split is_open ((byte ∷ bytes) ++ text)) ≡ Some (before ++ Fixed (byte ∷ bytes) ∷ parts)
read_fixed digits before parts byte bytes text rest none first more =
    let clear = lacks (byte ∷ bytes) none in
    let pieces : slice_split is_open ((byte ∷ bytes) ++ text) ≡ (byte ∷ bytes) ∷ rest =
    split_front (byte ∷ bytes) text [] rest clear.0 first ∙ ap (λ (xs : List ℕ). xs ∷ rest) (append-nil (byte ∷ bytes)) in
    let step : with_fixed before (byte ∷ bytes) ≡ Some (before ++ Fixed (byte ∷ bytes) ∷ []) =
    ap (λ (b : Bool). cond b None (Some (before ++ Fixed (byte ∷ bytes) ∷ []))) clear.1 in
    let here : with_pieces digits before (slice_split is_open ((byte ∷ bytes) ++ text)) ≡ with_all digits (before ++ Fixed (byte ∷ bytes) ∷ []) rest =
    ap (with_pieces digits before) pieces ∙ ap (option_and_then (λ (next : List Part). with_all digits next rest)) step in
    let there : with_pieces digits (before ++ Fixed (byte ∷ bytes) ∷ []) (slice_split is_open text) ≡ with_all digits (before ++ Fixed (byte ∷ bytes) ∷ []) rest =
    ap (with_pieces digits (before ++ Fixed (byte ∷ bytes) ∷ [])) first ∙ ap (λ (xs : List Part). with_all digits xs rest) (append-nil (before ++ Fixed (byte ∷ bytes) ∷ [])) in
    here ∙ sym there ∙ more ∙ ap (λ (xs : List Part). Some xs) (append_assoc before (Fixed (byte ∷ bytes) ∷ []) parts)

-- the pieces of a mark and what stands behind it
marked_pieces : (word text first : List ℕ) (rest : List (List ℕ)) → list_any is_open word ≡ false → slice_split is_open text ≡ first ∷ rest → slice_split is_open ((91 ∷ word ++ 93 ∷ []) ++ text) ≡ [] ∷ (word ++ 93 ∷ first) ∷ rest
marked_pieces word text first rest none e =
    let clear : list_any is_open (word ++ 93 ∷ []) ≡ false = list_any-append is_open word (93 ∷ []) ∙ or_from _ _ none refl in
    ap (λ (xs : List (List ℕ)). [] ∷ xs)
    (split_front (word ++ 93 ∷ []) text first rest clear e ∙ ap (λ (xs : List ℕ). xs ∷ rest) (append_assoc word (93 ∷ []) first))

-- a mark in front
read_mark : (digits : ℕ) (before parts : List Part) (part : Part) (spelling text : List ℕ) → is_fixed part ≡ false → is_part part ≡ true → IsSpelling digits part spelling → with_pieces digits (before ++ part ∷ []) (slice_split is_open text) ≡ Some ((before ++ part ∷ []) ++ parts) → with_pieces digits before (slice_split is_open (spelling ++ text)) ≡ Some (before ++ part ∷ parts)
read_mark digits before parts part spelling text mark own written more =
    let word = has_word digits part spelling mark own written in
    let first = has_first text in
    let pieces : slice_split is_open (spelling ++ text) ≡ [] ∷ (word.word ++ 93 ∷ first.0) ∷ first.1 =
    ap (λ (xs : List ℕ). slice_split is_open (xs ++ text)) word.written ∙ marked_pieces word.word text first.0 first.1 word.no_open first.2 in
    let step : with_marked digits (before ++ []) (word.word ++ 93 ∷ first.0) ≡ with_fixed (before ++ part ∷ []) first.0 =
    ap (λ (xs : List Part). with_marked digits xs (word.word ++ 93 ∷ first.0)) (append-nil before)
    ∙ with_marked-at digits before word.word first.0 word.no_close
    ∙ ap (option_and_then (λ (p : Part). with_fixed (before ++ p ∷ []) first.0)) word.mark in
    let here : with_pieces digits before (slice_split is_open (spelling ++ text)) ≡ option_and_then (λ (next : List Part). with_all digits next first.1) (with_fixed (before ++ part ∷ []) first.0) =
    ap (with_pieces digits before) pieces ∙ ap (option_and_then (λ (next : List Part). with_all digits next first.1)) step in
    let there : with_pieces digits (before ++ part ∷ []) (slice_split is_open text) ≡ option_and_then (λ (next : List Part). with_all digits next first.1) (with_fixed (before ++ part ∷ []) first.0) =
    ap (with_pieces digits (before ++ part ∷ [])) first.2 in
    here ∙ sym there ∙ more ∙ ap (λ (xs : List Part). Some xs) (append_assoc before (part ∷ []) parts)

-- where no fixed text is in front, the first piece is empty
mark_begins : (digits : ℕ) (part : Part) (spelling text : List ℕ) → is_fixed part ≡ false → is_part part ≡ true → IsSpelling digits part spelling → (rest : List (List ℕ)) × (slice_split is_open (spelling ++ text) ≡ [] ∷ rest)
mark_begins digits part spelling text mark own written =
    let word = has_word digits part spelling mark own written in
    let first = has_first text in
    ((word.word ++ 93 ∷ first.0) ∷ first.1, ap (λ (xs : List ℕ). slice_split is_open (xs ++ text)) word.written ∙ marked_pieces word.word text first.0 first.1 word.no_open first.2)

begins : (digits : ℕ) (parts : List Part) (spellings : List (List ℕ)) → AllZip (IsSpelling digits) parts spellings → begins_fixed parts ≡ false → list_all is_part parts ≡ true → (rest : List (List ℕ)) × (slice_split is_open (concat spellings) ≡ [] ∷ rest)
begins digits [] [] all mark own = ([], refl)
begins digits [] (spelling ∷ spellings) all mark own = absurd all
begins digits (part ∷ parts) [] all mark own = absurd all
begins digits (part ∷ parts) (spelling ∷ spellings) all mark own =
    mark_begins digits part spelling (concat spellings) mark (and_parts (is_part part) (list_all is_part parts) own).0 all.0

sound_fixed : (byte : ℕ) (bytes : List ℕ) → is_sound (Fixed (byte ∷ bytes)) ≡ true → list_any is_bracket (byte ∷ bytes) ≡ false
sound_fixed byte bytes e = not-true _ e

read_all : (digits : ℕ) (before parts : List Part) (spellings : List (List ℕ)) → AllZip (IsSpelling digits) parts spellings → list_all is_sound parts ≡ true → are_apart parts ≡ true → list_all is_part parts ≡ true → with_pieces digits before (slice_split is_open (concat spellings)) ≡ Some (before ++ parts)
read_all digits before [] [] all sound apart own = ap (λ (xs : List Part). Some xs) refl
read_all digits before [] (spelling ∷ spellings) all sound apart own = absurd all
read_all digits before (part ∷ parts) [] all sound apart own = absurd all
read_all digits before (Fixed [] ∷ parts) (spelling ∷ spellings) all sound apart own = cc
read_all digits before (Fixed (byte ∷ bytes) ∷ parts) (spelling ∷ spellings) all sound apart own =
    let sounds = and_parts (is_sound (Fixed (byte ∷ bytes))) (list_all is_sound parts) sound in
    let aparts = and_parts (not (begins_fixed parts)) (are_apart parts) apart in
    let first = begins digits parts spellings all.1 (not-true _ aparts.0) own in
    let here = read_fixed digits before parts byte bytes (concat spellings) first.0 (sound_fixed byte bytes sounds.0) first.1
    (read_all digits (before ++ Fixed (byte ∷ bytes) ∷ []) parts spellings all.1 sounds.1 aparts.1 own) in
    ap (λ (xs : List ℕ). with_pieces digits before (slice_split is_open (xs ++ concat spellings))) all.0 ∙ here
read_all digits before (Name ∷ parts) (spelling ∷ spellings) all sound apart own =
    read_mark digits before parts Name spelling (concat spellings) refl refl all.0
    (read_all digits (before ++ Name ∷ []) parts spellings all.1 sound apart own)
read_all digits before (Id ∷ parts) (spelling ∷ spellings) all sound apart own =
    read_mark digits before parts Id spelling (concat spellings) refl refl all.0
    (read_all digits (before ++ Id ∷ []) parts spellings all.1 sound apart own)
read_all digits before (Hash n ∷ parts) (spelling ∷ spellings) all sound apart own =
    let owns = and_parts (is_part (Hash n)) (list_all is_part parts) own in
    read_mark digits before parts (Hash n) spelling (concat spellings) refl owns.0 all.0
    (read_all digits (before ++ Hash n ∷ []) parts spellings all.1 sound apart owns.1)

pub template-read : (digits : ℕ) (text : List ℕ) (parts : List Part) → IsTemplateOf digits text parts → read_pieces digits (slice_split is_open text) ≡ Some parts
template-read digits text parts is =
    ap (λ (xs : List ℕ). read_pieces digits (slice_split is_open xs)) is.spelled.2
    ∙ read_all digits [] parts is.spelled.0 is.spelled.1 is.sound is.apart is.in_range

pub one_template : (digits : ℕ) (text : List ℕ) (one other : List Part) → IsTemplateOf digits text one → IsTemplateOf digits text other → one ≡ other
one_template digits text one other is_one is_other =
    let first = template-read digits text one is_one in
    let second = template-read digits text other is_other in
    cc

-- ---- what is read is written as a template

-- the parts are the template of the text, but that the text need be no path
pub record IsWritten (digits : ℕ) (parts : List Part) (text : List ℕ) : Type 0 where
  pub spelled : IsSpelled digits parts text
  pub sound : list_all is_sound parts ≡ true
  pub apart : are_apart parts ≡ true
  pub in_range : list_all is_part parts ≡ true

written-fixed : (digits byte : ℕ) (bytes text : List ℕ) (parts : List Part) → list_any is_bracket (byte ∷ bytes) ≡ false → begins_fixed parts ≡ false → IsWritten digits parts text → IsWritten digits (Fixed (byte ∷ bytes) ∷ parts) ((byte ∷ bytes) ++ text)
written-fixed digits byte bytes text parts none mark rest = record {
  spelled = ((byte ∷ bytes) ∷ rest.spelled.0, (refl, rest.spelled.1), ap (λ (xs : List ℕ). (byte ∷ bytes) ++ xs) rest.spelled.2);
  sound = and_from _ _ (not_from_false _ none) rest.sound;
  apart = and_from _ _ (not_from_false _ mark) rest.apart;
  in_range = rest.in_range;
}

written-front : (digits : ℕ) (fixed text : List ℕ) (parts : List Part) → list_any is_bracket fixed ≡ false → begins_fixed parts ≡ false → IsWritten digits parts text → IsWritten digits (fixed_parts fixed ++ parts) (fixed ++ text)
written-front digits [] text parts none mark rest = rest
written-front digits (byte ∷ bytes) text parts none mark rest = written-fixed digits byte bytes text parts none mark rest

written-mark : (digits : ℕ) (part : Part) (word text : List ℕ) (parts : List Part) → 1 ≤ digits → digits ≤ 64 → mark_of digits word ≡ Some part → IsWritten digits parts text → IsWritten digits (part ∷ parts) (91 ∷ word ++ 93 ∷ text)
written-mark digits part word text parts low high e rest =
    let own = is_mark digits word part low high e in
    let front : 91 ∷ word ++ 93 ∷ text ≡ (91 ∷ word ++ 93 ∷ []) ++ text = sym (append_assoc (91 ∷ word) (93 ∷ []) text) in
    record {
      spelled = ((91 ∷ word ++ 93 ∷ []) ∷ rest.spelled.0, (own.spelling, rest.spelled.1), front ∙ ap (λ (xs : List ℕ). (91 ∷ word ++ 93 ∷ []) ++ xs) rest.spelled.2);
      sound = and_from _ _ own.sound rest.sound;
      apart = and_from _ _ (not_from_false _ (and_left _ _ own.mark)) rest.apart;
      in_range = and_from _ _ own.in_range rest.in_range;
    }

fixed_by : (before next : List Part) (fixed : List ℕ) (closes : Bool) → list_any is_close fixed ≡ closes → cond closes None (Some (before ++ fixed_parts fixed)) ≡ Some next → (list_any is_close fixed ≡ false) × (next ≡ before ++ fixed_parts fixed)
fixed_by before next fixed true t e = cc
fixed_by before next fixed false t e = (t, cc)

with_fixed-some : (before next : List Part) (fixed : List ℕ) → with_fixed before fixed ≡ Some next → (list_any is_close fixed ≡ false) × (next ≡ before ++ fixed_parts fixed)
with_fixed-some before next fixed e = fixed_by before next fixed (list_any is_close fixed) refl e

-- what is read of pieces behind the first
pub record IsReadBehind (digits : ℕ) (before all : List Part) (pieces : List (List ℕ)) : Type 0 where
  pub parts : List Part
  pub whole : all ≡ before ++ parts
  pub mark : begins_fixed parts ≡ false
  pub written : IsWritten digits parts (behind pieces)

one_more : (digits : ℕ) (before next all : List Part) (marked : List ℕ) (pieces : List (List ℕ)) → 1 ≤ digits → digits ≤ 64 → IsClear marked → with_marked digits before marked ≡ Some next → IsReadBehind digits next all pieces → IsReadBehind digits before all (marked ∷ pieces)
one_more digits before next all marked pieces low high clear e rest =
    let cut = with_marked-some digits before next marked e in
    let fixed = with_fixed-some (before ++ cut.part ∷ []) next cut.fixed cut.rest in
    let none : (list_any is_open cut.word || list_any is_open (93 ∷ cut.fixed)) ≡ false = sym (list_any-append is_open cut.word (93 ∷ cut.fixed)) ∙ ap (list_any is_open) (sym cut.cut) ∙ clear in
    let clean = lacks_both cut.fixed (or_parts (list_any is_open cut.word) (list_any is_open cut.fixed) none).1 fixed.0 in
    let own = is_mark digits cut.word cut.part low high cut.mark in
    let front = written-front digits cut.fixed (behind pieces) rest.parts clean rest.mark rest.written in
    let written = written-mark digits cut.part cut.word (cut.fixed ++ behind pieces) (fixed_parts cut.fixed ++ rest.parts) low high cut.mark front in
    let text : 91 ∷ cut.word ++ 93 ∷ (cut.fixed ++ behind pieces) ≡ behind (marked ∷ pieces) =
    ap (λ (xs : List ℕ). 91 ∷ xs) (sym (append_assoc cut.word (93 ∷ cut.fixed) (behind pieces)) ∙ ap (λ (xs : List ℕ). xs ++ behind pieces) (sym cut.cut)) in
    record {
      parts = cut.part ∷ (fixed_parts cut.fixed ++ rest.parts);
      whole = rest.whole ∙ ap (λ (xs : List Part). xs ++ rest.parts) fixed.1 ∙ append_assoc (before ++ cut.part ∷ []) (fixed_parts cut.fixed) rest.parts ∙ append_assoc before (cut.part ∷ []) (fixed_parts cut.fixed ++ rest.parts);
      mark = own.mark;
      written = subst (IsWritten digits (cut.part ∷ (fixed_parts cut.fixed ++ rest.parts))) text written;
    }

behind_by : (digits : ℕ) (before all : List Part) (marked : List ℕ) (pieces : List (List ℕ)) (next : Option (List Part)) → 1 ≤ digits → digits ≤ 64 → IsClear marked → with_marked digits before marked ≡ next → ((step : List Part) → with_all digits step pieces ≡ Some all → IsReadBehind digits step all pieces) → option_and_then (λ (step : List Part). with_all digits step pieces) next ≡ Some all → IsReadBehind digits before all (marked ∷ pieces)
behind_by digits before all marked pieces None low high clear is more e = cc
behind_by digits before all marked pieces (Some next) low high clear is more e =
    one_more digits before next all marked pieces low high clear is (more next e)

read_behind : (digits : ℕ) (before all : List Part) (pieces : List (List ℕ)) → 1 ≤ digits → digits ≤ 64 → AllByRecursion IsClear pieces → with_all digits before pieces ≡ Some all → IsReadBehind digits before all pieces
read_behind digits before all [] low high clear e =
    let same : before ≡ all = cc in
    record {
      parts = [];
      whole = sym same ∙ sym (append-nil before);
      mark = refl;
      written = record { spelled = ([], tt, refl); sound = refl; apart = refl; in_range = refl };
    }
read_behind digits before all (marked ∷ pieces) low high clear e =
    behind_by digits before all marked pieces (with_marked digits before marked) low high clear.0 refl (λ next more. read_behind digits next all pieces low high clear.1 more) e

pieces_by : (digits : ℕ) (all : List Part) (first : List ℕ) (pieces : List (List ℕ)) (next : Option (List Part)) → 1 ≤ digits → digits ≤ 64 → AllByRecursion IsClear (first ∷ pieces) → with_fixed [] first ≡ next → option_and_then (λ (step : List Part). with_all digits step pieces) next ≡ Some all → IsWritten digits all (first ++ behind pieces)
pieces_by digits all first pieces None low high clear is e = cc
pieces_by digits all first pieces (Some next) low high clear is e =
    let rest = read_behind digits next all pieces low high clear.1 e in
    let fixed = with_fixed-some [] next first is in
    let clean = lacks_both first clear.0 fixed.0 in
    let front = written-front digits first (behind pieces) rest.parts clean rest.mark rest.written in
    let whole : fixed_parts first ++ rest.parts ≡ all = sym (rest.whole ∙ ap (λ (xs : List Part). xs ++ rest.parts) fixed.1) in
    subst (λ xs. IsWritten digits xs (first ++ behind pieces)) whole front

pub read-written : (digits : ℕ) (text : List ℕ) (parts : List Part) → 1 ≤ digits → digits ≤ 64 → read_pieces digits (slice_split is_open text) ≡ Some parts → IsWritten digits parts text
read-written digits text parts low high e =
    let first = has_first text in
    let clear = subst (AllByRecursion IsClear) first.2 (pieces-clear text) in
    let read : read_pieces digits (first.0 ∷ first.1) ≡ Some parts = ap (read_pieces digits) (sym first.2) ∙ e in
    subst (IsWritten digits parts) (sym (pieces-text text first.0 first.1 first.2))
    (pieces_by digits parts first.0 first.1 (with_fixed [] first.0) low high clear refl read)

-- ---- what the reader answers

pub none_read : (digits : ℕ) (text : List ℕ) → read_pieces digits (slice_split is_open text) ≡ None → (parts : List Part) → IsTemplateOf digits text parts → ⊥
none_read digits text none parts is =
    let some = template-read digits text parts is in
    cc

pub not_normal : (digits : ℕ) (text : List ℕ) (parts : List Part) → read_pieces digits (slice_split is_open text) ≡ Some parts → is_normal (flat_map letter_for parts) ≡ false → (other : List Part) → IsTemplateOf digits text other → ⊥
not_normal digits text parts read odd other is =
    let some = template-read digits text other is in
    let same : other ≡ parts = cc in
    both_ways _ odd (ap (λ (xs : List Part). is_normal (flat_map letter_for xs)) (sym same) ∙ is.normal)

pub is_template : (digits : ℕ) (text : List ℕ) (parts : List Part) → 1 ≤ digits → digits ≤ 64 → read_pieces digits (slice_split is_open text) ≡ Some parts → is_normal (flat_map letter_for parts) ≡ true → IsTemplateOf digits text parts
is_template digits text parts low high read normal =
    let written = read-written digits text parts low high read in
    record { spelled = written.spelled; sound = written.sound; apart = written.apart; in_range = written.in_range; normal = normal }
