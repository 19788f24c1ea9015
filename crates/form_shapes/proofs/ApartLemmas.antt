-- Within a form no other begins.
use Rattle.std.proofs.Common.{◌≡◌, ◌<◌, ◌≤◌, ◌+◌, ◌-◌, ℕ, suc, zero, Bool, true, false, not, cond, List, [], ◌∷◌, Option, None, Some, drop, take, length, refl, ap, subst, ◌∙◌, arith, inl, inr}
use Rattle.std.specs.Prelude.{◌&&◌, ◌==◌, ◌||◌, codes, option_and_then, slice_get}
use Rattle.std.specs.List.{AllByRecursion, list_all, list_any, onto_first, slice_split}
use Rattle.std.specs.Option.{option_map_or}
use Rattle.std.specs.Str.{bytes_eq}
use Rattle.std.proofs.lemmas.Bool.{cases_eq, cases_lt, ne_eqb}
use Rattle.std.proofs.lemmas.Option.{slice_get_within}
use Rattle.es_tokens.specs.Braces.{IsClosedBrace, IsPunctuator}
use Rattle.es_tokens.specs.Depths.{AreNested}
use Rattle.es_tokens.specs.declared.token.Token.{Token}
use Rattle.es_tokens.specs.declared.token.TokenClass.{TokenClass}
use Rattle.es_tokens.specs.declared.token.TokenClass.TheVariants as class
use Rattle.form_shapes.specs.Apart.{AreWithoutForms, begins_none, begun_at, form_in, is_alone, stands_alone}
use Rattle.form_shapes.specs.Forms.{behind, behind_all, behind_attributes, form_at}
use Rattle.form_shapes.specs.Names.{is_specifier, left_sign, right_sign, separated, specifiers, without_comma, ends_with_comma}
use Rattle.form_shapes.specs.Shapes.{export_shapes, import_shapes, parts_of, takes_attributes}
use Rattle.form_shapes.specs.Sign.{has_sign_of, is_name, is_plain, is_punct}
use Rattle.form_shapes.specs.Source.{has_sign, inside, is_at, is_bracket, is_bracket_of, is_outside, mate_at, text_of}
use Rattle.form_shapes.specs.Standing.{export_at, import_at, standing_at}
use Rattle.form_shapes.specs.declared.form.Form.{Form}
use Rattle.form_shapes.specs.declared.part.Part.{Part}
use Rattle.form_shapes.specs.declared.part.Part.TheVariants.{Named, One}
use Rattle.form_shapes.specs.declared.part.Side.{Side}
use Rattle.form_shapes.specs.declared.part.Side.TheVariants as side
use Rattle.form_shapes.specs.declared.shape.Shape.{Shape}
use Rattle.form_shapes.specs.declared.shape.Shape.TheVariants as shape
use Rattle.form_shapes.specs.declared.sign.Sign.{Sign}
use Rattle.form_shapes.specs.declared.sign.Sign.TheVariants as sign
use Rattle.form_shapes.proofs.BegunLemmas.{begun}
use Rattle.form_shapes.proofs.SignLemmas.{HasNoKeyword, both, calm-at, calm-inside, calm-name, calm-sign, calm-token, comma-no_open, no-call, no-import, from-signs, is-at, name-no_open, punct-is, said, str-signs, that, token-here, token-within, word-no_open}

-- lists
token-at : {X : Type 0} (xs : List X) (k : ℕ) → k < length xs → (x : X) × (slice_get xs k ≡ Some x)
token-at [] k h = absurd (omega arith)
token-at (x ∷ xs) zero h = (x, refl)
token-at (x ∷ xs) (suc k) h = token-at xs k (omega arith)

module _ {X : Type 0} (P : X → Type 0) where
  all-at : (xs : List X) (n k : ℕ) (x : X) → AllByRecursion P (take n xs) → k < n → slice_get xs k ≡ Some x → P x
  all-at [] n k x all below here = cc
  all-at (y ∷ xs) zero k x all below here = absurd (omega arith)
  all-at (y ∷ xs) (suc n) zero x all below here = let same : y ≡ x = cc in subst P same all.0
  all-at (y ∷ xs) (suc n) (suc k) x all below here = all-at xs n k x all.1 (omega arith) here

  -- those of a front that begins behind others
  all-between : (xs : List X) (from n k : ℕ) (x : X) → AllByRecursion P (take n (drop from xs)) → from ≤ k → k < from + n → slice_get xs k ≡ Some x → P x
  all-between xs zero n k x all above below here = all-at xs n k x all (omega arith) here
  all-between [] (suc from) n k x all above below here = cc
  all-between (y ∷ xs) (suc from) n zero x all above below here = absurd (omega arith)
  all-between (y ∷ xs) (suc from) n (suc k) x all above below here = all-between xs from n k x all (omega arith) (omega arith) here

  -- all but the last, and the last
  all-but : (xs : List X) (n : ℕ) → length xs ≡ suc n → ((x : X) → slice_get xs n ≡ Some x → P x) → AllByRecursion P (take n xs) → AllByRecursion P xs
  all-but [] n long last all = tt
  all-but (x ∷ []) zero long last all = (last x refl, tt)
  all-but (x ∷ y ∷ xs) zero long last all = absurd (omega arith)
  all-but (x ∷ xs) (suc n) long last all = (all.0, all-but xs n (omega arith) last all.1)

  -- the parts between separators, and the separators
  put-first : (x : X) (parts : List (List X)) → AllByRecursion (AllByRecursion P) (onto_first x parts) → P x × AllByRecursion (AllByRecursion P) parts
  put-first x [] all = (all.0.0, tt)
  put-first x (part ∷ parts) all = (all.0.0, (all.0.1, all.1))

  all-split : (p : X → Bool) → ((x : X) → p x ≡ true → P x) → (xs : List X) → AllByRecursion (AllByRecursion P) (slice_split p xs) → AllByRecursion P xs
  all-split p so [] all = tt
  all-split p so (x ∷ xs) all = by (p x) refl (all-split p so xs) all
    where
      by : (b : Bool) → p x ≡ b → (AllByRecursion (AllByRecursion P) (slice_split p xs) → AllByRecursion P xs)
          → AllByRecursion (AllByRecursion P) (cond b ([] ∷ slice_split p xs) (onto_first x (slice_split p xs))) → AllByRecursion P (x ∷ xs)
      by true is more all = (so x is, more all.1)
      by false is more all = let parts = put-first x (slice_split p xs) all in (parts.0, more parts.1)

  all-passed : {Y : Type 0} (Q : Y → Type 0) (test : Y → Bool) → ((y : Y) → test y ≡ true → Q y) → (ys : List Y) → list_all test ys ≡ true → AllByRecursion Q ys
  all-passed Q test so [] h = tt
  all-passed Q test so (y ∷ ys) h = let parts = both (test y) (list_all test ys) h in (so y parts.0, all-passed Q test so ys parts.1)

either-not : (one two : Bool) → (one || two) ≡ false → (one ≡ false) × (two ≡ false)
either-not true two h = cc
either-not false two h = (refl, h)

all-failed : {X : Type 0} (P : X → Type 0) (test : X → Bool) → ((x : X) → test x ≡ false → P x) → (xs : List X) → list_any test xs ≡ false → AllByRecursion P xs
all-failed P test so [] h = tt
all-failed P test so (x ∷ xs) h = let parts = either-not (test x) (list_any test xs) h in (so x parts.0, all-failed P test so xs parts.1)

-- what a closing brace is not
record IsCalmCloser (of : TokenClass) (bytes : List ℕ) : Type 0 where
  none : HasNoKeyword of bytes
  no_open : has_sign_of sign.Open of bytes ≡ false

closer : (of : TokenClass) (bytes : List ℕ) → of ≡ class.Punct → bytes ≡ codes "}" → IsCalmCloser of bytes
unfolding has_sign_of
closer of bytes is e = said IsCalmCloser class.Punct of (codes "}") bytes (record { class_is = is; bytes_are = e })
    (record { none = record { imports = refl; exports = refl; requires = refl }; no_open = refl })

opener : (text : List ℕ) (token : Token) → has_sign text sign.Brace token ≡ true → IsPunctuator text token (codes "{")
unfolding has_sign_of
opener text token h = let is = that class.Punct token.class (codes "{") (text_of text token) (is_punct token.class) (punct-is token.class) h in (is.class_is, is.bytes_are)

first-not : (one two three four five six : Bool) → (one || two || three || four || five || six) ≡ false → one ≡ false
first-not true two three four five six h = cc
first-not false two three four five six h = refl

bracket-no_open : (of : TokenClass) (bytes : List ℕ) → is_bracket_of of bytes ≡ false → has_sign_of sign.Open of bytes ≡ false
unfolding has_sign_of
bracket-no_open class.Punct bytes h = first-not (bytes_eq bytes (codes "(")) (bytes_eq bytes (codes ")")) (bytes_eq bytes (codes "[")) (bytes_eq bytes (codes "]"))
    (bytes_eq bytes (codes "{")) (bytes_eq bytes (codes "}")) h
bracket-no_open class.Name bytes h = refl
bracket-no_open class.Keyword bytes h = refl
bracket-no_open class.PrivateName bytes h = refl
bracket-no_open class.Number bytes h = refl
bracket-no_open class.Str bytes h = refl
bracket-no_open class.Template bytes h = refl
bracket-no_open class.Head bytes h = refl
bracket-no_open class.Middle bytes h = refl
bracket-no_open class.Tail bytes h = refl
bracket-no_open class.Regex bytes h = refl

module _ (text : List ℕ) (tokens : List Token) where
  abbrev NoOpen : Token → Type 0
  NoOpen token = has_sign text sign.Open token ≡ false

  -- a specifier has names alone
  left-no_open : (declared : Side) (token : Token) → has_sign text (left_sign declared) token ≡ true → NoOpen token
  unfolding has_sign_of
  left-no_open side.Left token h = name-no_open token.class (text_of text token) (both (is_name token.class) (is_plain (text_of text token)) h).0
  left-no_open side.Right token h = word-no_open token.class (text_of text token) h
  left-no_open side.Neither token h = word-no_open token.class (text_of text token) h

  right-no_open : (declared : Side) (token : Token) → has_sign text (right_sign declared) token ≡ true → NoOpen token
  unfolding has_sign_of
  right-no_open side.Left token h = word-no_open token.class (text_of text token) h
  right-no_open side.Right token h = name-no_open token.class (text_of text token) (both (is_name token.class) (is_plain (text_of text token)) h).0
  right-no_open side.Neither token h = word-no_open token.class (text_of text token) h

  as-no_open : (token : Token) → has_sign text sign.As token ≡ true → NoOpen token
  unfolding has_sign_of
  as-no_open token h = name-no_open token.class (text_of text token) (both (is_name token.class) (bytes_eq (text_of text token) (codes "as")) h).0

  names-alone : (declared : Side) (part : List Token) → is_specifier text declared part ≡ true → AllByRecursion NoOpen part
  names-alone declared [] h = cc
  names-alone declared (name ∷ []) h = (left-no_open declared name (both (has_sign text (left_sign declared) name) _ h).0, tt)
  names-alone declared (left ∷ word ∷ []) h = cc
  names-alone declared (left ∷ word ∷ right ∷ []) h =
      let parts = both (has_sign text (left_sign declared) left) _ h in
      let more = both (has_sign text sign.As word) _ parts.1 in
      (left-no_open declared left parts.0, (as-no_open word more.0, (right-no_open declared right more.1, tt)))
  names-alone declared (left ∷ word ∷ right ∷ other ∷ rest) h = cc

  comma-here : (token : Token) → has_sign text sign.Comma token ≡ true → NoOpen token
  comma-here token h = comma-no_open token.class (text_of text token) h

  without-comma : (xs : List Token) → AllByRecursion NoOpen (without_comma text xs) → AllByRecursion NoOpen xs
  without-comma [] all = tt
  without-comma (x ∷ xs) all = by (ends_with_comma text (x ∷ xs)) refl all
    where
      last : (test : Token → Bool) (some : Option Token) → option_map_or test some false ≡ true → (token : Token) → some ≡ Some token → test token ≡ true
      last test None h token e = cc
      last test (Some found) h token e = let same : found ≡ token = cc in subst (λ t. test t ≡ true) same h

      by : (b : Bool) → ends_with_comma text (x ∷ xs) ≡ b → AllByRecursion NoOpen (cond b (take (length (x ∷ xs) - 1) (x ∷ xs)) (x ∷ xs)) → AllByRecursion NoOpen (x ∷ xs)
      by false is all = all
      by true is all = all-but NoOpen (x ∷ xs) (length (x ∷ xs) - 1) (omega arith)
          (λ token here. comma-here token (last (has_sign text sign.Comma) (slice_get (x ∷ xs) (length (x ∷ xs) - 1)) is token here)) all

  all-separated : (declared : Side) (xs : List Token) → list_all (is_specifier text declared) (separated text xs) ≡ true → AllByRecursion NoOpen xs
  all-separated declared [] h = tt
  all-separated declared (x ∷ xs) h =
      let some : (length (x ∷ xs) == 0) ≡ false = ne_eqb (length (x ∷ xs)) 0 (λ e. omega arith) in
      let split : list_all (is_specifier text declared) (slice_split (has_sign text sign.Comma) (without_comma text (x ∷ xs))) ≡ true =
      subst (λ b. list_all (is_specifier text declared) (cond b [] (slice_split (has_sign text sign.Comma) (without_comma text (x ∷ xs)))) ≡ true) some h in
      without-comma (x ∷ xs) (all-split NoOpen (has_sign text sign.Comma) comma-here (without_comma text (x ∷ xs))
      (all-passed NoOpen (AllByRecursion NoOpen) (is_specifier text declared) (names-alone declared) (slice_split (has_sign text sign.Comma) (without_comma text (x ∷ xs))) split))

  inside-closed : (at : ℕ) → AllByRecursion NoOpen (inside tokens at) → at < mate_at tokens at → (k : ℕ) (token : Token) → at < k → k < mate_at tokens at → slice_get tokens k ≡ Some token
      → is_at text tokens sign.Open k ≡ false
  inside-closed at all order k token above below here =
      is-at text tokens sign.Open k token false here (all-between NoOpen tokens (at + 1) (mate_at tokens at - (at + 1)) k token all (omega arith) (omega arith) here)

  -- numbers of tokens at which no form begins
  abbrev Calm : ℕ → ℕ → Type 0
  Calm from end = AreWithoutForms text tokens from end

  none-yet : (at : ℕ) → at ≤ length tokens → Calm at at
  none-yet at within = record { order = omega arith; within = within; none = λ k above below. absurd (omega arith) }

  join : (from middle end : ℕ) → Calm from middle → Calm middle end → Calm from end
  join from middle end first second = record {
    order = omega (arith, first.order, second.order);
    within = second.within;
    none = λ k above below. elim (cases_lt k middle) [ inl less ↦ first.none k above less | inr more ↦ second.none k more below ];
  }

  one-more : (at end : ℕ) → begun_at text tokens at ≡ None → Calm (at + 1) end → Calm at end
  one-more at end none more = record {
    order = omega (arith, more.order);
    within = more.within;
    none = λ k above below. elim (cases_eq k at) [ inl same ↦ rw same none | inr other ↦ more.none k (omega (arith, above, other)) below ];
  }

  module _ (closed : (at : ℕ) (brace : Token) → slice_get tokens at ≡ Some brace → IsPunctuator text brace (codes "{") → IsClosedBrace text tokens at brace)
      (nested : AreNested tokens) where
    -- a brace and its mate
    record IsBrace (at : ℕ) : Type 0 where
      first : Token
      here : slice_get tokens at ≡ Some first
      mate_is : mate_at tokens at ≡ first.mate
      order : at < mate_at tokens at
      last : Token
      there : slice_get tokens (mate_at tokens at) ≡ Some last
      calm : IsCalmCloser last.class (text_of text last)

    brace : (at : ℕ) → is_at text tokens sign.Brace at ≡ true → IsBrace at
    brace at is =
        let t = token-here text tokens sign.Brace at is in
        let mate_is : mate_at tokens at ≡ t.token.mate = ap (λ some. option_map_or (λ (token : Token). token.mate) some 0) t.here in
        let c = closed at t.token t.here (opener text t.token t.has) in
        record {
          first = t.token;
          here = t.here;
          mate_is = mate_is;
          order = rw mate_is c.behind;
          last = c.last;
          there = ap (slice_get tokens) mate_is ∙ c.there;
          calm = closer c.last.class (text_of text c.last) c.closes.0 c.closes.1;
        }

    -- what stands in braces is deeper
    deeper : (at : ℕ) (b : IsBrace at) (k : ℕ) (token : Token) → slice_get tokens k ≡ Some token → at < k → k < mate_at tokens at → is_outside tokens k ≡ false
    deeper at b k token here above below =
        let enclosed = (nested at b.first b.here (omega (arith, b.mate_is, b.order))).between k token here above (omega (arith, b.mate_is, below)) in
        ap (λ some. option_map_or (λ (t : Token). t.depth == 0) some false) here ∙ ne_eqb token.depth 0 (λ e. omega (arith, e, enclosed.deeper))

    in-braces : (at : ℕ) → is_at text tokens sign.Brace at ≡ true → AllByRecursion NoOpen (inside tokens at) → Calm at (mate_at tokens at + 1)
    in-braces at is all =
        let b = brace at is in
        let within = slice_get_within tokens (mate_at tokens at) b.last b.there in
        record {
          order = omega (arith, b.order);
          within = omega (arith, within);
          none = λ k above below. elim (cases_eq k at) [
            | inl same ↦ rw same (calm-sign text tokens at sign.Brace refl is)
            | inr other ↦ elim (cases_lt k (mate_at tokens at)) [
              | inl less ↦ between b within k (omega (arith, above, other)) less
              | inr more ↦ let same : k ≡ mate_at tokens at = omega (arith, more, below) in rw same (calm-token text tokens (mate_at tokens at) b.last b.there b.calm.none)
            ]
          ];
        }
      where
        no-open : (b : IsBrace at) → mate_at tokens at < length tokens → (k : ℕ) → at < k → k ≤ mate_at tokens at
            → is_at text tokens sign.Open k ≡ false
        no-open b within k above below = elim (cases_lt k (mate_at tokens at)) [
          | inl less ↦ let t = token-at tokens k (omega (arith, less, within)) in inside-closed at all b.order k t.0 above less t.1
          | inr more ↦ let same : k ≡ mate_at tokens at = omega (arith, more, below) in rw same (is-at text tokens sign.Open (mate_at tokens at) b.last false b.there b.calm.no_open)
        ]

        between : (b : IsBrace at) → mate_at tokens at < length tokens → (k : ℕ) → at < k → k < mate_at tokens at
            → begun_at text tokens k ≡ None
        between b within k above below =
            let t = token-at tokens k (omega (arith, below, within)) in
            calm-inside text tokens k (deeper at b k t.0 t.1 above below) (no-open b within (k + 1) (omega (arith, above)) (omega (arith, below)))

    -- parts over which no form begins
    Covers : List Part → Type 0
    Covers parts = (at end : ℕ) → at ≤ length tokens → behind_all text tokens parts at ≡ Some end → Calm at end

    nothing : Covers []
    unfolding Covers
    nothing at end within h = let same : at ≡ end = cc in subst (Calm at) same (none-yet at within)

    one : (s : Sign) (parts : List Part)
        → ((at end : ℕ) → is_at text tokens s at ≡ true → behind_all text tokens parts (at + 1) ≡ Some end → begun_at text tokens at ≡ None)
        → Covers parts → Covers (One s ∷ parts)
    unfolding Covers behind
    one s parts calm more at end within h = by (is_at text tokens s at) refl h
      where
        by : (b : Bool) → is_at text tokens s at ≡ b → option_and_then (behind_all text tokens parts) (cond b (Some (at + 1)) None) ≡ Some end → Calm at end
        by false is h = cc
        by true is h =
            let below = token-within text tokens s at is in
            one-more at end (calm at end is h) (more (at + 1) end (omega (arith, below)) h)

    quiet : (s : Sign) (parts : List Part) → begins_none s ≡ true → Covers parts → Covers (One s ∷ parts)
    quiet s parts none more = one s parts (λ at end is h. calm-sign text tokens at s none is) more

    -- the first of some parts is there
    first-there : (s : Sign) (parts : List Part) (at end : ℕ) → behind_all text tokens (One s ∷ parts) at ≡ Some end
        → (is_at text tokens s at ≡ true) × (behind_all text tokens parts (at + 1) ≡ Some end)
    unfolding behind
    first-there s parts at end h = by (is_at text tokens s at) refl h
      where
        by : (b : Bool) → is_at text tokens s at ≡ b → option_and_then (behind_all text tokens parts) (cond b (Some (at + 1)) None) ≡ Some end
            → (is_at text tokens s at ≡ true) × (behind_all text tokens parts (at + 1) ≡ Some end)
        by false is h = cc
        by true is h = (is, h)

    name : (s : Sign) (parts : List Part) → ((of : TokenClass) (bytes : List ℕ) → has_sign_of s of bytes ≡ true → has_sign_of sign.Open of bytes ≡ false)
        → Covers (One s ∷ parts) → Covers (One sign.Name ∷ One s ∷ parts)
    name s parts closed more = one sign.Name (One s ∷ parts) (λ at end is h.
        let next = first-there s parts (at + 1) end h in
        let t = token-here text tokens s (at + 1) next.0 in
        calm-name text tokens at is (is-at text tokens sign.Open (at + 1) t.token false t.here (closed t.token.class (text_of text t.token) t.has))) more

    from-closed : (of : TokenClass) (bytes : List ℕ) → has_sign_of sign.From of bytes ≡ true → has_sign_of sign.Open of bytes ≡ false
    unfolding has_sign_of
    from-closed of bytes h = from-signs of bytes h sign.Open ∙ refl

    -- before `from` and a string no keyword begins a form
    module _ (at : ℕ) (is_from : is_at text tokens sign.From (at + 1) ≡ true) (is_str : is_at text tokens sign.Str (at + 1 + 1) ≡ true) where
      from_is : (s : Sign) → is_at text tokens s (at + 1) ≡ has_sign_of s class.Name (codes "from")
      from_is s = let t = token-here text tokens sign.From (at + 1) is_from in
          is-at text tokens s (at + 1) t.token (has_sign_of s class.Name (codes "from")) t.here (from-signs t.token.class (text_of text t.token) t.has s)

      str_is : (s : Sign) → ((bytes : List ℕ) → has_sign_of s class.Str bytes ≡ false) → is_at text tokens s (at + 1 + 1) ≡ false
      str_is s none = let t = token-here text tokens sign.Str (at + 1 + 1) is_str in
          is-at text tokens s (at + 1 + 1) t.token false t.here (str-signs t.token.class (text_of text t.token) t.has s ∙ none (text_of text t.token))

      imports-by : (outside : Bool) → is_outside tokens at ≡ outside → form_in (import_at text tokens at) ≡ None
      unfolding import_at import_shapes form_at parts_of behind has_sign_of
      imports-by true o = rw (o, from_is sign.Str, from_is sign.Star, from_is sign.Brace, from_is sign.Open, from_is sign.Name, str_is sign.From (λ b. refl), str_is sign.Comma (λ b. refl)) refl
      imports-by false o = rw (o, from_is sign.Open) (no-import text tokens at false (is_at text tokens sign.Period (at + 1)))

      exports-by : (outside : Bool) → is_outside tokens at ≡ outside → form_in (export_at text tokens at) ≡ None
      unfolding export_at export_shapes form_at parts_of behind has_sign_of
      exports-by true o = rw (o, from_is sign.Star, from_is sign.Brace, from_is sign.Default, from_is sign.Var, from_is sign.Let, from_is sign.Const, from_is sign.Function, from_is sign.Async, from_is sign.Class) refl
      exports-by false o = rw o refl

      before-from : begun_at text tokens at ≡ None
      unfolding has_sign_of
      before-from = calm-at text tokens at (λ h. imports-by (is_outside tokens at) refl) (λ h. exports-by (is_outside tokens at) refl)
          (λ h. no-call text tokens at (from_is sign.Open))

    -- an export's name may be a keyword
    id-name : (parts : List Part) → Covers (One sign.From ∷ One sign.Str ∷ parts) → Covers (One sign.IdName ∷ One sign.From ∷ One sign.Str ∷ parts)
    id-name parts more = one sign.IdName (One sign.From ∷ One sign.Str ∷ parts) (λ at end is h.
        let next = first-there sign.From (One sign.Str ∷ parts) (at + 1) end h in
        let last = first-there sign.Str parts (at + 1 + 1) end next.1 in
        before-from at next.0 last.0) more

    named : (declared : Side) (parts : List Part) → Covers parts → Covers (Named declared ∷ parts)
    unfolding Covers behind
    named declared parts more at end within h = by (is_at text tokens sign.Brace at) (list_all (is_specifier text declared) (specifiers text tokens at)) refl refl h
      where
        by : (brace names : Bool) → is_at text tokens sign.Brace at ≡ brace → list_all (is_specifier text declared) (specifiers text tokens at) ≡ names
            → option_and_then (behind_all text tokens parts) (cond (brace && names) (Some (mate_at tokens at + 1)) None) ≡ Some end → Calm at end
        by false names is all h = cc
        by true false is all h = cc
        by true true is all h =
            let front = in-braces at is (all-separated declared (inside tokens at) all) in
            join at (mate_at tokens at + 1) end front (more (mate_at tokens at + 1) end front.within h)

    -- attributes have no bracket in their braces
    attributes : (at : ℕ) → at ≤ length tokens → Calm at (behind_attributes text tokens at)
    unfolding behind_attributes
    attributes at within = by (is_at text tokens sign.With at) (is_at text tokens sign.Brace (at + 1)) (list_any (is_bracket text) (inside tokens (at + 1))) refl refl refl
      where
        by : (with brace bracket : Bool) → is_at text tokens sign.With at ≡ with → is_at text tokens sign.Brace (at + 1) ≡ brace
            → list_any (is_bracket text) (inside tokens (at + 1)) ≡ bracket → Calm at (cond (with && (brace && not bracket)) (mate_at tokens (at + 1) + 1) at)
        by false brace bracket w b a = none-yet at within
        by true false bracket w b a = none-yet at within
        by true true true w b a = none-yet at within
        by true true false w b a =
            one-more at (mate_at tokens (at + 1) + 1) (calm-sign text tokens at sign.With refl w)
            (in-braces (at + 1) b (all-failed NoOpen (is_bracket text) (λ token none. bracket-no_open token.class (text_of text token) none) (inside tokens (at + 1)) a))

    -- the rows of the table
    string : (parts : List Part) → Covers parts → Covers (One sign.Str ∷ parts)
    string parts more = quiet sign.Str parts refl more

    from : (parts : List Part) → Covers parts → Covers (One sign.From ∷ parts)
    from parts more = quiet sign.From parts refl more

    from-string : Covers (One sign.From ∷ One sign.Str ∷ [])
    from-string = from (One sign.Str ∷ []) (string [] nothing)

    space : Covers (One sign.Star ∷ One sign.As ∷ One sign.Name ∷ One sign.From ∷ One sign.Str ∷ [])
    space = quiet sign.Star _ refl (quiet sign.As _ refl (name sign.From _ from-closed from-string))

    names-from : (declared : Side) → Covers (Named declared ∷ One sign.From ∷ One sign.Str ∷ [])
    names-from declared = named declared _ from-string

    before-comma : (parts : List Part) → Covers parts → Covers (One sign.Name ∷ One sign.Comma ∷ parts)
    before-comma parts more = name sign.Comma parts comma-no_open (quiet sign.Comma parts refl more)

    covers : (s : Shape) → stands_alone s ≡ true → Covers (parts_of s)
    unfolding parts_of
    covers shape.BareImport alone = string [] nothing
    covers shape.DefaultImport alone = name sign.From _ from-closed from-string
    covers shape.SpaceImport alone = space
    covers shape.NamesImport alone = names-from side.Right
    covers shape.DefaultSpaceImport alone = before-comma _ space
    covers shape.DefaultNamesImport alone = before-comma _ (names-from side.Right)
    covers shape.Call alone = quiet sign.Open _ refl (string _ (quiet sign.Close _ refl nothing))
    covers shape.CommaCall alone = quiet sign.Open _ refl (string _ (quiet sign.Comma _ refl (quiet sign.Close _ refl nothing)))
    covers shape.StarExport alone = quiet sign.Star _ refl from-string
    covers shape.SpaceExport alone = quiet sign.Star _ refl (quiet sign.As _ refl (id-name [] from-string))
    covers shape.NamesFromExport alone = names-from side.Neither
    covers shape.NamesExport alone = named side.Left [] nothing
    covers shape.DefaultExport alone = quiet sign.Default _ refl nothing
    covers shape.VarExport alone = cc
    covers shape.LetExport alone = cc
    covers shape.ConstExport alone = cc
    covers shape.FunctionExport alone = cc
    covers shape.GeneratorExport alone = cc
    covers shape.AsyncFunctionExport alone = cc
    covers shape.AsyncGeneratorExport alone = cc
    covers shape.ClassExport alone = cc

    with-attributes : (takes : Bool) (from parts : ℕ) → Calm from parts → Calm from (cond takes (behind_attributes text tokens parts) parts)
    with-attributes false from parts front = front
    with-attributes true from parts front = join from parts (behind_attributes text tokens parts) front (attributes parts front.within)

    pub apart : (at : ℕ) (form : Form) → begun_at text tokens at ≡ Some form → is_alone (standing_at text tokens at) ≡ true → Calm (at + 1) form.end
    unfolding Covers
    apart at form e alone =
        let b = begun text tokens at form e in
        let front = covers form.shape (b.alone alone) (at + 1) form.parts (omega (arith, b.there)) b.behind in
        rw b.end_is (with-attributes (takes_attributes form.shape) (at + 1) form.parts front)
