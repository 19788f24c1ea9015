-- The edits of a scan lie in the text, in order and disjoint.
use Rattle.std.proofs.Common.{◌≡◌, ◌<◌, ◌≤◌, ◌+◌, ◌-◌, ℕ, suc, zero, Bool, true, false, not, cond, List, [], ◌∷◌, ◌++◌, Option, None, Some, length, refl, ap, subst, ◌∙◌, arith, append-nil, append_assoc, inl, inr}
use Rattle.std.specs.Prelude.{◌&&◌, codes, option_and_then, slice_get}
use Rattle.std.specs.Option.{option_map_or}
use Rattle.std.proofs.lemmas.Bool.{cases_eq, cases_lt}
use Rattle.std.proofs.lemmas.Option.{slice_get_within}
use Rattle.es_tokens.specs.Spans.{AreInOrder, EachBehind}
use Rattle.es_tokens.specs.declared.token.Token.{Token}
use Rattle.form_shapes.specs.Apart.{AreWithoutForms, begins_none, begun_at, form_in, is_alone, stands_alone}
use Rattle.form_shapes.specs.Forms.{behind, behind_all}
use Rattle.form_shapes.specs.Shapes.{parts_of}
use Rattle.form_shapes.specs.Source.{end_at, has_sign, is_at, start_at}
use Rattle.form_shapes.specs.Standing.{standing_at}
use Rattle.form_shapes.specs.declared.form.Form.{Form}
use Rattle.form_shapes.specs.declared.shape.Shape.{Shape}
use Rattle.form_shapes.specs.declared.shape.Shape.TheVariants as shape
use Rattle.form_shapes.specs.declared.sign.Sign.{Sign}
use Rattle.form_shapes.specs.declared.sign.Sign.TheVariants as sign
use Rattle.form_shapes.specs.declared.standing.Standing.{Standing}
use Rattle.form_shapes.specs.declared.standing.Standing.TheVariants.{Nothing, Declaration, ImportCall, RequireCall, BadForm, OddImport, OddRequire}
use Rattle.graph_types.specs.Whole.{LieInOrder}
use Rattle.graph_types.specs.declared.edit.Edit.{Edit}
use Rattle.magic_comments.specs.declared.magic.Magic.{Magic}
use Rattle.es_scan.specs.Default.{behind_star, default_at, is_on_new_line, named_or}
use Rattle.es_scan.specs.Edits.{call_edit, default_edits_by, edits_by, fixed, is_default, is_removed, place_behind}
use Rattle.es_scan.specs.Items.{span_of}
use Rattle.es_scan.specs.Scan.{edits_at, item_number, magic_at, upto}
use Rattle.es_scan.specs.declared.default.Default.{Default}
use Rattle.es_scan.specs.declared.default.Default.TheVariants.{Expression, Named, Unnamed}

-- edits one after another
from-before : (from less size : ℕ) (edits : List Edit) → less ≤ from → LieInOrder from size edits → LieInOrder less size edits
from-before from less size [] before lie = tt
from-before from less size (edit ∷ edits) before lie = (omega (arith, lie.0), lie.1, lie.2, lie.3)

to-behind : (from size more : ℕ) (edits : List Edit) → size ≤ more → LieInOrder from size edits → LieInOrder from more edits
to-behind from size more [] behind lie = tt
to-behind from size more (edit ∷ edits) behind lie = (lie.0, lie.1, omega (arith, lie.2), to-behind edit.span.end size more edits behind lie.3)

then : (from middle size : ℕ) (edits more : List Edit) → from ≤ middle → middle ≤ size → LieInOrder from middle edits → LieInOrder middle size more
    → LieInOrder from size (edits ++ more)
then from middle size [] more before behind first second = from-before middle from size more before second
then from middle size (edit ∷ edits) more before behind first second =
    (first.0, first.1, omega (arith, first.2), then edit.span.end middle size edits more first.2 behind first.3 second)

-- where tokens stand
record StandsIn (from size start end : ℕ) : Type 0 where
  behind : from ≤ start
  some : start < end
  within : end ≤ size

module _ (text : List ℕ) where
  abbrev InOrder : ℕ → List Token → Type 0
  InOrder from some = EachBehind (λ from token. (from ≤ token.span.start) × (token.span.start < token.span.end)) (λ from. from ≤ length text) from some

  within : (from : ℕ) (some : List Token) → InOrder from some → from ≤ length text
  within from [] lie = lie
  within from (token ∷ some) lie = omega (arith, lie.0.0, lie.0.1, within token.span.end some lie.1)

  stands : (from : ℕ) (some : List Token) → InOrder from some → (k : ℕ) → k < length some → StandsIn from (length text) (start_at some k) (end_at some k)
  stands from [] lie k there = absurd (omega arith)
  stands from (token ∷ some) lie zero there = record { behind = lie.0.0; some = lie.0.1; within = within token.span.end some lie.1 }
  stands from (token ∷ some) lie (suc k) there =
      let s = stands token.span.end some lie.1 k (omega arith) in
      record { behind = omega (arith, lie.0.0, lie.0.1, s.behind); some = s.some; within = s.within }

  later : (from : ℕ) (some : List Token) → InOrder from some → (j k : ℕ) → j < k → k < length some → end_at some j ≤ start_at some k
  later from [] lie j k order there = absurd (omega arith)
  later from (token ∷ some) lie j zero order there = absurd (omega arith)
  later from (token ∷ some) lie zero (suc k) order there = (stands token.span.end some lie.1 k (omega arith)).behind
  later from (token ∷ some) lie (suc j) (suc k) order there = later token.span.end some lie.1 j k (omega arith) (omega arith)

-- which forms stand alone
removed-alone : (s : Shape) → is_removed s ≡ true → stands_alone s ≡ true
removed-alone shape.BareImport h = refl
removed-alone shape.DefaultImport h = refl
removed-alone shape.SpaceImport h = refl
removed-alone shape.NamesImport h = refl
removed-alone shape.DefaultSpaceImport h = refl
removed-alone shape.DefaultNamesImport h = refl
removed-alone shape.StarExport h = refl
removed-alone shape.SpaceExport h = refl
removed-alone shape.NamesFromExport h = refl
removed-alone shape.NamesExport h = refl
removed-alone shape.Call h = cc
removed-alone shape.CommaCall h = cc
removed-alone shape.DefaultExport h = cc
removed-alone shape.VarExport h = cc
removed-alone shape.LetExport h = cc
removed-alone shape.ConstExport h = cc
removed-alone shape.FunctionExport h = cc
removed-alone shape.GeneratorExport h = cc
removed-alone shape.AsyncFunctionExport h = cc
removed-alone shape.AsyncGeneratorExport h = cc
removed-alone shape.ClassExport h = cc

default-is : (s : Shape) → is_default s ≡ true → s ≡ shape.DefaultExport
default-is shape.DefaultExport h = refl
default-is shape.BareImport h = cc
default-is shape.DefaultImport h = cc
default-is shape.SpaceImport h = cc
default-is shape.NamesImport h = cc
default-is shape.DefaultSpaceImport h = cc
default-is shape.DefaultNamesImport h = cc
default-is shape.Call h = cc
default-is shape.CommaCall h = cc
default-is shape.StarExport h = cc
default-is shape.SpaceExport h = cc
default-is shape.NamesFromExport h = cc
default-is shape.NamesExport h = cc
default-is shape.VarExport h = cc
default-is shape.LetExport h = cc
default-is shape.ConstExport h = cc
default-is shape.FunctionExport h = cc
default-is shape.GeneratorExport h = cc
default-is shape.AsyncFunctionExport h = cc
default-is shape.AsyncGeneratorExport h = cc
default-is shape.ClassExport h = cc

-- what is known of the tokens of a text and of the forms at them
pub record AreKnown (text : List ℕ) (tokens : List Token) : Type 0 where
  pub order : AreInOrder text tokens
  pub there : (at : ℕ) (form : Form) → begun_at text tokens at ≡ Some form → at < length tokens
  pub parts : (at : ℕ) (form : Form) → begun_at text tokens at ≡ Some form → behind_all text tokens (parts_of form.shape) (at + 1) ≡ Some form.parts
  pub words : (at : ℕ) (s : Sign) → begins_none s ≡ true → is_at text tokens s at ≡ true → begun_at text tokens at ≡ None
  pub apart : (at : ℕ) (form : Form) → begun_at text tokens at ≡ Some form → is_alone (standing_at text tokens at) ≡ true → AreWithoutForms text tokens (at + 1) form.end

module _ (text : List ℕ) (tokens : List Token) (known : AreKnown text tokens) where
  start-before : (at : ℕ) (end : ℕ) → at < end → end ≤ length tokens → start_at tokens at ≤ end_at tokens (end - 1)
  start-before at end order there = elim (cases_eq at (end - 1)) [
    | inl same ↦ let s = stands text 0 tokens known.order (end - 1) (omega arith) in rw same (omega (arith, s.some))
    | inr other ↦ let s = stands text 0 tokens known.order (end - 1) (omega arith) in
        let t = stands text 0 tokens known.order at (omega arith) in
        let l = later text 0 tokens known.order at (end - 1) (omega (arith, other)) (omega arith) in omega (arith, s.some, t.some, l)
  ]

  -- no form, no edit
  none-by : (item at : ℕ) (magic : Magic) (standing : Standing) → form_in standing ≡ None → edits_by text tokens item at magic standing ≡ []
  unfolding edits_by
  none-by item at magic Nothing h = refl
  none-by item at magic (Declaration form) h = cc
  none-by item at magic (ImportCall form) h = cc
  none-by item at magic (RequireCall form) h = cc
  none-by item at magic BadForm h = refl
  none-by item at magic OddImport h = refl
  none-by item at magic OddRequire h = refl

  no-edit : (at : ℕ) → begun_at text tokens at ≡ None → edits_at text tokens at ≡ []
  unfolding edits_at
  no-edit at h = none-by (item_number text tokens at) at (magic_at text tokens at) (standing_at text tokens at) h

  -- tokens that begin no form
  record AreQuiet (from end : ℕ) : Type 0 where
    within : end ≤ length tokens
    none : (at : ℕ) → from ≤ at → at < end → begun_at text tokens at ≡ None

  is-within : (s : Sign) (at : ℕ) → is_at text tokens s at ≡ true → at < length tokens
  is-within s at h = by (slice_get tokens at) refl h
    where
      by : (some : Option Token) → slice_get tokens at ≡ some → option_map_or (has_sign text s) some false ≡ true → at < length tokens
      by None e h = cc
      by (Some token) e h = slice_get_within tokens at token e

  quiet : (s : Sign) (at : ℕ) → begins_none s ≡ true → is_at text tokens s at ≡ true → AreQuiet at (at + 1)
  quiet s at none is = record {
    within = omega (arith, is-within s at is);
    none = λ k above below. let same : k ≡ at = omega (arith, above, below) in rw same (known.words at s none is);
  }

  both-quiet : (from middle end : ℕ) → AreQuiet from middle → AreQuiet middle end → AreQuiet from end
  both-quiet from middle end first second = record {
    within = second.within;
    none = λ k above below. elim (cases_lt k middle) [ inl less ↦ first.none k above less | inr more ↦ second.none k more below ];
  }

  -- the words of a default export without a name
  record EndsAt (from last : ℕ) : Type 0 where
    order : from ≤ last
    quiet_to : AreQuiet from (last + 1)

  unnamed : (at last : ℕ) → named_or text tokens at ≡ Unnamed last → at ≡ last
  unnamed at last h = by (is_at text tokens sign.Name (at + 1)) h
    where
      by : (b : Bool) → cond b (Named (at + 1)) (Unnamed at) ≡ Unnamed last → at ≡ last
      by true h = cc
      by false h = cc

  star : (s : Sign) (at last : ℕ) → begins_none s ≡ true → is_at text tokens s at ≡ true → named_or text tokens (behind_star text tokens at) ≡ Unnamed last → EndsAt at last
  star s at last none is h = by (is_at text tokens sign.Star (at + 1)) refl h
    where
      by : (b : Bool) → is_at text tokens sign.Star (at + 1) ≡ b → named_or text tokens (cond b (at + 1) at) ≡ Unnamed last → EndsAt at last
      by true e h = let same : at + 1 ≡ last = unnamed (at + 1) last h in
          subst (EndsAt at) same (record { order = omega arith; quiet_to = both-quiet at (at + 1) (at + 1 + 1) (quiet s at none is) (quiet sign.Star (at + 1) refl e) })
      by false e h = let same : at ≡ last = unnamed at last h in subst (EndsAt at) same (record { order = omega arith; quiet_to = quiet s at none is })

  default-ends : (at last : ℕ) → default_at text tokens at ≡ Unnamed last → EndsAt at last
  unfolding default_at
  default-ends at last h = by (is_at text tokens sign.Function at) (is_at text tokens sign.Class at) (is_at text tokens sign.Async at) (is_at text tokens sign.Function (at + 1))
      (is_on_new_line tokens (at + 1)) refl refl refl refl h
    where
      by : (function class async next line : Bool) → is_at text tokens sign.Function at ≡ function → is_at text tokens sign.Class at ≡ class
          → is_at text tokens sign.Async at ≡ async → is_at text tokens sign.Function (at + 1) ≡ next
          → cond function (named_or text tokens (behind_star text tokens at)) (cond class (named_or text tokens at)
          (cond (async && (next && not line)) (named_or text tokens (behind_star text tokens (at + 1))) Expression)) ≡ Unnamed last → EndsAt at last
      by true class async next line f c a n h = star sign.Function at last refl f h
      by false true async next line f c a n h = let same : at ≡ last = unnamed at last h in subst (EndsAt at) same (record { order = omega arith; quiet_to = quiet sign.Class at refl c })
      by false false false next line f c a n h = cc
      by false false true false line f c a n h = cc
      by false false true true true f c a n h = cc
      by false false true true false f c a n h =
          let rest = star sign.Function (at + 1) last refl n h in
          record { order = omega (arith, rest.order); quiet_to = both-quiet at (at + 1) (last + 1) (quiet sign.Async at refl a) rest.quiet_to }

  -- what a token gives, and how far
  record Reaches (at : ℕ) (edits : List Edit) : Type 0 where
    end : ℕ
    some : at < end
    within : end ≤ length tokens
    lie : LieInOrder (start_at tokens at) (end_at tokens (end - 1)) edits
    none : (k : ℕ) → at < k → k < end → begun_at text tokens k ≡ None

  nothing : (at : ℕ) → at < length tokens → Reaches at []
  nothing at there = record { end = at + 1; some = omega arith; within = omega (arith, there); lie = tt; none = λ k above below. absurd (omega arith) }

  -- one edit from a token to the last before another
  one-edit : (at end : ℕ) (edit : Edit) → edit.span ≡ span_of tokens at end → at < end → end ≤ length tokens → ((k : ℕ) → at < k → k < end → begun_at text tokens k ≡ None)
      → Reaches at (edit ∷ [])
  one-edit at end edit span order there none =
      let start : edit.span.start ≡ start_at tokens at = ap (λ s. s.start) span in
      let stop : edit.span.end ≡ end_at tokens (end - 1) = ap (λ s. s.end) span in
      let before = start-before at end order there in
      record {
        end = end;
        some = order;
        within = there;
        lie = (omega (arith, start), omega (arith, start, stop, before), omega (arith, stop), tt);
        none = none;
      }

  alone-edit : (at : ℕ) (form : Form) (edit : Edit) → edit.span ≡ span_of tokens at form.end → begun_at text tokens at ≡ Some form
      → is_alone (standing_at text tokens at) ≡ true → Reaches at (edit ∷ [])
  alone-edit at form edit span begun alone =
      let apart = known.apart at form begun alone in
      one-edit at form.end edit span (omega (arith, apart.order)) apart.within (λ k above below. apart.none k (omega (arith, above)) below)

  two-edits : (at last : ℕ) → at + 1 < length tokens → begun_at text tokens (at + 1) ≡ None → EndsAt (at + 2) last
      → Reaches at (fixed (span_of tokens at (at + 2)) (codes "") ∷ fixed (place_behind tokens last) (codes " __cp_default") ∷ [])
  two-edits at last there quiet_next ends =
      let within_last = ends.quiet_to.within in
      let before = start-before at (at + 2) (omega arith) (omega (arith, there)) in
      let l = later text 0 tokens known.order (at + 2 - 1) last (omega (arith, ends.order)) (omega (arith, within_last)) in
      let s = stands text 0 tokens known.order last (omega (arith, within_last)) in
      let e : last + 1 - 1 ≡ last = omega arith in
      let stop : end_at tokens (last + 1 - 1) ≡ end_at tokens last = ap (end_at tokens) e in
      record {
        end = last + 1;
        some = omega (arith, ends.order);
        within = within_last;
        lie = (omega arith, before, omega (arith, l, s.some, stop), (omega (arith, l, s.some), omega arith, omega (arith, stop), tt));
        none = λ k above below. elim (cases_eq k (at + 1)) [ inl same ↦ rw same quiet_next | inr other ↦ ends.quiet_to.none k (omega (arith, above, other)) below ];
      }

  default-edits : (at : ℕ) (default : Default) → default_at text tokens (at + 2) ≡ default → at + 1 < length tokens → begun_at text tokens (at + 1) ≡ None
      → Reaches at (default_edits_by tokens at default)
  default-edits at Expression is there quiet_next = one-edit at (at + 2) (fixed (span_of tokens at (at + 2)) (codes "const __cp_default=")) refl (omega arith) (omega (arith, there))
      (λ k above below. let same : k ≡ at + 1 = omega (arith, above, below) in rw same quiet_next)
  default-edits at (Named name) is there quiet_next = one-edit at (at + 2) (fixed (span_of tokens at (at + 2)) (codes "")) refl (omega arith) (omega (arith, there))
      (λ k above below. let same : k ≡ at + 1 = omega (arith, above, below) in rw same quiet_next)
  default-edits at (Unnamed last) is there quiet_next = two-edits at last there quiet_next (default-ends (at + 2) last is)

  -- behind the `export` of a default stands `default`
  default-there : (at : ℕ) (form : Form) → begun_at text tokens at ≡ Some form → form.shape ≡ shape.DefaultExport → is_at text tokens sign.Default (at + 1) ≡ true
  unfolding parts_of behind
  default-there at form begun is = by (is_at text tokens sign.Default (at + 1)) refl
      (subst (λ s. behind_all text tokens (parts_of s) (at + 1) ≡ Some form.parts) is (known.parts at form begun))
    where
      by : (b : Bool) → is_at text tokens sign.Default (at + 1) ≡ b → option_and_then (behind_all text tokens []) (cond b (Some (at + 1 + 1)) None) ≡ Some form.parts
          → is_at text tokens sign.Default (at + 1) ≡ true
      by true is h = is
      by false is h = cc

  declared : (at : ℕ) (form : Form) (removed default : Bool) → standing_at text tokens at ≡ Declaration form → is_removed form.shape ≡ removed → is_default form.shape ≡ default
      → Reaches at (cond removed (fixed (span_of tokens at form.end) (codes ";") ∷ [])
      (cond default (default_edits_by tokens at (default_at text tokens (at + 2))) (fixed (span_of tokens at (at + 1)) (codes "") ∷ [])))
  declared at form true default e r d =
      alone-edit at form (fixed (span_of tokens at form.end) (codes ";")) refl (ap form_in e) (ap is_alone e ∙ removed-alone form.shape r)
  declared at form false true e r d =
      let is = default-there at form (ap form_in e) (default-is form.shape d) in
      default-edits at (default_at text tokens (at + 2)) refl (is-within sign.Default (at + 1) is) (known.words (at + 1) sign.Default refl is)
  declared at form false false e r d =
      one-edit at (at + 1) (fixed (span_of tokens at (at + 1)) (codes "")) refl (omega arith) (omega (arith, known.there at form (ap form_in e))) (λ k above below. absurd (omega arith))

  imported : (at : ℕ) (form : Form) (ignored : Bool) → standing_at text tokens at ≡ ImportCall form
      → Reaches at (cond ignored [] (call_edit tokens (item_number text tokens at) at form ∷ []))
  imported at form true e = nothing at (known.there at form (ap form_in e))
  imported at form false e = alone-edit at form (call_edit tokens (item_number text tokens at) at form) refl (ap form_in e) (ap is_alone e)

  reaches-by : (at : ℕ) → at < length tokens → (standing : Standing) → standing_at text tokens at ≡ standing
      → Reaches at (edits_by text tokens (item_number text tokens at) at (magic_at text tokens at) standing)
  unfolding edits_by
  reaches-by at there (Declaration form) e = declared at form (is_removed form.shape) (is_default form.shape) e refl refl
  reaches-by at there (ImportCall form) e = imported at form (magic_at text tokens at).ignored e
  reaches-by at there (RequireCall form) e = alone-edit at form (call_edit tokens (item_number text tokens at) at form) refl (ap form_in e) (ap is_alone e)
  reaches-by at there Nothing e = nothing at there
  reaches-by at there BadForm e = nothing at there
  reaches-by at there OddImport e = nothing at there
  reaches-by at there OddRequire e = nothing at there

  reaches : (at : ℕ) → at < length tokens → Reaches at (edits_at text tokens at)
  unfolding edits_at
  reaches at there = reaches-by at there (standing_at text tokens at) refl

  -- the edits of the first tokens, and the tokens behind them that have none
  module _ (first : List Edit) (base : ℕ) (first_lie : LieInOrder 0 base first) (base_within : base ≤ length text) (base_before : 0 < length tokens → base ≤ start_at tokens 0) where
    abbrev place : ℕ → ℕ
    place zero = base
    place (suc at) = end_at tokens at

    place-before : (at : ℕ) → at < length tokens → place at ≤ start_at tokens at
    place-before zero there = base_before there
    place-before (suc at) there = later text 0 tokens known.order at (suc at) (omega arith) there

    record AreLaid (size : ℕ) : Type 0 where
      end : ℕ
      reached : size ≤ end
      within : end ≤ length tokens
      lie : LieInOrder 0 (place end) (first ++ upto (edits_at text tokens) size)
      none : (k : ℕ) → size ≤ k → k < end → begun_at text tokens k ≡ None

    laid-more : (size : ℕ) → size < length tokens → AreLaid size → AreLaid (suc size)
    laid-more size there laid = elim (cases_lt size laid.end) [
      | inl less ↦ record {
        end = laid.end;
        reached = less;
        within = laid.within;
        lie = rw (no-edit size (laid.none size (omega arith) less), append-nil) laid.lie;
        none = λ k above below. laid.none k (omega (arith, above)) below;
      }
      | inr more ↦ let same : laid.end ≡ size = omega (arith, more, laid.reached) in
          let r = reaches size there in
          let before = place-before size there in
          let behind = start-before size r.end r.some r.within in
          let end_is : r.end ≡ suc (r.end - 1) = omega (arith, r.some) in
          let so_far : LieInOrder 0 (place size) (first ++ upto (edits_at text tokens) size) = subst (λ n. LieInOrder 0 (place n) (first ++ upto (edits_at text tokens) size)) same laid.lie in
          record {
            end = suc (r.end - 1);
            reached = omega (arith, r.some);
            within = omega (arith, r.within, r.some);
            lie = subst (LieInOrder 0 (place (suc (r.end - 1)))) (append_assoc first (upto (edits_at text tokens) size) (edits_at text tokens size))
                (then 0 (place size) (end_at tokens (r.end - 1)) (first ++ upto (edits_at text tokens) size) (edits_at text tokens size) (omega arith) (omega (arith, before, behind)) so_far
                (from-before (start_at tokens size) (place size) (end_at tokens (r.end - 1)) (edits_at text tokens size) before r.lie));
            none = λ k above below. r.none k (omega (arith, above)) (omega (arith, below, r.some));
          }
    ]

    laid : (size : ℕ) → size ≤ length tokens → AreLaid size
    laid zero there = record { end = zero; reached = omega arith; within = there; lie = rw append-nil first_lie; none = λ k above below. absurd (omega arith) }
    laid (suc size) there = laid-more size (omega arith) (laid size (omega arith))

    place-within : (at : ℕ) → at ≤ length tokens → place at ≤ length text
    place-within zero there = base_within
    place-within (suc at) there = (stands text 0 tokens known.order at (omega arith)).within

    pub all-lie : LieInOrder 0 (length text) (first ++ upto (edits_at text tokens) (length tokens))
    all-lie = let l = laid (length tokens) (omega arith) in
        to-behind 0 (place l.end) (length text) (first ++ upto (edits_at text tokens) (length tokens)) (place-within l.end l.within) l.lie
