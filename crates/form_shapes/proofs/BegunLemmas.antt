-- What is known of a form that begins at a token.
use Rattle.std.proofs.Common.{◌≡◌, ◌<◌, ◌+◌, ℕ, suc, zero, Bool, true, false, cond, List, [], ◌∷◌, Option, None, Some, length, refl, subst}
use Rattle.std.specs.Prelude.{◌||◌, option_map, slice_get}
use Rattle.es_tokens.specs.declared.token.Token.{Token}
use Rattle.form_shapes.specs.Apart.{begun_at, form_in, is_alone, stands_alone}
use Rattle.form_shapes.specs.Forms.{behind_all, end_of, form_at, form_of, longest}
use Rattle.form_shapes.specs.Longest.{IsLongestForm}
use Rattle.form_shapes.specs.Shapes.{export_shapes, import_shapes, is_call, parts_of, require_shapes}
use Rattle.form_shapes.specs.Source.{is_at, is_outside}
use Rattle.form_shapes.specs.Standing.{export_at, export_by, import_at, import_by, is_behind, keyword_at, require_at, require_by, standing_at}
use Rattle.form_shapes.specs.declared.form.Form.{Form}
use Rattle.form_shapes.specs.declared.shape.Shape.{Shape}
use Rattle.form_shapes.specs.declared.shape.Shape.TheVariants as shape
use Rattle.form_shapes.specs.declared.sign.Sign.{Sign}
use Rattle.form_shapes.specs.declared.sign.Sign.TheVariants as sign
use Rattle.form_shapes.specs.declared.standing.Standing.{Standing}
use Rattle.form_shapes.specs.declared.standing.Standing.TheVariants.{Declaration, ImportCall, Nothing}
use Rattle.form_shapes.proofs.LongestLemmas.{is_longest}
use Rattle.form_shapes.proofs.SignLemmas.{token-within}

-- a call encloses no form
call-alone : (s : Shape) → is_call s ≡ true → stands_alone s ≡ true
call-alone shape.Call h = refl
call-alone shape.CommaCall h = refl
call-alone shape.BareImport h = cc
call-alone shape.DefaultImport h = cc
call-alone shape.SpaceImport h = cc
call-alone shape.NamesImport h = cc
call-alone shape.DefaultSpaceImport h = cc
call-alone shape.DefaultNamesImport h = cc
call-alone shape.StarExport h = cc
call-alone shape.SpaceExport h = cc
call-alone shape.NamesFromExport h = cc
call-alone shape.NamesExport h = cc
call-alone shape.DefaultExport h = cc
call-alone shape.VarExport h = cc
call-alone shape.LetExport h = cc
call-alone shape.ConstExport h = cc
call-alone shape.FunctionExport h = cc
call-alone shape.GeneratorExport h = cc
call-alone shape.AsyncFunctionExport h = cc
call-alone shape.AsyncGeneratorExport h = cc
call-alone shape.ClassExport h = cc

module _ (text : List ℕ) (tokens : List Token) where
  -- behind a keyword, of one of some shapes
  record IsTaken (at : ℕ) (shapes : List Shape) (form : Form) : Type 0 where
    pub row : ℕ
    pub shape_is : slice_get shapes row ≡ Some form.shape
    pub behind : behind_all text tokens (parts_of form.shape) at ≡ Some form.parts
    pub end_is : form.end ≡ end_of text tokens form.shape form.parts

  taken-shape : (at : ℕ) (outside : Bool) (shapes : List Shape) (row : ℕ) (s : Shape) (form : Form) → slice_get shapes row ≡ Some s
      → form_at text tokens at outside s ≡ Some form → IsTaken at shapes form
  unfolding form_at
  taken-shape at outside shapes row s form here h = by (outside || is_call s) (behind_all text tokens (parts_of s) at) refl h
    where
      by : (test : Bool) (some : Option ℕ) → behind_all text tokens (parts_of s) at ≡ some → cond test (option_map (form_of text tokens s) some) None ≡ Some form
          → IsTaken at shapes form
      by false some e h = cc
      by true None e h = cc
      by true (Some parts) e h =
          let is : form_of text tokens s parts ≡ form = cc in
          subst (IsTaken at shapes) is (record { row = row; shape_is = here; behind = e; end_is = refl })

  taken : (at : ℕ) (outside : Bool) (shapes : List Shape) (form : Form) → longest text tokens at outside shapes ≡ Some form → IsTaken at shapes form
  taken at outside shapes form e =
      let told : IsLongestForm (form_at text tokens at outside) shapes (Some form) =
      subst (IsLongestForm (form_at text tokens at outside) shapes) e (is_longest (form_at text tokens at outside) shapes) in
      taken-shape at outside shapes told.0.0 told.0.1 form told.0.2 told.0.3

  -- what may follow `require` is a call
  required : (at : ℕ) (form : Form) → IsTaken at require_shapes form → stands_alone form.shape ≡ true
  unfolding require_shapes
  required at form t = by t.row t.shape_is
    where
      by : (row : ℕ) → slice_get (shape.Call ∷ []) row ≡ Some form.shape → stands_alone form.shape ≡ true
      by zero h = let same : shape.Call ≡ form.shape = cc in subst (λ s. stands_alone s ≡ true) same refl
      by (suc row) h = cc

  -- at a keyword
  pub record IsBegun (at : ℕ) (form : Form) (standing : Standing) : Type 0 where
    pub there : at < length tokens
    pub behind : behind_all text tokens (parts_of form.shape) (at + 1) ≡ Some form.parts
    pub end_is : form.end ≡ end_of text tokens form.shape form.parts
    pub alone : is_alone standing ≡ true → stands_alone form.shape ≡ true

  module _ (at : ℕ) (form : Form) where
    begun-at : (keyword : Sign) (outside : Bool) (shapes : List Shape) (standing : Standing) → is_at text tokens keyword at ≡ true
        → longest text tokens (at + 1) outside shapes ≡ Some form → (IsTaken (at + 1) shapes form → is_alone standing ≡ true → stands_alone form.shape ≡ true)
        → IsBegun at form standing
    begun-at keyword outside shapes standing is e alone =
        let t = taken (at + 1) outside shapes form e in
        record { there = token-within text tokens keyword at is; behind = t.behind; end_is = t.end_is; alone = alone t }

    not-behind : (member : Bool) (standing : Standing) → (form_in standing ≡ Some form → IsBegun at form standing)
        → form_in (cond member Nothing standing) ≡ Some form → IsBegun at form (cond member Nothing standing)
    not-behind true standing so h = cc
    not-behind false standing so h = so h

    -- a form that is found, and that is alone where its standing says so
    record IsFound (some : Option Form) (standing : Standing) : Type 0 where
      found_is : some ≡ Some form
      alone : is_alone standing ≡ true → stands_alone form.shape ≡ true

    by-form : (found : Form) (call : Bool) → is_call found.shape ≡ call → form_in (cond call (ImportCall found) (Declaration found)) ≡ Some form
        → IsFound (Some found) (cond call (ImportCall found) (Declaration found))
    by-form found true is h = record { found_is = h; alone = λ a. let same : found ≡ form = cc in subst (λ (f : Form). stands_alone f.shape ≡ true) same (call-alone found.shape is) }
    by-form found false is h = record { found_is = h; alone = λ a. let same : found ≡ form = cc in subst (λ (f : Form). stands_alone f.shape ≡ true) same a }

    by-import : (some : Option Form) (opens alone : Bool) → form_in (import_by some opens alone) ≡ Some form → IsFound some (import_by some opens alone)
    by-import (Some found) opens alone h = by-form found (is_call found.shape) refl h
    by-import None true alone h = cc
    by-import None false true h = cc
    by-import None false false h = cc

    by-export : (some : Option Form) (alone : Bool) → form_in (export_by some alone) ≡ Some form → IsFound some (export_by some alone)
    by-export (Some found) alone h = record { found_is = h; alone = λ a. let same : found ≡ form = cc in subst (λ (f : Form). stands_alone f.shape ≡ true) same a }
    by-export None true h = cc
    by-export None false h = cc

    by-require : (some : Option Form) (odd : Bool) → form_in (require_by some odd) ≡ Some form → some ≡ Some form
    by-require (Some found) odd h = h
    by-require None true h = cc
    by-require None false h = cc

    by-keyword : (import export require : Bool) (imported exported required : Standing)
        → (import ≡ true → form_in imported ≡ Some form → IsBegun at form imported)
        → (export ≡ true → form_in exported ≡ Some form → IsBegun at form exported)
        → (require ≡ true → form_in required ≡ Some form → IsBegun at form required)
        → form_in (cond import imported (cond export exported (cond require required Nothing))) ≡ Some form
        → IsBegun at form (cond import imported (cond export exported (cond require required Nothing)))
    by-keyword true export require imported exported required i e r h = i refl h
    by-keyword false true require imported exported required i e r h = e refl h
    by-keyword false false true imported exported required i e r h = r refl h
    by-keyword false false false imported exported required i e r h = cc

    pub begun : begun_at text tokens at ≡ Some form → IsBegun at form (standing_at text tokens at)
    unfolding standing_at import_at export_at require_at
    begun = not-behind (is_behind text tokens sign.Member at) (keyword_at text tokens at)
        (by-keyword (is_at text tokens sign.Import at) (is_at text tokens sign.Export at) (is_at text tokens sign.Require at) _ _ _
        (λ is e. let f = by-import _ _ _ e in begun-at sign.Import (is_outside tokens at) import_shapes _ is f.found_is (λ t. f.alone))
        (λ is e. let f = by-export _ _ e in begun-at sign.Export (is_outside tokens at) export_shapes _ is f.found_is (λ t. f.alone))
        (λ is e. begun-at sign.Require (is_outside tokens at) require_shapes _ is (by-require _ _ e) (λ t a. required (at + 1) form t)))
