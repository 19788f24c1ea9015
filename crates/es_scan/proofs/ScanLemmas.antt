-- What the tokens before a number give, and what the next one does.
use Rattle.std.proofs.Common.{◌≡◌, ◌≤◌, ◌+◌, ℕ, suc, zero, Bool, true, false, List, [], ◌++◌, map, length, refl, sym, ap, ◌∙◌, arith, add-one, append_assoc, append-nil, length-append, Option, None, Some, subst}
use Rattle.std.specs.Prelude.{◌||◌, option_to_list}
use Rattle.std.proofs.lemmas.List.{map-append}
use Rattle.es_tokens.specs.declared.token.Token.{Token}
use Rattle.form_shapes.specs.Source.{start_at}
use Rattle.form_shapes.specs.Standing.{standing_at}
use Rattle.form_shapes.specs.declared.standing.Standing.{Standing}
use Rattle.form_shapes.specs.declared.standing.Standing.TheVariants.{Nothing}
use Rattle.es_scan.specs.Binds.{binds_by}
use Rattle.es_scan.specs.Edits.{edits_by}
use Rattle.es_scan.specs.Exports.{exports_by}
use Rattle.es_scan.specs.Flaws.{flaws_by, fault_of_flaw}
use Rattle.magic_comments.specs.Magic.{magic_by}
use Rattle.fault_place.specs.declared.fault.Fault.{Fault}
use Rattle.es_scan.specs.declared.scanned.Scan.{Scan}
use Rattle.es_scan.specs.Items.{item_by}
use Rattle.es_scan.specs.Notes.{notes_by}
use Rattle.es_scan.specs.Stars.{stars_by}
use Rattle.es_scan.specs.Scan.{upto, magic_at, items_at, item_number, binds_at, exports_at, stars_at, edits_at, notes_at, flaws_at, declares_at, export_names, local_names, scan_of}
use Rattle.es_scan.specs.inner.Given.{joined, given_by, given_at, given_upto, with_repeats, nothing_given}
use Rattle.es_scan.specs.inner.Seen.{HasNames}
use Rattle.es_scan.specs.inner.State.{IsUpto}
use Rattle.es_scan.specs.declared.given.Given.{Given}
use Rattle.es_scan.specs.declared.scanner.State.{State}

-- a list of one member at most for each token has no more members than there are tokens
few : {X : Type 0} (some : ℕ → Option X) (at : ℕ) → length (upto (λ k. option_to_list (some k)) at) ≤ at
few some zero = omega arith
few some (suc at) =
    let before : length (upto (λ k. option_to_list (some k)) at) ≤ at = few some at in
    let one : length (option_to_list (some at)) ≤ 1 = at_most_one (some at) in
    simp length-append (omega (arith, before, one))
  where
    at_most_one : {X : Type 0} (member : Option X) → length (option_to_list member) ≤ 1
    at_most_one None = omega arith
    at_most_one (Some member) = omega arith

pub few_items : (text : List ℕ) (tokens : List Token) (at : ℕ) → length (upto (items_at text tokens) at) ≤ at
unfolding items_at
few_items text tokens at = few (λ k. item_by text tokens k (magic_at text tokens k) (standing_at text tokens k)) at

-- the next token's lists are added
pub given_more : (text : List ℕ) (tokens : List Token) (at : ℕ)
    → joined (given_upto text tokens at) (given_at text tokens at) ≡ given_upto text tokens (at + 1)
given_more text tokens at = rw (add-one, append_assoc) refl

-- what stands at a token gives, with the names that stand among earlier ones, is what the token gives
pub given_here : (text : List ℕ) (tokens : List Token) (at : ℕ)
    → with_repeats (start_at tokens at) (export_names (upto (exports_at text tokens) at)) (local_names (upto (binds_at text tokens) at))
    (given_by text tokens (item_number text tokens at) at (magic_at text tokens at) (standing_at text tokens at))
    ≡ given_at text tokens at
unfolding items_at binds_at exports_at stars_at edits_at notes_at flaws_at declares_at
given_here text tokens at = refl

pub names_more : (text : List ℕ) (tokens : List Token) (at : ℕ)
    → export_names (upto (exports_at text tokens) at) ++ export_names (exports_at text tokens at)
    ≡ export_names (upto (exports_at text tokens) (at + 1))
names_more text tokens at = rw (add-one, map-append) refl

pub locals_more : (text : List ℕ) (tokens : List Token) (at : ℕ)
    → local_names (upto (binds_at text tokens) at) ++ local_names (binds_at text tokens at)
    ≡ local_names (upto (binds_at text tokens) (at + 1))
locals_more text tokens at = rw (add-one, map-append) refl

-- a token at which nothing stands gives nothing
pub nothing_here : (text : List ℕ) (tokens : List Token) (at : ℕ) → standing_at text tokens at ≡ Nothing → given_at text tokens at ≡ nothing_given
unfolding items_at binds_at exports_at stars_at edits_at notes_at flaws_at declares_at item_by binds_by exports_by stars_by edits_by notes_by flaws_by
nothing_here text tokens at e = rw e refl

pub same_given : (given : Given) → joined given nothing_given ≡ given
same_given given = all given.es
  where
    or_false : (b : Bool) → (b || false) ≡ b
    or_false true = refl
    or_false false = refl

    all : (b : Bool) → joined given nothing_given ≡ given
    all b = simp (append-nil, or_false)

pub nothing_more : (text : List ℕ) (tokens : List Token) (at : ℕ) (state : State) → standing_at text tokens at ≡ Nothing
    → IsUpto text tokens at state → IsUpto text tokens (at + 1) state
nothing_more text tokens at state e held =
    let nothing : given_at text tokens at ≡ nothing_given = nothing_here text tokens at e in
    let no_exports : exports_at text tokens at ≡ [] = ap (λ given. given.exports) nothing in
    let no_binds : binds_at text tokens at ≡ [] = ap (λ given. given.binds) nothing in
    record {
      given = held.given ∙ sym (same_given (given_upto text tokens at))
          ∙ ap (joined (given_upto text tokens at)) (sym nothing) ∙ given_more text tokens at;
      exported = subst (HasNames state.exported) (same_names no_exports ∙ names_more text tokens at) held.exported;
      bound = subst (HasNames state.bound) (same_locals no_binds ∙ locals_more text tokens at) held.bound;
    }
  where
    same_names : exports_at text tokens at ≡ []
        → export_names (upto (exports_at text tokens) at) ≡ export_names (upto (exports_at text tokens) at) ++ export_names (exports_at text tokens at)
    same_names none = rw (none, append-nil) refl

    same_locals : binds_at text tokens at ≡ []
        → local_names (upto (binds_at text tokens) at) ≡ local_names (upto (binds_at text tokens) at) ++ local_names (binds_at text tokens at)
    same_locals none = rw (none, append-nil) refl

-- a token at which something stands
pub found_more : (text : List ℕ) (tokens : List Token) (at : ℕ) (old new : State) (found more : Given)
    → IsUpto text tokens at old
    → found ≡ given_by text tokens (length old.given.items) at (magic_at text tokens at) (standing_at text tokens at)
    → ((before own : List (List ℕ)) → HasNames old.exported before → HasNames old.bound own → more ≡ with_repeats (start_at tokens at) before own found)
    → ((before : List (List ℕ)) → HasNames old.exported before → HasNames new.exported (before ++ export_names found.exports))
    → ((own : List (List ℕ)) → HasNames old.bound own → HasNames new.bound (own ++ local_names found.binds))
    → new.given ≡ joined old.given more → IsUpto text tokens (at + 1) new
unfolding item_number exports_at binds_at
found_more text tokens at old new found more held is_found is_more exported bound is_joined =
    let number : length old.given.items ≡ item_number text tokens at = ap (λ given. length given.items) held.given in
    let here : found ≡ given_by text tokens (item_number text tokens at) at (magic_at text tokens at) (standing_at text tokens at)
    = is_found ∙ ap (λ n. given_by text tokens n at (magic_at text tokens at) (standing_at text tokens at)) number in
    let whole : more ≡ given_at text tokens at
    = is_more _ _ held.exported held.bound
    ∙ ap (with_repeats (start_at tokens at) (export_names (upto (exports_at text tokens) at)) (local_names (upto (binds_at text tokens) at))) here
    ∙ given_here text tokens at in
    let exports : export_names found.exports ≡ export_names (exports_at text tokens at) = ap (λ given. export_names given.exports) here in
    let locals : local_names found.binds ≡ local_names (binds_at text tokens at) = ap (λ given. local_names given.binds) here in
    record {
      given = is_joined ∙ ap (λ given. joined given more) held.given ∙ ap (joined (given_upto text tokens at)) whole ∙ given_more text tokens at;
      exported = subst (HasNames new.exported)
          (ap (λ names. export_names (upto (exports_at text tokens) at) ++ names) exports ∙ names_more text tokens at)
          (exported (export_names (upto (exports_at text tokens) at)) held.exported);
      bound = subst (HasNames new.bound)
          (ap (λ names. local_names (upto (binds_at text tokens) at) ++ names) locals ∙ locals_more text tokens at)
          (bound (local_names (upto (binds_at text tokens) at)) held.bound);
    }

-- the item's number and what stands there, as the scan has them
pub found_here : (text : List ℕ) (tokens : List Token) (at number items : ℕ) (standing : Standing) (found : Given)
    → number ≡ items → standing ≡ standing_at text tokens at
    → found ≡ given_by text tokens number at (magic_by text tokens at standing) standing
    → found ≡ given_by text tokens items at (magic_at text tokens at) (standing_at text tokens at)
found_here text tokens at number items standing found same here told =
    told ∙ ap (λ n. given_by text tokens n at (magic_by text tokens at standing) standing) same
    ∙ ap (λ s. given_by text tokens items at (magic_by text tokens at s) s) here

-- what is given, with its faults placed
abbrev pub shown : Given → List Fault → Scan
shown given faults = record {
  items = given.items;
  binds = given.binds;
  exports = given.exports;
  stars = given.stars;
  edits = given.edits;
  notes = given.notes;
  faults = faults;
  es = given.es;
}

-- once all tokens are read
pub whole_scan : (path text : List ℕ) (tokens : List Token) (state : State) (faults : List Fault)
    → IsUpto text tokens (length tokens) state → faults ≡ map (fault_of_flaw path text) state.given.flaws
    → shown state.given faults ≡ scan_of path text tokens
unfolding scan_of
whole_scan path text tokens state faults held placed =
    ap (shown state.given) placed ∙ ap (λ given. shown given (map (fault_of_flaw path text) given.flaws)) held.given
