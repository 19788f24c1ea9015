-- All that is wrong is told of a place in the text.
use Rattle.std.proofs.Common.{◌≤◌, ℕ, suc, zero, Bool, true, false, cond, List, [], ◌∷◌, ◌++◌, ap, subst, sym}
use Rattle.std.specs.Prelude.{◌||◌}
use Rattle.std.specs.List.{All, list_any}
use Rattle.std.specs.Str.{bytes_eq}
use Rattle.std.proofs.lemmas.List.Elements.{All-append, All-cons, All-nil}
use Rattle.es_tokens.specs.declared.token.Token.{Token}
use Rattle.fault_place.specs.declared.fault.FaultKind.TheVariants.{DynamicRequest, RepeatedName}
use Rattle.form_shapes.specs.Source.{start_at}
use Rattle.form_shapes.specs.Standing.{standing_at}
use Rattle.form_shapes.specs.declared.standing.Standing.{Standing}
use Rattle.form_shapes.specs.declared.standing.Standing.TheVariants.{Nothing, Declaration, ImportCall, RequireCall, BadForm, OddImport, OddRequire}
use Rattle.magic_comments.specs.declared.magic.Magic.{Magic}
use Rattle.es_scan.specs.Flaws.{flaw_at, flaws_by, is_method, repeat_of, repeats}
use Rattle.es_scan.specs.Scan.{upto, binds_at, export_names, exports_at, flaws_at, local_names, magic_at}
use Rattle.es_scan.specs.declared.flaws.Flaw.{Flaw}
use Rattle.es_scan.specs.inner.State.{IsUpto}
use Rattle.es_scan.specs.declared.scanner.State.{State}

abbrev AreWithin : ℕ → List Flaw → Type 0
AreWithin size flaws = All (λ flaw. flaw.offset ≤ size) flaws

one_within : (size : ℕ) (flaw : Flaw) → flaw.offset ≤ size → AreWithin size (flaw ∷ [])
one_within size flaw h = All-cons (λ flaw. flaw.offset ≤ size) flaw [] h (All-nil (λ flaw. flaw.offset ≤ size))

repeat_within : (size offset : ℕ) (earlier : List (List ℕ)) (name : List ℕ) → offset ≤ size → AreWithin size (repeat_of offset earlier name)
repeat_within size offset earlier name h = by (list_any (bytes_eq name) earlier)
  where
    by : (b : Bool) → AreWithin size (cond b (record { offset = offset; kind = RepeatedName; detail = name } ∷ []) [])
    by true = one_within size _ h
    by false = All-nil (λ flaw. flaw.offset ≤ size)

repeats_within : (size offset : ℕ) (earlier names : List (List ℕ)) → offset ≤ size → AreWithin size (repeats offset earlier names)
repeats_within size offset earlier [] h = All-nil (λ flaw. flaw.offset ≤ size)
repeats_within size offset earlier (name ∷ names) h =
    All-append (λ flaw. flaw.offset ≤ size) (repeat_of offset earlier name) (repeats offset (earlier ++ name ∷ []) names)
    (repeat_within size offset earlier name h) (repeats_within size offset (earlier ++ name ∷ []) names h)

by_within : (size : ℕ) (text : List ℕ) (tokens : List Token) (at : ℕ) (magic : Magic) (standing : Standing) → start_at tokens at ≤ size
    → AreWithin size (flaws_by text tokens at magic standing)
unfolding flaws_by
by_within size text tokens at magic BadForm h = one_within size _ h
by_within size text tokens at magic OddImport h = by (magic.ignored || is_method text tokens at)
  where
    by : (b : Bool) → AreWithin size (cond b [] (flaw_at tokens at DynamicRequest ∷ []))
    by true = All-nil (λ flaw. flaw.offset ≤ size)
    by false = one_within size _ h
by_within size text tokens at magic Nothing h = All-nil (λ flaw. flaw.offset ≤ size)
by_within size text tokens at magic (Declaration form) h = All-nil (λ flaw. flaw.offset ≤ size)
by_within size text tokens at magic (ImportCall form) h = All-nil (λ flaw. flaw.offset ≤ size)
by_within size text tokens at magic (RequireCall form) h = All-nil (λ flaw. flaw.offset ≤ size)
by_within size text tokens at magic OddRequire h = All-nil (λ flaw. flaw.offset ≤ size)

at_within : (size : ℕ) (text : List ℕ) (tokens : List Token) (at : ℕ) → start_at tokens at ≤ size → AreWithin size (flaws_at text tokens at)
unfolding flaws_at
at_within size text tokens at h =
    All-append (λ flaw. flaw.offset ≤ size) _ _ (by_within size text tokens at (magic_at text tokens at) (standing_at text tokens at) h)
    (All-append (λ flaw. flaw.offset ≤ size) _ _
    (repeats_within size (start_at tokens at) (export_names (upto (exports_at text tokens) at)) (export_names (exports_at text tokens at)) h)
    (repeats_within size (start_at tokens at) (local_names (upto (binds_at text tokens) at)) (local_names (binds_at text tokens at)) h))

upto_within : (size : ℕ) (text : List ℕ) (tokens : List Token) (at : ℕ) → ((k : ℕ) → start_at tokens k ≤ size)
    → AreWithin size (upto (flaws_at text tokens) at)
upto_within size text tokens zero h = All-nil (λ flaw. flaw.offset ≤ size)
upto_within size text tokens (suc at) h =
    All-append (λ flaw. flaw.offset ≤ size) _ _ (upto_within size text tokens at h) (at_within size text tokens at (h at))

pub flaws_within : (size : ℕ) (text : List ℕ) (tokens : List Token) (at : ℕ) (state : State) → ((k : ℕ) → start_at tokens k ≤ size)
    → IsUpto text tokens at state → All (λ flaw. flaw.offset ≤ size) state.given.flaws
flaws_within size text tokens at state h held =
    subst (λ flaws. All (λ flaw. flaw.offset ≤ size) flaws) (sym (ap (λ given. given.flaws) held.given)) (upto_within size text tokens at h)
