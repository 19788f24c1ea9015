-- Texts that begin or end with another.
use Rattle.std.proofs.Common.{◌≡◌, ℕ, ◌-◌, Bool, true, false, cond, eqb, List, [], ◌∷◌, ◌++◌, length, take, drop, Some, None, refl, sym, ap, subst, ◌∙◌}
use Rattle.std.specs.List.{starts_with, ends_with}
use Rattle.std.specs.Str.{IsCharBoundary}
use Rattle.std.specs.Str.Pattern.{FindsTextPrefix}
use Rattle.std.proofs.lemmas.List.{take-append-drop}
use Rattle.std.proofs.lemmas.Slice.Eq.{bytes_eq-Decides}
use Rattle.std.proofs.lemmas.Str.Pattern.{starts_text}
use Rattle.resolve_path.specs.Requests.{goes_on, is_aliased, alias_name, rest_behind}

false_unless : (b : Bool) → (b ≡ true → ⊥) → b ≡ false
false_unless true h = absurd (h refl)
false_unless false h = refl

-- the byte `$` doesn't end a key that isn't a text before it
pub no_end : (key : List ℕ) → ((front : List ℕ) → key ≡ front ++ 36 ∷ [] → ⊥) → ends_with eqb key (36 ∷ []) ≡ false
no_end key none =
    let front = take (length key - 1) key in
    false_unless (ends_with eqb key (36 ∷ []))
    (λ e. none front (sym (take-append-drop (length key - 1) key) ∙ ap (λ end. front ++ end) (sym ((bytes_eq-Decides (36 ∷ []) (drop (length key - 1) key)).0 e))))

pub whole_name : (key : List ℕ) → ((front : List ℕ) → key ≡ front ++ 36 ∷ [] → ⊥) → key ≡ alias_name key
whole_name key none = rw (no_end key none) refl

prefix_true : (text before : List ℕ) (n : ℕ) → FindsTextPrefix before text (Some n) → starts_with eqb text before ≡ true
prefix_true text before n found =
    sym (starts_text true before text (n, found, subst (λ i. IsCharBoundary text i) (sym found.0) found.2))

pub rest_none : (request key name : List ℕ) → name ≡ alias_name key → FindsTextPrefix name request None → None ≡ cond (is_aliased request key) (Some (rest_behind request key)) None
rest_none request key name is none =
    let e : starts_with eqb request (alias_name key) ≡ false = ap (starts_with eqb request) (sym is) ∙ sym (starts_text false name request none) in
    rw e refl

-- what follows the name, where the request begins with it
module _ (request key name rest : List ℕ) (n : ℕ) (is : name ≡ alias_name key) (found : FindsTextPrefix name request (Some n)) (behind : rest ≡ drop n request) where
  begins : starts_with eqb request (alias_name key) ≡ true
  begins = ap (starts_with eqb request) (sym is) ∙ prefix_true request name n found

  pub rest_is : rest ≡ rest_behind request key
  rest_is = behind ∙ ap (λ i. drop i request) (found.0 ∙ ap length is)

  pub rest_some : goes_on rest key ≡ true → Some rest ≡ cond (is_aliased request key) (Some (rest_behind request key)) None
  rest_some on =
      let e : goes_on (rest_behind request key) key ≡ true = ap (λ one. goes_on one key) (sym rest_is) ∙ on in
      rw (begins, e) (ap Some rest_is)

  pub rest_stops : goes_on rest key ≡ false → None ≡ cond (is_aliased request key) (Some (rest_behind request key)) None
  rest_stops on =
      let e : goes_on (rest_behind request key) key ≡ false = ap (λ one. goes_on one key) (sym rest_is) ∙ on in
      rw (begins, e) refl
