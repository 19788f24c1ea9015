-- The family of a token has the shape of the token's class.
use Rattle.std.proofs.Common.{ℕ, ◌≡◌, Bool, false, cond, ◌&&◌, ◌||◌, ◌⊎◌, inl, inr, List, ◌∷◌, refl}
use Rattle.std.specs.Prelude.{◌==◌}
use Rattle.std.proofs.lemmas.Bool.{cond_both, eqb-true}
use Rattle.es_tokens.specs.Characters.{is_digit, is_name_start}
use Rattle.es_tokens.specs.ClassShape.{starts_choice, class_shape}
use Rattle.es_tokens.specs.Family.{starts_digit, starts_star, slash_family, number_family, plain_family, family_of, shape_of, class_of}
use Rattle.es_tokens.specs.TemplateShape.{template_begun, template_resumed}
use Rattle.es_tokens.specs.declared.family.Family.{Family}
use Rattle.es_tokens.specs.declared.family.Family.TheVariants.{Quoted, Begun, Resumed, Private, Comment, Punctuator, Question, Regex, Decimal, NonDecimal, Name}
use Rattle.es_tokens.specs.declared.quoted.Quote.TheVariants.{Single, Double}
use Rattle.es_tokens.specs.declared.token.TokenClass.TheVariants as class

-- but for a comment that isn't ended, of which there is no token
abbrev pub Fits : List ℕ → Family → Type 0
Fits begun f = (f ≡ Comment) ⊎ ((bytes : List ℕ) → shape_of f ≡ class_shape (class_of f bytes) begun)

fits-begun : (begun : List ℕ) → Fits begun Begun
fits-begun begun = inr (λ bytes. cond_both _ class.Template class.Head (λ k. template_begun ≡ class_shape k begun) (λ e. refl) (λ e. refl))

fits-resumed : (begun : List ℕ) → Fits begun Resumed
fits-resumed begun = inr (λ bytes. cond_both _ class.Tail class.Middle (λ k. template_resumed ≡ class_shape k begun) (λ e. refl) (λ e. refl))

fits-name : (begun : List ℕ) → Fits begun Name
fits-name begun = inr (λ bytes. cond_both _ class.Keyword class.Name (λ k. shape_of Name ≡ class_shape k begun) (λ e. refl) (λ e. refl))

fits-punctuator : (begun : List ℕ) → starts_choice begun ≡ false → Fits begun Punctuator
fits-punctuator begun e = inr (λ bytes. rw e refl)

fits-number : (c : ℕ) (more : List ℕ) → Fits (c ∷ more) (number_family c more)
fits-number c more = cond_both _ NonDecimal Decimal (Fits (c ∷ more)) (λ e. inr (λ bytes. rw e refl)) (λ e. inr (λ bytes. rw e refl))

fits-plain : (c : ℕ) (more : List ℕ) → Fits (c ∷ more) (plain_family c more)
fits-plain c more =
    let digits = is_digit c || (c == 0x2e && starts_digit more) in
    let rest = cond (starts_choice (c ∷ more)) Question Punctuator in
    cond_both (is_name_start c || c == 0x5c) Name (cond digits (number_family c more) rest) (Fits (c ∷ more)) (λ e. fits-name (c ∷ more)) (λ e.
    cond_both digits (number_family c more) rest (Fits (c ∷ more)) (λ e. fits-number c more) (λ e.
    cond_both (starts_choice (c ∷ more)) Question Punctuator (Fits (c ∷ more)) (λ e. inr (λ bytes. rw e refl)) (fits-punctuator (c ∷ more))))

no-choice : (c : ℕ) (more : List ℕ) → c ≡ 0x2f → starts_choice (c ∷ more) ≡ false
no-choice c more e = rw e refl

fits-slash : (division : Bool) (c : ℕ) (more : List ℕ) → c ≡ 0x2f → Fits (c ∷ more) (slash_family division more)
fits-slash division c more at =
    let rest = cond division Punctuator Regex in
    cond_both (starts_star more) Comment rest (Fits (c ∷ more)) (λ e. inl refl) (λ e.
    cond_both division Punctuator Regex (Fits (c ∷ more)) (λ e. fits-punctuator (c ∷ more) (no-choice c more at)) (λ e. inr (λ bytes. refl)))

pub family-fits : (division resumes : Bool) (c : ℕ) (more : List ℕ) → Fits (c ∷ more) (family_of division resumes c more)
family-fits division resumes c more =
    let begun = c ∷ more in
    let slash = cond (c == 0x2f) (slash_family division more) (plain_family c more) in
    let hash = cond (c == 0x23) Private slash in
    let resumed = cond (c == 0x7d && resumes) Resumed hash in
    let backquote = cond (c == 0x60) Begun resumed in
    let single = cond (c == 0x27) (Quoted Single) backquote in
    cond_both (c == 0x22) (Quoted Double) single (Fits begun) (λ e. inr (λ bytes. rw e refl)) (λ not_double.
    cond_both (c == 0x27) (Quoted Single) backquote (Fits begun) (λ e. inr (λ bytes. rw not_double refl)) (λ e.
    cond_both (c == 0x60) Begun resumed (Fits begun) (λ e. fits-begun begun) (λ e.
    cond_both (c == 0x7d && resumes) Resumed hash (Fits begun) (λ e. fits-resumed begun) (λ e.
    cond_both (c == 0x23) Private slash (Fits begun) (λ e. inr (λ bytes. refl)) (λ e.
    cond_both (c == 0x2f) (slash_family division more) (plain_family c more) (Fits begun) (λ e. fits-slash division c more (eqb-true c 0x2f e)) (λ e. fits-plain c more))))))
