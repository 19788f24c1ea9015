-- A string is a quote, inner bytes, and the same quote.
use Rattle.std.proofs.Common.{ℕ, ◌≡◌, ◌<◌, Bool, true, false, cond, ◌⊎◌, inl, inr, List, [], ◌∷◌, ◌++◌, refl, sym, ap, ◌∙◌, append-nil, lit<}
use Rattle.std.proofs.Math.Utf8.{scalars, encodes, encode}
use Rattle.std.proofs.lemmas.Bool.{eqb-true}
use Rattle.std.proofs.lemmas.Str.{encodes-append, encode_ascii}
use Rattle.es_tokens.specs.ClassShape.{starts_with, class_shape}
use Rattle.es_tokens.specs.Language.{HasShape}
use Rattle.es_tokens.specs.QuotedShape.{string_shape}
use Rattle.es_tokens.specs.Shape.{has_shape}
use Rattle.es_tokens.specs.TokenText.{IsQuoted}
use Rattle.es_tokens.proofs.LanguageLemmas.{shape-means}
use Rattle.es_tokens.proofs.TextLemmas.{scalars-front, scalars-rest}
use Rattle.es_tokens.specs.declared.token.TokenClass.{TokenClass}
use Rattle.es_tokens.specs.declared.token.TokenClass.TheVariants.{Str}

abbrev Inner : ℕ → List ℕ → Type 0
Inner quote front = (inner : List ℕ) × (front ≡ quote ∷ inner ++ quote ∷ [])

quoted-inner : (quote : ℕ) (front : List ℕ) → HasShape (string_shape quote) front → Inner quote front
quoted-inner quote front h =
    let first : h.3.0 ≡ quote = eqb-true h.3.0 quote h.3.1 in
    let last : h.4.4.0 ≡ quote = eqb-true h.4.4.0 quote h.4.4.1 in
    let opens : h.0 ≡ quote ∷ [] = h.3.2 ∙ ap (λ c. c ∷ []) first in
    let closes : h.4.1 ≡ quote ∷ [] = h.4.4.2 ∙ ap (λ c. c ∷ []) last in
    (h.4.0, h.2 ∙ ap (λ x. x ++ h.1) opens ∙ ap (λ x. quote ∷ x) (h.4.2 ∙ ap (λ x. h.4.0 ++ x) closes))

quoted-bytes : (quote : ℕ) (bytes front : List ℕ) → quote < 128 → (quote ≡ 0x22) ⊎ (quote ≡ 0x27) → bytes ≡ encodes front → scalars front ≡ true → HasShape (string_shape quote) front → IsQuoted bytes
quoted-bytes quote bytes front ascii is_quote bytes_are all h =
    let i = quoted-inner quote front h in
    let byte = encode_ascii quote ascii in
    let last : encodes (quote ∷ []) ≡ quote ∷ [] = append-nil (encode quote) ∙ byte in
    let more : encodes (i.0 ++ quote ∷ []) ≡ encodes i.0 ++ quote ∷ [] = encodes-append i.0 (quote ∷ []) ∙ ap (λ x. encodes i.0 ++ x) last in
    let inside : scalars (i.0 ++ quote ∷ []) ≡ true = scalars-rest (quote ∷ []) (i.0 ++ quote ∷ []) (sym (ap scalars i.1) ∙ all) in
    record {
      quote = quote;
      inner = encodes i.0;
      parts = bytes_are ∙ ap encodes i.1 ∙ ap (λ x. x ++ encodes (i.0 ++ quote ∷ [])) byte ∙ ap (λ x. quote ∷ x) more;
      is_quote = is_quote;
      utf8 = (i.0, (scalars-front i.0 (quote ∷ []) inside, refl));
    }

by-quote : (bytes front : List ℕ) (test : Bool) → bytes ≡ encodes front → scalars front ≡ true → has_shape (cond test (string_shape 0x22) (string_shape 0x27)) front ≡ true → IsQuoted bytes
by-quote bytes front true e all h = quoted-bytes 0x22 bytes front (lit< tt) (inl refl) e all ((shape-means (string_shape 0x22) front).0 h)
by-quote bytes front false e all h = quoted-bytes 0x27 bytes front (lit< tt) (inr refl) e all ((shape-means (string_shape 0x27) front).0 h)

pub string-quoted : (bytes : List ℕ) (class : TokenClass) (begun front : List ℕ) → class ≡ Str → bytes ≡ encodes front → scalars front ≡ true →
    has_shape (class_shape class begun) front ≡ true → IsQuoted bytes
string-quoted bytes class begun front is_string e all h =
    by-quote bytes front (starts_with 0x22 begun) e all (sym (ap (λ (k : TokenClass). has_shape (class_shape k begun) front) is_string) ∙ h)
