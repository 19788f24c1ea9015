-- What is known of the declaration whose first name stands at a token (this project).
use Rattle.std.specs.Prelude.{◌≡◌, ℕ, Bool, not, ◌+◌, nat_lt, List, Option, Some, drop, map, length}
use Rattle.std.specs.Borrow.{Bor}
use Rattle.std.specs.List.{list_all}
use Rattle.es_tokens.specs.declared.token.Token.{Token}
use Rattle.form_shapes.specs.Parts.{front, tails}
use Rattle.form_shapes.specs.Variables.{begins_with_name, declaration, separates}
use Rattle.form_shapes.specs.declared.declaration.Declaration.{Declaration}

-- the declarator with which these tokens begin has a name
abbrev pub is_named : List ℕ → List Token → Bool
is_named text tokens = begins_with_name text (front (separates text) tokens)

-- from this number on each of the lists begins with a declarator that has a name, and from none before it
pub record AreNamedFrom (text : List ℕ) (lists : List (List Token)) (from : ℕ) : Type 0 where
  pub all : (k : ℕ) → list_all (is_named text) (drop k lists) ≡ not (nat_lt k from)

-- its tokens, those behind each of its commas, and from which comma on all declarators have names
pub record IsDeclaration (text : List ℕ) (tokens : List Token) (known : Declaration) : Type 0 where
  pub rest : known.rest.now ≡ declaration text (drop known.at tokens)
  pub end : known.end ≡ known.at + length known.rest.now
  pub tails : drop known.first (map (λ tail. tail.now) known.tails.items) ≡ tails (separates text) known.rest.now
  pub named : AreNamedFrom text (map (λ tail. tail.now) known.tails.items) known.named

-- the same as one fact, of what is known where something is
abbrev pub IsKnown : List ℕ → List Token → Option (Bor Declaration) → Type 0
IsKnown text tokens known =
    (found : Bor Declaration) → known ≡ Some found
    → (found.now.rest.now ≡ declaration text (drop found.now.at tokens))
    × (found.now.end ≡ found.now.at + length found.now.rest.now)
    × (drop found.now.first (map (λ tail. tail.now) found.now.tails.items) ≡ tails (separates text) found.now.rest.now)
    × ((k : ℕ) → list_all (is_named text) (drop k (map (λ tail. tail.now) found.now.tails.items)) ≡ not (nat_lt k found.now.named))
