-- The place of what a token gives among all that is given.
use Rattle.std.proofs.Common.{◌≡◌, ◌<◌, ℕ, suc, zero, List, [], ◌∷◌, ◌++◌, length, Some, refl, sym, arith, inl, inr, ◌⊎◌, subst}
use Rattle.std.specs.Prelude.{slice_get}
use Rattle.es_tokens.specs.declared.token.Token.{Token}
use Rattle.graph_types.specs.declared.item.Item.{Item}
use Rattle.es_scan.specs.Scan.{upto, items_at, item_number}

get_front : {X : Type 0} (xs ys : List X) (k : ℕ) (x : X) → slice_get xs k ≡ Some x → slice_get (xs ++ ys) k ≡ Some x
get_front [] ys k x e = absurd (cc)
get_front (first ∷ xs) ys zero x e = e
get_front (first ∷ xs) ys (suc k) x e = get_front xs ys k x e

get_behind : {X : Type 0} (xs ys : List X) (x : X) → slice_get (xs ++ x ∷ ys) (length xs) ≡ Some x
get_behind [] ys x = refl
get_behind (first ∷ xs) ys x = get_behind xs ys x

below_or_same : (a b : ℕ) → a < suc b → (a < b) ⊎ (a ≡ b)
below_or_same a b h = grind arith

-- one list more, in which the member stands or behind which it stood
one_more : {X : Type 0} (given : ℕ → List X) (at size : ℕ) (x : X) → given at ≡ x ∷ []
    → (at < size → slice_get (upto given size) (length (upto given at)) ≡ Some x) → (at < size) ⊎ (at ≡ size)
    → slice_get (upto given size ++ given size) (length (upto given at)) ≡ Some x
one_more given at size x one known (inl before) =
    get_front (upto given size) (given size) (length (upto given at)) x (known before)
one_more given at size x one known (inr same) =
    subst (λ n. slice_get (upto given n ++ given n) (length (upto given at)) ≡ Some x) same
    (subst (λ last. slice_get (upto given at ++ last) (length (upto given at)) ≡ Some x) (sym one) (get_behind (upto given at) [] x))

get_upto : {X : Type 0} (given : ℕ → List X) (at size : ℕ) (x : X) → at < size → given at ≡ x ∷ []
    → slice_get (upto given size) (length (upto given at)) ≡ Some x
get_upto given at zero x there one = absurd (omega arith)
get_upto given at (suc size) x there one =
    one_more given at size x one (λ before. get_upto given at size x before one) (below_or_same at size there)

pub item_named : (text : List ℕ) (tokens : List Token) (at size : ℕ) (item : Item) → at < size → items_at text tokens at ≡ item ∷ []
    → slice_get (upto (items_at text tokens) size) (item_number text tokens at) ≡ Some item
unfolding item_number
item_named text tokens at size item there one = get_upto (items_at text tokens) at size item there one
