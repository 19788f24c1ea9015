-- A path is a file of a tree exactly where the tree's listing has it.
use Rattle.std.proofs.Common.{◌≡◌, ℕ, suc, ◌+◌, Bool, true, false, not, ◌||◌, cond, ltb, List, [], ◌∷◌, length, Option, Some, None, refl, sym, ap, ◌∙◌, arith}
use Rattle.std.specs.Cmp.Lexicographic.{slice_cmp, texts_ties}
use Rattle.std.specs.FinMap.Entries.{is_some-find}
use Rattle.std.specs.List.{list_any, position, position_or_len}
use Rattle.std.specs.Option.{is_some}
use Rattle.std.specs.Ordering.{eq_by_cmp, nat_cmp}
use Rattle.std.specs.Str.{bytes_eq}
use Rattle.std.proofs.lemmas.Bool.{false≢true}
use Rattle.std.proofs.lemmas.Bool.Decides.{nat_tests}
use Rattle.std.proofs.lemmas.Slice.Eq.{bytes_eq-Decides}
use Rattle.outside.specs.Tree.{Tree, bytes_at, files_of}
use Rattle.tree_listing.specs.Listing.{lengths_of, number_at}

pub same_bool : (a b : Bool) → (a ≡ true → b ≡ true) → (b ≡ true → a ≡ true) → a ≡ b
same_bool true b h k = sym (h refl)
same_bool false true h k = absurd (false≢true (k refl))
same_bool false false h k = refl

pub flip : (a b : List ℕ) → bytes_eq a b ≡ bytes_eq b a
flip a b = same_bool (bytes_eq a b) (bytes_eq b a)
    (λ e. (bytes_eq-Decides b a).1 (sym ((bytes_eq-Decides a b).0 e)))
    (λ e. (bytes_eq-Decides a b).1 (sym ((bytes_eq-Decides b a).0 e)))

some_place : (b : Bool) (n : ℕ) → is_some (cond b (Some n) None) ≡ b
some_place true n = refl
some_place false n = refl

step : (b : Bool) (n len : ℕ) → ltb (cond (not b) (1 + n) 0) (suc len) ≡ (b || ltb n len)
step true n len = grind (arith, nat_tests)
step false n len = grind (arith, nat_tests)

within : {X : Type 0} (p : X → Bool) (xs : List X) → ltb (position_or_len p xs) (length xs) ≡ list_any p xs
within p [] = refl
within p (x ∷ xs) = step (p x) (position_or_len p xs) (length xs) ∙ ap (λ b. p x || b) (within p xs)

any_listed : (tree : Tree) (path : List ℕ) → list_any (λ file. bytes_eq file.0 path) (lengths_of tree) ≡ list_any (eq_by_cmp (slice_cmp nat_cmp) path) (files_of tree)
any_listed [] path = refl
any_listed (file ∷ tree) path =
    ap (λ b. b || list_any (λ one. bytes_eq one.0 path) (lengths_of tree)) (flip file.0 path ∙ texts_ties path file.0)
    ∙ ap (λ b. eq_by_cmp (slice_cmp nat_cmp) path file.0 || b) (any_listed tree path)

pub there : (tree : Tree) (path : List ℕ) → is_some (number_at (lengths_of tree) path) ≡ is_some (bytes_at tree path)
there tree path =
    some_place (ltb (position_or_len (λ file. bytes_eq file.0 path) (lengths_of tree)) (length (lengths_of tree))) (position_or_len (λ file. bytes_eq file.0 path) (lengths_of tree))
    ∙ within (λ file. bytes_eq file.0 path) (lengths_of tree)
    ∙ any_listed tree path
    ∙ sym (is_some-find (slice_cmp nat_cmp) path tree)

none_from : {X : Type 0} (found : Option X) → is_some found ≡ false → found ≡ None
none_from None e = refl
none_from (Some x) e = absurd (false≢true (sym e))

pub missing : (tree : Tree) (path : List ℕ) → number_at (lengths_of tree) path ≡ None → bytes_at tree path ≡ None
missing tree path e = none_from (bytes_at tree path) (sym (there tree path) ∙ ap is_some e)

-- where no member passes there is none that does
pub is_some_place : {X : Type 0} (p : X → Bool) (xs : List X) → position p xs ≡ None → list_any p xs ≡ false
is_some_place p xs e =
    sym (within p xs) ∙ sym (some_place (ltb (position_or_len p xs) (length xs)) (position_or_len p xs)) ∙ ap is_some e
