-- Lists of readers: what follows what, and whose count rose.
use Rattle.std.proofs.Common.{◌≡◌, ℕ, ◌≤◌, ◌<◌, ◌+◌, min, List, [], ◌∷◌, length, get_or, set, sym, subst, ◌∙◌, le_trans, inl, inr, arith}
use Rattle.std.specs.List.{AllByRecursion, AllZip}
use Rattle.build_round.specs.Readers.{AllTell, SomeRose}
use Rattle.outside.specs.Tree.{Tree}
use Rattle.outside.specs.Views.{Keeps, ReaderView}

module _ {X : Type 0} (Follows : X → X → Type 0) where
  pub zip-itself : ((x : X) → Follows x x) → (xs : List X) → AllZip Follows xs xs
  zip-itself itself [] = tt
  zip-itself itself (x ∷ xs) = (itself x, zip-itself itself xs)

  pub zip-on : ((a b c : X) → Follows a b → Follows b c → Follows a c) → (xs ys zs : List X) → AllZip Follows xs ys → AllZip Follows ys zs → AllZip Follows xs zs
  zip-on on [] [] [] one two = tt
  zip-on on [] [] (z ∷ zs) one two = absurd two
  zip-on on [] (y ∷ ys) zs one two = absurd one
  zip-on on (x ∷ xs) [] zs one two = absurd one
  zip-on on (x ∷ xs) (y ∷ ys) [] one two = absurd two
  zip-on on (x ∷ xs) (y ∷ ys) (z ∷ zs) one two = (on x y z one.0 two.0, zip-on on xs ys zs one.1 two.1)

  pub zip-first : ((x : X) → Follows x x) → (xs : List X) (x y : X) → 0 < length xs → x ≡ get_or xs 0 x → Follows x y → AllZip Follows xs (set xs 0 y)
  zip-first itself [] x y some is follows = absurd (omega (arith, some))
  zip-first itself (first ∷ rest) x y some is follows = (subst (λ old. Follows old y) is follows, zip-itself itself rest)

  module _ (view : X → ReaderView) (keeps : (a b : X) → Follows a b → Keeps (view a) (view b)) where
    pub tell_on : (xs ys : List X) → AllZip Follows xs ys → (tree : Tree) → AllTell view xs tree → AllTell view ys tree
    tell_on [] [] follow tree told = tt
    tell_on [] (y ∷ ys) follow tree told = absurd follow
    tell_on (x ∷ xs) [] follow tree told = absurd follow
    tell_on (x ∷ xs) (y ∷ ys) follow tree told = ((keeps x y follow.0).tree ∙ told.0, tell_on xs ys follow.1 tree told.1)

    pub rose_first : (xs ys zs : List X) → AllZip Follows ys zs → SomeRose view xs ys → SomeRose view xs zs
    rose_first [] ys zs follow rose = absurd rose
    rose_first (x ∷ xs) [] zs follow rose = absurd rose
    rose_first (x ∷ xs) (y ∷ ys) [] follow rose = absurd follow
    rose_first (x ∷ xs) (y ∷ ys) (z ∷ zs) follow (inl one) = inl (le_trans one (keeps y z follow.0).faults)
    rose_first (x ∷ xs) (y ∷ ys) (z ∷ zs) follow (inr rest) = inr (rose_first xs ys zs follow.1 rest)

    risen_no_less : (before between now : ℕ) → before ≤ between → min (between + 1) 18_446_744_073_709_551_615 ≤ now → min (before + 1) 18_446_744_073_709_551_615 ≤ now
    risen_no_less before between now below rose = omega (arith, below, rose)

    pub rose_then : (xs ys zs : List X) → AllZip Follows xs ys → SomeRose view ys zs → SomeRose view xs zs
    rose_then [] [] zs follow rose = absurd rose
    rose_then [] (y ∷ ys) zs follow rose = absurd follow
    rose_then (x ∷ xs) [] zs follow rose = absurd follow
    rose_then (x ∷ xs) (y ∷ ys) [] follow rose = absurd rose
    rose_then (x ∷ xs) (y ∷ ys) (z ∷ zs) follow (inl one) = inl (risen_no_less (view x).faults (view y).faults (view z).faults (keeps x y follow.0).faults one)
    rose_then (x ∷ xs) (y ∷ ys) (z ∷ zs) follow (inr rest) = inr (rose_then xs ys zs follow.1 rest)

-- what holds of each reader holds of the first
pub all-first : {X : Type 0} (P : X → Type 0) (xs : List X) (x : X) → 0 < length xs → x ≡ get_or xs 0 x → AllByRecursion P xs → P x
all-first P [] x some is all = absurd (omega (arith, some))
all-first P (first ∷ rest) x some is all = subst P (sym is) all.0

pub all-set_first : {X : Type 0} (P : X → Type 0) (xs : List X) (x : X) → AllByRecursion P xs → P x → AllByRecursion P (set xs 0 x)
all-set_first P [] x all one = tt
all-set_first P (first ∷ rest) x all one = (one, all.1)
