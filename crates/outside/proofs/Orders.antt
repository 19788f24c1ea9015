-- The byte order of paths, and where the paths that begin alike stand in it.
use Rattle.std.proofs.Common.{◌≡◌, ℕ, true, false, nat_eq, List, [], ◌∷◌, Ordering, refl, sym, ap, ◌∙◌, subst}
use Rattle.std.proofs.lemmas.Bool.{and_parts, and_from, eqb-true, eq-eqb}
use Rattle.std.proofs.lemmas.Cmp.{ranked, tied_itself, nat_cmp_total, nat_list_cmp_total}
use Rattle.std.specs.declared.cmp.Ordering.TheVariants.{Less, Equal, Greater}
use Rattle.std.specs.Ordering.{nat_cmp, is_lt, is_eq, ordering_then, ordering_reverse}
use Rattle.std.specs.Cmp.Lexicographic.{slice_cmp, texts_ties, bytes_decides}
use Rattle.std.specs.List.{starts_with}

abbrev pub order : List ℕ → List ℕ → Ordering
order = slice_cmp nat_cmp

pub less : (o : Ordering) → is_lt o ≡ true → o ≡ Less
less Less e = refl
less Equal e = cc
less Greater e = cc

pub turned : (x y : List ℕ) (o : Ordering) → order x y ≡ o → order y x ≡ ordering_reverse o
turned x y o e = nat_list_cmp_total.antisymm y x ∙ ap ordering_reverse e

pub before_trans : (x y z : List ℕ) → is_lt (order x y) ≡ true → is_lt (order y z) ≡ true → is_lt (order x z) ≡ true
before_trans x y z a b = ap is_lt (nat_list_cmp_total.trans x y z (less _ a) (less _ b))

pub equal_paths : (x y : List ℕ) → order x y ≡ Equal → x ≡ y
equal_paths x y e = (bytes_decides x y).0 (texts_ties x y ∙ ap is_eq e)

-- ---- a path that begins with a prefix is not before it

nat_cmp-same : (x y : ℕ) → y ≡ x → nat_cmp x y ≡ Equal
nat_cmp-same x y e = subst (λ n. nat_cmp x n ≡ Equal) (sym e) (tied_itself nat_cmp_total x)

pub prefix_not_before : (p x : List ℕ) → starts_with nat_eq x p ≡ true → is_lt (order x p) ≡ false
prefix_not_before [] [] e = refl
prefix_not_before [] (c ∷ cs) e = refl
prefix_not_before (b ∷ bs) [] e = cc
prefix_not_before (b ∷ bs) (c ∷ cs) e =
    let parts = and_parts (nat_eq b c) (starts_with nat_eq cs bs) e in
    ap (λ o. is_lt (ordering_then o (order cs bs))) (nat_cmp-same c b (eqb-true b c parts.0)) ∙ prefix_not_before bs cs parts.1

-- ---- what stands from a prefix up to a path that begins with it begins with it too

-- at two heads, where the tails are known to do so
between_heads : (b : ℕ) (bs : List ℕ) (d : ℕ) (ds cs : List ℕ) (o : Ordering) → o ≡ nat_cmp d b → is_lt (ordering_then o (order ds bs)) ≡ false → is_lt (ordering_then o (order ds cs)) ≡ true → (is_lt (order ds bs) ≡ false → is_lt (order ds cs) ≡ true → starts_with nat_eq ds bs ≡ true) → starts_with nat_eq (d ∷ ds) (b ∷ bs) ≡ true
between_heads b bs d ds cs Less is from upto tails = cc
between_heads b bs d ds cs Equal is from upto tails =
    let same : d ≡ b = ranked d b Equal is in
    and_from (nat_eq b d) (starts_with nat_eq ds bs) (eq-eqb b d (sym same)) (tails from upto)
between_heads b bs d ds cs Greater is from upto tails = cc

pub between : (p x y : List ℕ) → is_lt (order x p) ≡ false → is_lt (order x y) ≡ true → starts_with nat_eq y p ≡ true → starts_with nat_eq x p ≡ true
between [] x y from upto e = refl
between (b ∷ bs) [] y from upto e = cc
between (b ∷ bs) (d ∷ ds) [] from upto e = cc
between (b ∷ bs) (d ∷ ds) (c ∷ cs) from upto e =
    let parts = and_parts (nat_eq b c) (starts_with nat_eq cs bs) e in
    let below : is_lt (ordering_then (nat_cmp d b) (order ds cs)) ≡ true = subst (λ n. is_lt (ordering_then (nat_cmp d n) (order ds cs)) ≡ true) (sym (eqb-true b c parts.0)) upto in
    between_heads b bs d ds cs (nat_cmp d b) refl from below (λ g h. between bs ds cs g h parts.1)

pub equal_order : (o : Ordering) → is_eq o ≡ true → o ≡ Equal
equal_order Less e = cc
equal_order Equal e = refl
equal_order Greater e = cc
