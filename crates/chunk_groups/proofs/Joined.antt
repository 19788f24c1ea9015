-- Load histories taken apart and put together.
use Rattle.std.proofs.Common.{ℕ, List, [], ◌∷◌, ◌++◌, append-nil, append_assoc, sym, subst}
use Rattle.chunk_groups.specs.Net.{Net}
use Rattle.chunk_groups.specs.Histories.{MayFollow, Follow, IsHistory}

module _ (net : Net) where
  pub follow-parts : (earlier xs ys : List ℕ) → Follow net earlier (xs ++ ys) → Follow net earlier xs × Follow net (earlier ++ xs) ys
  follow-parts earlier [] ys all = (tt, subst (λ (l : List ℕ). Follow net l ys) (sym (append-nil earlier)) all)
  follow-parts earlier (x ∷ xs) ys (here, rest) =
      let parts = follow-parts (earlier ++ x ∷ []) xs ys rest in
      ((here, parts.0), subst (λ (l : List ℕ). Follow net l ys) (append_assoc earlier (x ∷ []) xs) parts.1)

  pub follow-join : (earlier xs ys : List ℕ) → Follow net earlier xs → Follow net (earlier ++ xs) ys → Follow net earlier (xs ++ ys)
  follow-join earlier [] ys front back = subst (λ (l : List ℕ). Follow net l ys) (append-nil earlier) back
  follow-join earlier (x ∷ xs) ys (here, rest) back =
      (here, follow-join (earlier ++ x ∷ []) xs ys rest (subst (λ (l : List ℕ). Follow net l ys) (sym (append_assoc earlier (x ∷ []) xs)) back))

  pub history-parts : (earlier later : List ℕ) (g : ℕ) → IsHistory net (earlier ++ g ∷ later) → IsHistory net earlier × MayFollow net earlier g
  history-parts earlier later g all =
      let parts = follow-parts [] earlier (g ∷ later) all in
      (parts.0, parts.1.0)

  pub history-more : (earlier : List ℕ) (g : ℕ) → IsHistory net earlier → MayFollow net earlier g → IsHistory net (earlier ++ g ∷ [])
  history-more earlier g all follows = follow-join [] earlier (g ∷ []) all (follows, tt)
