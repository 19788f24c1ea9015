-- The members of a chunk's object, one module after another.
use Rattle.std.proofs.Common.{◌≡◌, ℕ, List, [], ◌∷◌, ◌++◌, append_assoc, append-nil, codes, refl, ap, ◌∙◌}
use Rattle.std.specs.List.{flat_map}
use Rattle.module_code.specs.View.{Sealing}
use Rattle.chunk_code.specs.Texts.{member_text, members_text}
use Rattle.chunk_code.specs.inner.Lines.{line_end}

-- what is written from a module on
abbrev pub members_from : Sealing → List ℕ → List ℕ
members_from view [] = []
members_from view (member ∷ rest) = member_text view member ++ line_end rest ++ members_from view rest

regroup : (member between next rest end : List ℕ) → member ++ between ++ ((next ++ rest) ++ end) ≡ (member ++ ((between ++ next) ++ rest)) ++ end
regroup member between next rest end = simp append_assoc

alone : (member end : List ℕ) → member ++ end ++ [] ≡ (member ++ []) ++ end
alone member end = simp (append_assoc, append-nil)

pub members_from-joined : (view : Sealing) (members : List ℕ) → members_from view members ≡ members_text view members
members_from-joined view [] = refl
members_from-joined view (member ∷ []) = alone (member_text view member) (codes "\n")
members_from-joined view (member ∷ next ∷ rest) =
    ap (λ written. member_text view member ++ codes ",\n" ++ written) (members_from-joined view (next ∷ rest))
    ∙ regroup (member_text view member) (codes ",\n") (member_text view next)
    (flat_map (λ other. codes ",\n" ++ member_text view other) rest) (codes "\n")
