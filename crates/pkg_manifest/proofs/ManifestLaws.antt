-- From what JSON says of a text to its one manifest.
use Rattle.std.proofs.Common.{◌≡◌, ◌∙◌, ℕ, ◌<◌, ◌≤◌, ◌⊎◌, inl, inr, List, length, Option, None, Some, Result, Ok, Err, refl, sym, ap, arith}
use Rattle.json_order.specs.declared.tree.JsonTree.{JsonTree}
use Rattle.json_order.specs.declared.fault.JsonFault.{JsonFault}
use Rattle.json_order.specs.Answer.{IsAnswer}
use Rattle.pkg_manifest.specs.declared.fields.Manifest.{Manifest}
use Rattle.pkg_manifest.specs.declared.manifest_end.ManifestEnd.{ManifestEnd}
use Rattle.pkg_manifest.specs.declared.manifest_end.ManifestEnd.TheVariants.{BadManifest, NoMemory}
use Rattle.pkg_manifest.specs.Manifest.{size_limit, manifest_in, IsManifestOf, ManifestAnswersBy}

abbrev IsOnly : List ℕ → JsonTree → Type 0
IsOnly text tree = (other : JsonTree) → IsAnswer text (Ok other) → tree ≡ other

abbrev HasNone : List ℕ → Type 0
HasNone text = (tree : JsonTree) → ¬ (IsAnswer text (Ok tree))

-- of a text with one tree
manifest_of_tree : (text : List ℕ) (tree : JsonTree) (found : Option Manifest) → length text ≤ size_limit → IsAnswer text (Ok tree)
    → manifest_in tree.node ≡ found → IsManifestOf text found
manifest_of_tree text tree (Some manifest) short is e = (short, (tree, is, e))
manifest_of_tree text tree None short is e = inr (inr (tree, is, e))

tree_only : (text : List ℕ) (tree : JsonTree) (found : Option Manifest) → length text ≤ size_limit → IsAnswer text (Ok tree) → IsOnly text tree
    → IsManifestOf text found → manifest_in tree.node ≡ found
tree_only text tree (Some manifest) short is only (within, (other, holds, e)) = ap (λ (t : JsonTree). manifest_in t.node) (only other holds) ∙ e
tree_only text tree None short is only (inl long) = absurd (omega arith)
tree_only text tree None short is only (inr (inl none)) = absurd (none tree is)
tree_only text tree None short is only (inr (inr (other, holds, e))) = ap (λ (t : JsonTree). manifest_in t.node) (only other holds) ∙ e

-- of a text that is too long, or has no tree
pub bad_only : (text : List ℕ) (found : Option Manifest) → (size_limit < length text) ⊎ HasNone text → IsManifestOf text found → None ≡ found
bad_only text (Some manifest) (inl long) (within, (tree, is, e)) = absurd (omega arith)
bad_only text (Some manifest) (inr none) (within, (tree, is, e)) = absurd (none tree is)
bad_only text None bad is = refl

-- what holds of every manifest of which P holds holds of the result
answers_weaker : (P Q : Option Manifest → Type 0) (result : Result Manifest ManifestEnd) → ((found : Option Manifest) → P found → Q found)
    → ManifestAnswersBy P result → ManifestAnswersBy Q result
answers_weaker P Q (Ok manifest) h k = h (Some manifest) k
answers_weaker P Q (Err BadManifest) h k = h None k
answers_weaker P Q (Err NoMemory) h k = tt

pub tree_found : (text : List ℕ) (tree : JsonTree) (result : Result Manifest ManifestEnd) → length text ≤ size_limit → IsAnswer text (Ok tree)
    → ManifestAnswersBy (λ given. given ≡ manifest_in tree.node) result → ManifestAnswersBy (IsManifestOf text) result
tree_found text tree result short is h =
    answers_weaker (λ given. given ≡ manifest_in tree.node) (IsManifestOf text) result (λ found e. manifest_of_tree text tree found short is (sym e)) h

pub tree_found_only : (text : List ℕ) (tree : JsonTree) (result : Result Manifest ManifestEnd) → length text ≤ size_limit → IsAnswer text (Ok tree) → IsOnly text tree
    → ManifestAnswersBy (λ given. given ≡ manifest_in tree.node) result → (found : Option Manifest) → IsManifestOf text found → ManifestAnswersBy (λ given. given ≡ found) result
tree_found_only text tree result short is only h found holds =
    answers_weaker (λ given. given ≡ manifest_in tree.node) (λ given. given ≡ found) result (λ given e. e ∙ tree_only text tree found short is only holds) h

-- every tree of a text is the one that an answer says
same_tree : (tree other : JsonTree) → ◌≡◌ {A = Result JsonTree JsonFault} (Ok tree) (Ok other) → tree ≡ other
same_tree tree other e = cc

pub only_tree : (text : List ℕ) (tree : JsonTree) → ((answer : Result JsonTree JsonFault) → IsAnswer text answer → Ok tree ≡ answer) → IsOnly text tree
only_tree text tree only = λ other is. same_tree tree other (only (Ok other) is)

-- a text with a fault has no tree
no_tree : (fault : JsonFault) (tree : JsonTree) → ◌≡◌ {A = Result JsonTree JsonFault} (Err fault) (Ok tree) → ⊥
no_tree fault tree e = cc

pub none_at_fault : (text : List ℕ) (fault : JsonFault) → ((answer : Result JsonTree JsonFault) → IsAnswer text answer → Err fault ≡ answer) → HasNone text
none_at_fault text fault only = λ tree is. no_tree fault tree (only (Ok tree) is)

abbrev HasOneAnswer : List ℕ → Type 0
HasOneAnswer text = (one other : Result JsonTree JsonFault) → IsAnswer text one → IsAnswer text other → one ≡ other

one_of_tree : (text : List ℕ) (tree : JsonTree) (found : Option Manifest) → HasOneAnswer text → length text ≤ size_limit → IsAnswer text (Ok tree)
    → IsManifestOf text found → manifest_in tree.node ≡ found
one_of_tree text tree found single short is = tree_only text tree found short is (only_tree text tree (λ answer holds. single (Ok tree) answer is holds))

pub one_manifest_of : (text : List ℕ) → HasOneAnswer text → (one other : Option Manifest) → IsManifestOf text one → IsManifestOf text other → one ≡ other
one_manifest_of text single (Some manifest) other (short, (tree, is, e)) h = sym e ∙ one_of_tree text tree other single short is h
one_manifest_of text single None None bad h = refl
one_manifest_of text single None (Some manifest) bad (short, (tree, is, e)) = sym (sym e ∙ one_of_tree text tree None single short is bad)
