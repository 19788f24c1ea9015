-- A whole value goes into the innermost bracket.
use Rattle.std.proofs.Common.{◌≡◌, ◌∙◌, ℕ, ◌+◌, Bool, List, [], ◌∷◌, ◌++◌, length, Option, Some, refl, ap, sym, append_assoc}
use Rattle.json_order.specs.declared.tree.JsonNode.TheVariants as node
use Rattle.json_order.specs.declared.tree.JsonTree.{JsonTree}
use Rattle.json_order.specs.declared.frame.Frame.{Frame}
use Rattle.json_order.specs.declared.frame.Frame.TheVariants as frame
use Rattle.json_order.specs.declared.mode.Mode.{Mode}
use Rattle.json_order.specs.declared.reader.Reader.{Reader}
use Rattle.json_order.specs.inner.Steps.{tree_at, put_value}
use Rattle.json_order.proofs.Rest.{Plan, root_of, Behind, Lands}
use Rattle.json_order.proofs.Tests.{same_depth}

abbrev pub reader : Mode → ℕ → List ℕ → Option ℕ → Bool → List Frame → Option JsonTree → Reader
reader mode start word high is_key stack root =
    record { mode = mode; start = start; word = word; high = high; is_key = is_key; stack = stack; root = root }

-- the list with a value and then more
pub list_root : (p : ℕ) (frames : List Frame) (plan : Plan frames) (xs : List JsonTree) (x : JsonTree) (more : List JsonTree)
    → root_of frames plan (tree_at p (node.List ((xs ++ (x ∷ [])) ++ more))) ≡ root_of frames plan (tree_at p (node.List (xs ++ (x ∷ more))))
list_root p frames plan xs x more =
    ap (λ (all : List JsonTree). root_of frames plan (tree_at p (node.List all))) (append_assoc xs (x ∷ []) more)

pub place_on : (r : Reader) (x : JsonTree) (frames : List Frame) (plan : Plan frames) (deep : ℕ) (t : JsonTree) (at : ℕ) (text : List ℕ)
    → root_of frames plan x ≡ t → Behind deep frames plan at text
    → Lands (deep + length frames) (Some (put_value r x frames)) t at text
place_on r x [] plan deep t at text e h = (deep, refl, (ap Some e, h))
place_on r x (frame.List p xs ∷ frames) plan deep t at text e h =
    (deep, refl, (plan.0, plan.1, list_root p frames plan.1 xs x plan.0 ∙ e, h))
place_on r x (frame.Object p ms key key_at ∷ frames) plan deep t at text e h = (deep, refl, (plan.0, plan.1, e, h))

pub place_back : (r : Reader) (x : JsonTree) (frames : List Frame) (deep : ℕ) (t : JsonTree) (at : ℕ) (text : List ℕ)
    → Lands (deep + length frames) (Some (put_value r x frames)) t at text
    → (plan : Plan frames) × (root_of frames plan x ≡ t) × Behind deep frames plan at text
place_back r x [] deep t at text (d, same, h) = (tt, cc h.0, h.1)
place_back r x (frame.List p xs ∷ frames) deep t at text (d, same, h) =
    let k : record { plan : Plan (frame.List p xs ∷ frames); root : root_of (frame.List p xs ∷ frames) plan x ≡ t; behind : Behind d (frame.List p xs ∷ frames) plan at text }
    = record { plan = (h.0, h.1); root = sym (list_root p frames h.1 xs x h.0) ∙ h.2; behind = h.3 } in
    (k.plan, k.root, same_depth (λ n. Behind n (frame.List p xs ∷ frames) k.plan at text) d deep (length (frame.List p xs ∷ frames)) same k.behind)
place_back r x (frame.Object p ms key key_at ∷ frames) deep t at text (d, same, h) =
    let plan : Plan (frame.Object p ms key key_at ∷ frames) = (h.0, h.1) in
    (plan, h.2, same_depth (λ n. Behind n (frame.Object p ms key key_at ∷ frames) plan at text) d deep (length (frame.Object p ms key key_at ∷ frames)) same h.3)
