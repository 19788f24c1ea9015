-- What stands behind a value: white space, a comma or the closing bracket.
use Rattle.std.proofs.Common.{◌≡◌, ◌∙◌, ℕ, suc, ◌+◌, Bool, inl, inr, List, [], ◌∷◌, ◌++◌, length, Option, Some, None, refl, ap, sym, subst, append-nil, arith, ◌==◌}
use Rattle.std.proofs.lemmas.Bool.{eqb-true}
use Rattle.json_order.specs.declared.tree.JsonNode.TheVariants as node
use Rattle.json_order.specs.declared.tree.JsonTree.{JsonTree}
use Rattle.json_order.specs.declared.tree.JsonPair.{JsonPair}
use Rattle.json_order.specs.declared.frame.Frame.{Frame}
use Rattle.json_order.specs.declared.frame.Frame.TheVariants as frame
use Rattle.json_order.specs.declared.mode.Mode.TheVariants as mode
use Rattle.json_order.specs.declared.reader.Reader.{Reader}
use Rattle.json_order.specs.Grammar.{IsSpace, Space, MoreItems, MoreMembers, Member, Value}
use Rattle.json_order.specs.inner.Steps.{tree_at, put_value, after_step, spaced, is_space, comma_in, closed_list, closed_object}
use Rattle.json_order.specs.inner.Frames.{inner_of}
use Rattle.json_order.specs.Members.{merged}
use Rattle.json_order.proofs.Rest.{Plan, root_of, Behind, RestAfter, Lands}
use Rattle.json_order.proofs.Tests.{tested, at_space, same_depth, space_from_test}
use Rattle.json_order.proofs.Places.{reader, place_on, place_back}

closed_root : (p : ℕ) (frames : List Frame) (plan : Plan frames) (xs : List JsonTree)
    → root_of frames plan (tree_at p (node.List (xs ++ []))) ≡ root_of frames plan (tree_at p (node.List xs))
closed_root p frames plan xs = ap (λ (all : List JsonTree). root_of frames plan (tree_at p (node.List all))) (append-nil xs)

module _ (start : ℕ) (word : List ℕ) (high : Option ℕ) (is_key : Bool) (root : Option JsonTree) (deep : ℕ) (t : JsonTree) (at : ℕ) (rest : List ℕ) where
  abbrev after : List Frame → Reader
  after frames = reader mode.After start word high is_key frames root

  abbrev Goal : List Frame → ℕ → Type 0
  Goal frames b = Lands (deep + length frames) (after_step (after frames) b) t (at + 1) rest

  list_on : (p : ℕ) (xs : List JsonTree) (frames : List Frame) (more : List JsonTree) (plan : Plan frames) (b : ℕ)
      → root_of frames plan (tree_at p (node.List (xs ++ more))) ≡ t
      → MoreItems (Value deep) more (Behind (suc deep) frames plan) at (b ∷ rest)
      → Goal (frame.List p xs ∷ frames) b
  list_on p xs frames [] plan b e h =
      let k : Lands (suc deep + length frames) (Some (put_value (after (frame.List p xs ∷ frames)) (tree_at p (node.List xs)) frames)) t (at + 1) rest
      = place_on (after (frame.List p xs ∷ frames)) (tree_at p (node.List xs)) frames plan (suc deep) t (at + 1) rest (sym (closed_root p frames plan xs) ∙ e) h.1 in
      let same : suc deep + length frames ≡ deep + length (frame.List p xs ∷ frames) = omega arith in
      subst (λ (c : ℕ). Goal (frame.List p xs ∷ frames) c) (sym h.0)
      (subst (λ (n : ℕ). Lands n (Some (put_value (after (frame.List p xs ∷ frames)) (tree_at p (node.List xs)) frames)) t (at + 1) rest) same k)
  list_on p xs frames (x ∷ more) plan b e h =
      subst (λ (c : ℕ). Goal (frame.List p xs ∷ frames) c) (sym h.0) (deep, refl, (x, (more, plan), e, h.1))

  object_on : (p : ℕ) (ms : List JsonPair) (key : List ℕ) (key_at : ℕ) (frames : List Frame) (more : List JsonPair) (plan : Plan frames) (b : ℕ)
      → root_of frames plan (tree_at p (node.Object (merged ms more))) ≡ t
      → MoreMembers (Value deep) more (Behind (suc deep) frames plan) at (b ∷ rest)
      → Goal (frame.Object p ms key key_at ∷ frames) b
  object_on p ms key key_at frames [] plan b e h =
      let f : Frame = frame.Object p ms key key_at in
      let k : Lands (suc deep + length frames) (Some (put_value (after (f ∷ frames)) (tree_at p (node.Object ms)) frames)) t (at + 1) rest
      = place_on (after (f ∷ frames)) (tree_at p (node.Object ms)) frames plan (suc deep) t (at + 1) rest e h.1 in
      let same : suc deep + length frames ≡ deep + length (f ∷ frames) = omega arith in
      subst (λ (c : ℕ). Goal (f ∷ frames) c) (sym h.0)
      (subst (λ (n : ℕ). Lands n (Some (put_value (after (f ∷ frames)) (tree_at p (node.Object ms)) frames)) t (at + 1) rest) same k)
  object_on p ms key key_at frames (q ∷ more) plan b e h =
      subst (λ (c : ℕ). Goal (frame.Object p ms key key_at ∷ frames) c) (sym h.0) (deep, refl, (q, more, plan, e, h.1))

  pub after_on : (frames : List Frame) (b : ℕ) → RestAfter deep frames root t at (b ∷ rest) → Goal frames b
  after_on [] b (e, inl h) = absurd h
  after_on [] b (e, inr (space, h)) =
      let k : Lands (deep + 0) (Some (after [])) t (at + 1) rest = (deep, refl, (e, h)) in
      at_space (λ (c : ℕ). Goal [] c) k k k k b space
  after_on (frame.List p xs ∷ frames) b (more, plan, e, inl h) = list_on p xs frames more plan b e h
  after_on (frame.List p xs ∷ frames) b (more, plan, e, inr (space, h)) =
      let k : Lands (deep + length (frame.List p xs ∷ frames)) (Some (after (frame.List p xs ∷ frames))) t (at + 1) rest = (deep, refl, (more, plan, e, h)) in
      at_space (λ (c : ℕ). Goal (frame.List p xs ∷ frames) c) k k k k b space
  after_on (frame.Object p ms key key_at ∷ frames) b (more, plan, e, inl h) = object_on p ms key key_at frames more plan b e h
  after_on (frame.Object p ms key key_at ∷ frames) b (more, plan, e, inr (space, h)) =
      let k : Lands (deep + length (frame.Object p ms key key_at ∷ frames)) (Some (after (frame.Object p ms key key_at ∷ frames))) t (at + 1) rest = (deep, refl, (more, plan, e, h)) in
      at_space (λ (c : ℕ). Goal (frame.Object p ms key key_at ∷ frames) c) k k k k b space

  spaced_back : (frames : List Frame) (b : ℕ) → Lands (deep + length frames) (spaced (after frames) b) t (at + 1) rest
      → IsSpace b × RestAfter deep frames root t (at + 1) rest
  spaced_back frames b h =
      elim (tested (λ (o : Option Reader). Lands (deep + length frames) o t (at + 1) rest) (is_space b) (Some (after frames)) None h) [
        | inl g ↦ (space_from_test b g.0, same_depth (λ (n : ℕ). RestAfter n frames root t (at + 1) rest) g.1.0 deep (length frames) g.1.1 g.1.2)
        | inr g ↦ absurd g.1
      ]

  list_closed : (p : ℕ) (xs : List JsonTree) (frames : List Frame) (b : ℕ) → b ≡ 93
      → Lands (deep + length (frame.List p xs ∷ frames)) (Some (put_value (after (frame.List p xs ∷ frames)) (tree_at p (node.List xs)) frames)) t (at + 1) rest
      → RestAfter deep (frame.List p xs ∷ frames) root t at (b ∷ rest)
  list_closed p xs frames b is h =
      let r : Reader = after (frame.List p xs ∷ frames) in
      let same : deep + length (frame.List p xs ∷ frames) ≡ suc deep + length frames = omega arith in
      let k : (plan : Plan frames) × (root_of frames plan (tree_at p (node.List xs)) ≡ t) × Behind (suc deep) frames plan (at + 1) rest
      = place_back r (tree_at p (node.List xs)) frames (suc deep) t (at + 1) rest
      (subst (λ (n : ℕ). Lands n (Some (put_value r (tree_at p (node.List xs)) frames)) t (at + 1) rest) same h) in
      ([], k.0, closed_root p frames k.0 xs ∙ k.1, inl (is, k.2))

  object_closed : (p : ℕ) (ms : List JsonPair) (key : List ℕ) (key_at : ℕ) (frames : List Frame) (b : ℕ) → b ≡ 125
      → Lands (deep + length (frame.Object p ms key key_at ∷ frames)) (Some (put_value (after (frame.Object p ms key key_at ∷ frames)) (tree_at p (node.Object ms)) frames)) t (at + 1) rest
      → RestAfter deep (frame.Object p ms key key_at ∷ frames) root t at (b ∷ rest)
  object_closed p ms key key_at frames b is h =
      let f : Frame = frame.Object p ms key key_at in
      let r : Reader = after (f ∷ frames) in
      let same : deep + length (f ∷ frames) ≡ suc deep + length frames = omega arith in
      let k : (plan : Plan frames) × (root_of frames plan (tree_at p (node.Object ms)) ≡ t) × Behind (suc deep) frames plan (at + 1) rest
      = place_back r (tree_at p (node.Object ms)) frames (suc deep) t (at + 1) rest
      (subst (λ (n : ℕ). Lands n (Some (put_value r (tree_at p (node.Object ms)) frames)) t (at + 1) rest) same h) in
      ([], k.0, k.1, inl (is, k.2))

  list_comma : (p : ℕ) (xs : List JsonTree) (frames : List Frame) (b : ℕ) → b ≡ 44
      → Lands (deep + length (frame.List p xs ∷ frames)) (comma_in (after (frame.List p xs ∷ frames)) (inner_of (frame.List p xs ∷ frames))) t (at + 1) rest
      → RestAfter deep (frame.List p xs ∷ frames) root t at (b ∷ rest)
  list_comma p xs frames b is (d, same, (x, plan, e, h)) =
      (x ∷ plan.0, plan.1, e, inl (is, same_depth (λ (n : ℕ). Space (Value n x (Behind n (frame.List p xs ∷ frames) plan)) (at + 1) rest) d deep (length (frame.List p xs ∷ frames)) same h))

  object_comma : (p : ℕ) (ms : List JsonPair) (key : List ℕ) (key_at : ℕ) (frames : List Frame) (b : ℕ) → b ≡ 44
      → Lands (deep + length (frame.Object p ms key key_at ∷ frames)) (comma_in (after (frame.Object p ms key key_at ∷ frames)) (inner_of (frame.Object p ms key key_at ∷ frames))) t (at + 1) rest
      → RestAfter deep (frame.Object p ms key key_at ∷ frames) root t at (b ∷ rest)
  object_comma p ms key key_at frames b is (d, same, (pair, more, plan, e, h)) =
      (pair ∷ more, plan, e, inl (is, same_depth (λ (n : ℕ). Space (Member (Value n) pair (Space (MoreMembers (Value n) more (Behind (suc n) frames plan)))) (at + 1) rest) d deep (length (frame.Object p ms key key_at ∷ frames)) same h))

  pub after_back : (frames : List Frame) (b : ℕ) → Goal frames b → RestAfter deep frames root t at (b ∷ rest)
  after_back frames b h =
      let P : Option Reader → Type 0 = λ o. Lands (deep + length frames) o t (at + 1) rest in
      let r : Reader = after frames in
      elim (tested P (b == 44) (comma_in r (inner_of frames)) _ h) [
        | inl g ↦ comma frames b (eqb-true b 44 g.0) g.1
        | inr g ↦ elim (tested P (b == 93) (closed_list r) _ g.1) [
          | inl k ↦ close_list frames b (eqb-true b 93 k.0) k.1
          | inr k ↦ elim (tested P (b == 125) (closed_object r) _ k.1) [
            | inl m ↦ close_object frames b (eqb-true b 125 m.0) m.1
            | inr m ↦ at_last frames b (spaced_back frames b m.1)
          ]
        ]
      ]
    where
      comma : (frames : List Frame) (b : ℕ) → b ≡ 44 → Lands (deep + length frames) (comma_in (after frames) (inner_of frames)) t (at + 1) rest → RestAfter deep frames root t at (b ∷ rest)
      comma [] b is h = absurd h
      comma (frame.List p xs ∷ frames) b is h = list_comma p xs frames b is h
      comma (frame.Object p ms key key_at ∷ frames) b is h = object_comma p ms key key_at frames b is h

      close_list : (frames : List Frame) (b : ℕ) → b ≡ 93 → Lands (deep + length frames) (closed_list (after frames)) t (at + 1) rest → RestAfter deep frames root t at (b ∷ rest)
      close_list [] b is h = absurd h
      close_list (frame.List p xs ∷ frames) b is h = list_closed p xs frames b is h
      close_list (frame.Object p ms key key_at ∷ frames) b is h = absurd h

      close_object : (frames : List Frame) (b : ℕ) → b ≡ 125 → Lands (deep + length frames) (closed_object (after frames)) t (at + 1) rest → RestAfter deep frames root t at (b ∷ rest)
      close_object [] b is h = absurd h
      close_object (frame.List p xs ∷ frames) b is h = absurd h
      close_object (frame.Object p ms key key_at ∷ frames) b is h = object_closed p ms key key_at frames b is h

      at_last : (frames : List Frame) (b : ℕ) → IsSpace b × RestAfter deep frames root t (at + 1) rest → RestAfter deep frames root t at (b ∷ rest)
      at_last [] b (space, h) = (h.0, inr (space, h.1))
      at_last (frame.List p xs ∷ frames) b (space, h) = (h.0, h.1, h.2, inr (space, h.3))
      at_last (frame.Object p ms key key_at ∷ frames) b (space, h) = (h.0, h.1, h.2, inr (space, h.3))
