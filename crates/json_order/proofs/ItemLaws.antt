-- Behind an opening bracket, a comma of an object and a key.
use Rattle.std.proofs.Common.{◌≡◌, ◌∙◌, ℕ, suc, ◌+◌, Bool, true, ◌⊎◌, inl, inr, List, [], ◌∷◌, ◌++◌, length, Option, Some, None, refl, ap, sym, subst, append-nil, arith, ◌==◌}
use Rattle.std.proofs.lemmas.Bool.{eqb-true}
use Rattle.json_order.specs.declared.tree.JsonNode.{JsonNode}
use Rattle.json_order.specs.declared.tree.JsonNode.TheVariants as node
use Rattle.json_order.specs.declared.tree.JsonTree.{JsonTree}
use Rattle.json_order.specs.declared.tree.JsonPair.{JsonPair}
use Rattle.json_order.specs.declared.frame.Frame.{Frame}
use Rattle.json_order.specs.declared.frame.Frame.TheVariants as frame
use Rattle.json_order.specs.declared.mode.Mode.{Mode}
use Rattle.json_order.specs.declared.mode.Mode.TheVariants as mode
use Rattle.json_order.specs.declared.reader.Reader.{Reader}
use Rattle.json_order.specs.Grammar.{Word, IsSpace, Space, Items, Members, MoreMembers, Member, Value, Chars, content_of}
use Rattle.json_order.specs.Members.{put, merged}
use Rattle.json_order.specs.inner.Steps.{tree_at, put_value, value_step, first_item_step, key_step, first_key_step, colon_step, closed_list, closed_object, spaced, is_space, string_at, in_mode}
use Rattle.json_order.proofs.Rest.{Plan, root_of, Behind, Lands, RestOfFirstItem, RestOfFirstKey, RestOfKey, RestOfColon, RestOfValue, colon}
use Rattle.json_order.proofs.Tests.{by_test, tested, at_space, same_depth, space_from_test}
use Rattle.json_order.proofs.Places.{reader, place_on, place_back}
use Rattle.json_order.proofs.ValueLaws.{value_on, value_back, Begun}

closed_root : (p : ℕ) (frames : List Frame) (plan : Plan frames) (xs : List JsonTree)
    → root_of frames plan (tree_at p (node.List (xs ++ []))) ≡ root_of frames plan (tree_at p (node.List xs))
closed_root p frames plan xs = ap (λ (all : List JsonTree). root_of frames plan (tree_at p (node.List all))) (append-nil xs)

-- the value that is whole once its bracket closes
pub closes_on : (r : Reader) (n : JsonNode) (p : ℕ) (frames : List Frame) (plan : Plan frames) (deep : ℕ) (t : JsonTree) (at : ℕ) (text : List ℕ)
    → root_of frames plan (tree_at p n) ≡ t → Behind (suc deep) frames plan at text
    → Lands (deep + suc (length frames)) (Some (put_value r (tree_at p n) frames)) t at text
closes_on r n p frames plan deep t at text e h =
    let same : suc deep + length frames ≡ deep + suc (length frames) = omega arith in
    subst (λ (k : ℕ). Lands k (Some (put_value r (tree_at p n) frames)) t at text) same (place_on r (tree_at p n) frames plan (suc deep) t at text e h)

pub closes_back : (r : Reader) (n : JsonNode) (p : ℕ) (frames : List Frame) (deep : ℕ) (t : JsonTree) (at : ℕ) (text : List ℕ)
    → Lands (deep + suc (length frames)) (Some (put_value r (tree_at p n) frames)) t at text
    → (plan : Plan frames) × (root_of frames plan (tree_at p n) ≡ t) × Behind (suc deep) frames plan at text
closes_back r n p frames deep t at text h =
    let same : deep + suc (length frames) ≡ suc deep + length frames = omega arith in
    place_back r (tree_at p n) frames (suc deep) t at text (subst (λ (k : ℕ). Lands k (Some (put_value r (tree_at p n) frames)) t at text) same h)

module _ (start : ℕ) (word : List ℕ) (high : Option ℕ) (is_key : Bool) (root : Option JsonTree) (deep : ℕ) (t : JsonTree) (at : ℕ) (rest : List ℕ) where
  module _ (p : ℕ) (xs : List JsonTree) (frames : List Frame) where
    abbrev inside : List Frame
    inside = frame.List p xs ∷ frames

    abbrev first : Reader
    first = reader mode.FirstItem start word high is_key inside root

    abbrev FirstGoal : ℕ → Type 0
    FirstGoal b = Lands (deep + length inside) (first_item_step first at b) t (at + 1) rest

    items_on : (all : List JsonTree) (plan : Plan frames) (b : ℕ) → root_of frames plan (tree_at p (node.List (xs ++ all))) ≡ t
        → Items (Value deep) all (Behind (suc deep) frames plan) at (b ∷ rest) → FirstGoal b
    items_on [] plan b e h = subst (λ (c : ℕ). FirstGoal c) (sym h.0)
        (closes_on first (node.List xs) p frames plan deep t (at + 1) rest (sym (closed_root p frames plan xs) ∙ e) h.1)
    items_on (x ∷ more) plan b e h =
        let both : Plan inside = (more, plan) in
        let k : Lands (deep + length inside) (value_step first at b) t (at + 1) rest
        = value_on mode.FirstItem start word high is_key inside root t at rest deep both x b e h in
        by_test (λ (o : Option Reader). Lands (deep + length inside) o t (at + 1) rest) (b == 93) (closed_list first) (value_step first at b)
        (λ test. absurd (subst (λ (c : ℕ). Lands (deep + length inside) (value_step first at c) t (at + 1) rest) (eqb-true b 93 test) k))
        (λ test. k)

    pub first_item_on : (b : ℕ) → RestOfFirstItem deep inside t at (b ∷ rest) → FirstGoal b
    first_item_on b (all, plan, e, inl h) = items_on all plan b e h
    first_item_on b (all, plan, e, inr (space, h)) =
        let k : Lands (deep + length inside) (Some first) t (at + 1) rest = (deep, refl, (all, plan, e, h)) in
        at_space (λ (c : ℕ). FirstGoal c) k k k k b space

    first_closed : (b : ℕ) → b ≡ 93 → Lands (deep + length inside) (closed_list first) t (at + 1) rest → RestOfFirstItem deep inside t at (b ∷ rest)
    first_closed b is h =
        let k : (plan : Plan frames) × (root_of frames plan (tree_at p (node.List xs)) ≡ t) × Behind (suc deep) frames plan (at + 1) rest
        = closes_back first (node.List xs) p frames deep t (at + 1) rest h in
        ([], k.0, closed_root p frames k.0 xs ∙ k.1, inl (is, k.2))

    first_value : (b : ℕ) → Begun mode.FirstItem start word high is_key inside root t at rest deep b ⊎ (IsSpace b × Lands (deep + length inside) (Some first) t (at + 1) rest)
        → RestOfFirstItem deep inside t at (b ∷ rest)
    first_value b (inl (x, plan, e, h)) = (x ∷ plan.0, plan.1, e, inl h)
    first_value b (inr (space, (d, same, h))) =
        let k : RestOfFirstItem deep inside t (at + 1) rest = same_depth (λ (n : ℕ). RestOfFirstItem n inside t (at + 1) rest) d deep (length inside) same h in
        (k.0, k.1, k.2, inr (space, k.3))

    pub first_item_back : (b : ℕ) → FirstGoal b → RestOfFirstItem deep inside t at (b ∷ rest)
    first_item_back b h = elim (tested (λ (o : Option Reader). Lands (deep + length inside) o t (at + 1) rest) (b == 93) (closed_list first) (value_step first at b) h) [
      | inl g ↦ first_closed b (eqb-true b 93 g.0) g.1
      | inr g ↦ first_value b (value_back mode.FirstItem start word high is_key inside root t at rest deep b g.1)
    ]

  module _ (p : ℕ) (ms : List JsonPair) (key : List ℕ) (key_at : ℕ) (frames : List Frame) where
    abbrev among : List Frame
    among = frame.Object p ms key key_at ∷ frames

    abbrev keyed : Mode → Reader
    keyed m = reader m start word high is_key among root

    -- the root by a key and its place
    member_root : (pair : JsonPair) (k : List ℕ) (a : ℕ) (more : List JsonPair) (plan : Plan frames) → pair.key ≡ k → pair.key_at ≡ a
        → root_of frames plan (tree_at p (node.Object (merged (put ms k a pair.value) more))) ≡ root_of frames plan (tree_at p (node.Object (merged ms (pair ∷ more))))
    member_root pair k a more plan e f =
        ap (λ (n : List ℕ). root_of frames plan (tree_at p (node.Object (merged (put ms n a pair.value) more)))) (sym e)
        ∙ ap (λ (n : ℕ). root_of frames plan (tree_at p (node.Object (merged (put ms pair.key n pair.value) more)))) (sym f)

    member_on : (m : Mode) (pair : JsonPair) (more : List JsonPair) (plan : Plan frames) (b : ℕ)
        → root_of frames plan (tree_at p (node.Object (merged ms (pair ∷ more)))) ≡ t
        → Member (Value deep) pair (Space (MoreMembers (Value deep) more (Behind (suc deep) frames plan))) at (b ∷ rest)
        → Lands (deep + length among) (key_step (keyed m) at b) t (at + 1) rest
    member_on m pair more plan b e (pieces, same, place, (is, h)) =
        subst (λ (c : ℕ). Lands (deep + length among) (key_step (keyed m) at c) t (at + 1) rest) (sym is)
        (deep, refl, (pieces, pair.value, (more, plan), member_root pair (content_of pieces) at more plan same place ∙ e, h))

    pub key_on : (b : ℕ) → RestOfKey deep among t at (b ∷ rest) → Lands (deep + length among) (key_step (keyed mode.Key) at b) t (at + 1) rest
    key_on b (pair, more, plan, e, inl h) = member_on mode.Key pair more plan b e h
    key_on b (pair, more, plan, e, inr (space, h)) =
        let k : Lands (deep + length among) (Some (keyed mode.Key)) t (at + 1) rest = (deep, refl, (pair, more, plan, e, h)) in
        at_space (λ (c : ℕ). Lands (deep + length among) (key_step (keyed mode.Key) at c) t (at + 1) rest) k k k k b space

    -- a member stands there
    abbrev HasMember : ℕ → Type 0
    HasMember b = (pair : JsonPair) × (more : List JsonPair) × (plan : Plan frames)
        × (root_of frames plan (tree_at p (node.Object (merged ms (pair ∷ more)))) ≡ t)
        × Member (Value deep) pair (Space (MoreMembers (Value deep) more (Behind (suc deep) frames plan))) at (b ∷ rest)

    string_member : (m : Mode) (b : ℕ) → b ≡ 34 → Lands (deep + length among) (Some (string_at (keyed m) at true)) t (at + 1) rest → HasMember b
    string_member m b is (d, same, (pieces, x, plan, e, h)) =
        let pair : JsonPair = record { key = content_of pieces; key_at = at; value = x } in (
          pair,
          plan.0,
          plan.1,
          e,
          (
            pieces,
            refl,
            refl,
            (
              is,
              same_depth (λ (n : ℕ). Chars pieces (Space (Word colon (Space (Value n x (Behind n among plan))))) (at + 1) rest) d deep (length among) same h,
            ),
          ),
        )

    member_back : (m : Mode) (b : ℕ) → Lands (deep + length among) (key_step (keyed m) at b) t (at + 1) rest
        → HasMember b ⊎ (IsSpace b × Lands (deep + length among) (Some (keyed m)) t (at + 1) rest)
    member_back m b h =
        let P : Option Reader → Type 0 = λ o. Lands (deep + length among) o t (at + 1) rest in
        elim (tested P (b == 34) (Some (string_at (keyed m) at true)) (spaced (keyed m) b) h) [
          | inl g ↦ inl (string_member m b (eqb-true b 34 g.0) g.1)
          | inr g ↦ elim (tested P (is_space b) (Some (keyed m)) None g.1) [
            | inl s ↦ inr (space_from_test b s.0, s.1)
            | inr s ↦ absurd s.1
          ]
        ]

    key_found : (b : ℕ) → HasMember b ⊎ (IsSpace b × Lands (deep + length among) (Some (keyed mode.Key)) t (at + 1) rest) → RestOfKey deep among t at (b ∷ rest)
    key_found b (inl (pair, more, plan, e, h)) = (pair, more, plan, e, inl h)
    key_found b (inr (space, (d, same, h))) =
        let k : RestOfKey deep among t (at + 1) rest = same_depth (λ (n : ℕ). RestOfKey n among t (at + 1) rest) d deep (length among) same h in
        (k.0, k.1, k.2, k.3, inr (space, k.4))

    pub key_back : (b : ℕ) → Lands (deep + length among) (key_step (keyed mode.Key) at b) t (at + 1) rest → RestOfKey deep among t at (b ∷ rest)
    key_back b h = key_found b (member_back mode.Key b h)

    abbrev FirstKeyGoal : ℕ → Type 0
    FirstKeyGoal b = Lands (deep + length among) (first_key_step (keyed mode.FirstKey) at b) t (at + 1) rest

    members_on : (all : List JsonPair) (plan : Plan frames) (b : ℕ) → root_of frames plan (tree_at p (node.Object (merged ms all))) ≡ t
        → Members (Value deep) all (Behind (suc deep) frames plan) at (b ∷ rest) → FirstKeyGoal b
    members_on [] plan b e h = subst (λ (c : ℕ). FirstKeyGoal c) (sym h.0)
        (closes_on (keyed mode.FirstKey) (node.Object ms) p frames plan deep t (at + 1) rest e h.1)
    members_on (pair ∷ more) plan b e h =
        let k : Lands (deep + length among) (key_step (keyed mode.FirstKey) at b) t (at + 1) rest = member_on mode.FirstKey pair more plan b e h in
        by_test (λ (o : Option Reader). Lands (deep + length among) o t (at + 1) rest) (b == 125) (closed_object (keyed mode.FirstKey)) (key_step (keyed mode.FirstKey) at b)
        (λ test. absurd (subst (λ (c : ℕ). Lands (deep + length among) (key_step (keyed mode.FirstKey) at c) t (at + 1) rest) (eqb-true b 125 test) k))
        (λ test. k)

    pub first_key_on : (b : ℕ) → RestOfFirstKey deep among t at (b ∷ rest) → FirstKeyGoal b
    first_key_on b (all, plan, e, inl h) = members_on all plan b e h
    first_key_on b (all, plan, e, inr (space, h)) =
        let k : Lands (deep + length among) (Some (keyed mode.FirstKey)) t (at + 1) rest = (deep, refl, (all, plan, e, h)) in
        at_space (λ (c : ℕ). FirstKeyGoal c) k k k k b space

    object_closed : (b : ℕ) → b ≡ 125 → Lands (deep + length among) (closed_object (keyed mode.FirstKey)) t (at + 1) rest → RestOfFirstKey deep among t at (b ∷ rest)
    object_closed b is h =
        let k : (plan : Plan frames) × (root_of frames plan (tree_at p (node.Object ms)) ≡ t) × Behind (suc deep) frames plan (at + 1) rest
        = closes_back (keyed mode.FirstKey) (node.Object ms) p frames deep t (at + 1) rest h in
        ([], k.0, k.1, inl (is, k.2))

    first_key_found : (b : ℕ) → HasMember b ⊎ (IsSpace b × Lands (deep + length among) (Some (keyed mode.FirstKey)) t (at + 1) rest) → RestOfFirstKey deep among t at (b ∷ rest)
    first_key_found b (inl (pair, more, plan, e, h)) = (pair ∷ more, plan, e, inl h)
    first_key_found b (inr (space, (d, same, h))) =
        let k : RestOfFirstKey deep among t (at + 1) rest = same_depth (λ (n : ℕ). RestOfFirstKey n among t (at + 1) rest) d deep (length among) same h in
        (k.0, k.1, k.2, inr (space, k.3))

    pub first_key_back : (b : ℕ) → FirstKeyGoal b → RestOfFirstKey deep among t at (b ∷ rest)
    first_key_back b h =
        elim (tested (λ (o : Option Reader). Lands (deep + length among) o t (at + 1) rest) (b == 125) (closed_object (keyed mode.FirstKey)) (key_step (keyed mode.FirstKey) at b) h) [
          | inl g ↦ object_closed b (eqb-true b 125 g.0) g.1
          | inr g ↦ first_key_found b (member_back mode.FirstKey b g.1)
        ]

    pub colon_on : (b : ℕ) → RestOfColon deep among t at (b ∷ rest) → Lands (deep + length among) (colon_step (keyed mode.Colon) b) t (at + 1) rest
    colon_on b (x, plan, e, inl h) =
        subst (λ (c : ℕ). Lands (deep + length among) (colon_step (keyed mode.Colon) c) t (at + 1) rest) (sym h.0) (deep, refl, (x, plan, e, h.1))
    colon_on b (x, plan, e, inr (space, h)) =
        let k : Lands (deep + length among) (Some (keyed mode.Colon)) t (at + 1) rest = (deep, refl, (x, plan, e, h)) in
        at_space (λ (c : ℕ). Lands (deep + length among) (colon_step (keyed mode.Colon) c) t (at + 1) rest) k k k k b space

    colon_value : (b : ℕ) → b ≡ 58 → Lands (deep + length among) (Some (in_mode (keyed mode.Colon) mode.Value)) t (at + 1) rest → RestOfColon deep among t at (b ∷ rest)
    colon_value b is (d, same, h) =
        let k : RestOfValue deep among t (at + 1) rest = same_depth (λ (n : ℕ). RestOfValue n among t (at + 1) rest) d deep (length among) same h in
        (k.0, k.1, k.2, inl (is, k.3))

    colon_space : (b : ℕ) → IsSpace b → Lands (deep + length among) (Some (keyed mode.Colon)) t (at + 1) rest → RestOfColon deep among t at (b ∷ rest)
    colon_space b is (d, same, h) =
        let k : RestOfColon deep among t (at + 1) rest = same_depth (λ (n : ℕ). RestOfColon n among t (at + 1) rest) d deep (length among) same h in
        (k.0, k.1, k.2, inr (is, k.3))

    pub colon_back : (b : ℕ) → Lands (deep + length among) (colon_step (keyed mode.Colon) b) t (at + 1) rest → RestOfColon deep among t at (b ∷ rest)
    colon_back b h =
        let P : Option Reader → Type 0 = λ o. Lands (deep + length among) o t (at + 1) rest in
        elim (tested P (b == 58) (Some (in_mode (keyed mode.Colon) mode.Value)) (spaced (keyed mode.Colon) b) h) [
          | inl g ↦ colon_value b (eqb-true b 58 g.0) g.1
          | inr g ↦ elim (tested P (is_space b) (Some (keyed mode.Colon)) None g.1) [
            | inl s ↦ colon_space b (space_from_test b s.0) s.1
            | inr s ↦ absurd s.1
          ]
        ]
