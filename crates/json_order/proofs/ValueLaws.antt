-- Where a value may stand, its first byte says its form.
use Rattle.std.proofs.Common.{◌≡◌, ◌∙◌, ℕ, suc, zero, ◌+◌, Bool, true, false, ◌⊎◌, inl, inr, List, [], ◌∷◌, length, Option, Some, None, refl, ap, sym, subst, arith, ◌==◌}
use Rattle.std.proofs.lemmas.Bool.{eqb-true}
use Rattle.json_order.specs.declared.tree.JsonNode.{JsonNode}
use Rattle.json_order.specs.declared.tree.JsonNode.TheVariants as node
use Rattle.json_order.specs.declared.tree.JsonTree.{JsonTree}
use Rattle.json_order.specs.declared.frame.Frame.{Frame}
use Rattle.json_order.specs.declared.frame.Frame.TheVariants as frame
use Rattle.json_order.specs.declared.mode.Mode.{Mode}
use Rattle.json_order.specs.declared.mode.Mode.TheVariants as mode
use Rattle.json_order.specs.declared.mode.Part.{Part}
use Rattle.json_order.specs.declared.mode.Letters.{Letters}
use Rattle.json_order.specs.declared.mode.Letters.TheVariants as letters
use Rattle.json_order.specs.declared.reader.Reader.{Reader}
use Rattle.json_order.specs.Grammar.{Word, IsSpace, Space, Items, Members, Value, Form, null, boolean, number, string, array, object, node_of, Formed, Chars}
use Rattle.json_order.specs.inner.Modes.{first_part, named}
use Rattle.json_order.specs.inner.Steps.{tree_at, value_step, begin_at, other_at, is_space, string_at, name_at, opened}
use Rattle.json_order.proofs.Rest.{Plan, root_of, Behind, Lands, left_of, ends}
use Rattle.json_order.proofs.Tests.{tested, same_depth, space_from_test}
use Rattle.json_order.proofs.Places.{reader}
use Rattle.json_order.proofs.NumberLaws.{begins, number_begins, number_from_begins}

module _ (m : Mode) (start : ℕ) (word : List ℕ) (high : Option ℕ) (is_key : Bool) (frames : List Frame) (root : Option JsonTree) (t : JsonTree) (at : ℕ) (rest : List ℕ) where
  abbrev pub r : Reader
  r = reader m start word high is_key frames root

  abbrev pub Goal : ℕ → ℕ → Type 0
  Goal deep b = Lands (deep + length frames) (value_step r at b) t (at + 1) rest

  -- what stands where the value is written in this form
  abbrev pub Stands : ℕ → Form → ℕ → Plan frames → Type 0
  Stands deep form b plan = (root_of frames plan (tree_at at (node_of form)) ≡ t) × Formed form deep (Behind deep frames plan) at (b ∷ rest)

  number_on : (deep : ℕ) (plan : Plan frames) (b : ℕ) (tail : List ℕ) (o : Option Part) → ends o tail ≡ true
      → root_of frames plan (tree_at at (node.Number (b ∷ tail))) ≡ t → Word tail (Behind deep frames plan) (at + 1) rest
      → Lands (deep + length frames) (begin_at r at b o) t (at + 1) rest
  number_on deep plan b tail None e same h = cc
  number_on deep plan b tail (Some p) e same h = (deep, refl, (tail, plan, e, same, h))

  at_number : (deep : ℕ) (plan : Plan frames) (w : List ℕ) (b : ℕ) → Stands deep (number w) b plan → Goal deep b
  at_number deep plan [] b (e, (is, h)) = let no : begins [] ≡ true = number_begins [] is in cc
  at_number deep plan (c ∷ cs) b (e, (is, h)) =
      subst (λ (x : ℕ). Goal deep x) (sym h.0) (number_on deep plan c cs (first_part c) (number_begins (c ∷ cs) is) e h.1)

  at_boolean : (deep : ℕ) (plan : Plan frames) (v : Bool) (b : ℕ) → Stands deep (boolean v) b plan → Goal deep b
  at_boolean deep plan true b (e, h) = subst (λ (x : ℕ). Goal deep x) (sym h.0) (deep, refl, (plan, e, h.1))
  at_boolean deep plan false b (e, h) = subst (λ (x : ℕ). Goal deep x) (sym h.0) (deep, refl, (plan, e, h.1))

  at_array : (deep : ℕ) (plan : Plan frames) (items : List JsonTree) (b : ℕ) → Stands deep (array items) b plan → Goal deep b
  at_array zero plan items b (e, h) = absurd h
  at_array (suc deep) plan items b (e, h) =
      let same : deep + suc (length frames) ≡ suc deep + length frames = omega arith in
      subst (λ (x : ℕ). Goal (suc deep) x) (sym h.0) (deep, same, (items, plan, e, h.1))

  at_object : (deep : ℕ) (plan : Plan frames) (members : List _) (b : ℕ) → Stands deep (object members) b plan → Goal deep b
  at_object zero plan members b (e, h) = absurd h
  at_object (suc deep) plan members b (e, h) =
      let same : deep + suc (length frames) ≡ suc deep + length frames = omega arith in
      subst (λ (x : ℕ). Goal (suc deep) x) (sym h.0) (deep, same, (members, plan, e, h.1))

  at_form : (deep : ℕ) (plan : Plan frames) (form : Form) (b : ℕ) → Stands deep form b plan → Goal deep b
  at_form deep plan null b (e, h) = subst (λ (x : ℕ). Goal deep x) (sym h.0) (deep, refl, (plan, e, h.1))
  at_form deep plan (boolean v) b h = at_boolean deep plan v b h
  at_form deep plan (number w) b h = at_number deep plan w b h
  at_form deep plan (string pieces) b (e, h) = subst (λ (x : ℕ). Goal deep x) (sym h.0) (deep, refl, (pieces, t, plan, e, h.1))
  at_form deep plan (array items) b h = at_array deep plan items b h
  at_form deep plan (object members) b h = at_object deep plan members b h

  pub value_on : (deep : ℕ) (plan : Plan frames) (x : JsonTree) (b : ℕ) → root_of frames plan x ≡ t
      → Value deep x (Behind deep frames plan) at (b ∷ rest) → Goal deep b
  value_on deep plan x b e (form, is, h) = at_form deep plan form b (ap (λ (y : JsonTree). root_of frames plan y) (sym is) ∙ e, h)

  -- a value stands there, in some form
  abbrev pub Begun : ℕ → ℕ → Type 0
  Begun deep b = (x : JsonTree) × (plan : Plan frames) × (root_of frames plan x ≡ t) × Value deep x (Behind deep frames plan) at (b ∷ rest)

  begun : (deep : ℕ) (form : Form) (plan : Plan frames) (b : ℕ) → Stands deep form b plan → Begun deep b
  begun deep form plan b (e, h) = (tree_at at (node_of form), plan, e, (form, refl, h))

  name_back : (deep : ℕ) (form : Form) (first : ℕ) (l : Letters) (b : ℕ) → b ≡ first
      → node_of form ≡ named l
      → ((plan : Plan frames) → Word (first ∷ left_of l) (Behind deep frames plan) at (b ∷ rest) → Formed form deep (Behind deep frames plan) at (b ∷ rest))
      → Lands (deep + length frames) (Some (name_at r at l)) t (at + 1) rest → Begun deep b
  name_back deep form first l b is same formed (d, depth, (plan, e, h)) =
      let k : Word (left_of l) (Behind deep frames plan) (at + 1) rest
      = same_depth (λ (n : ℕ). Word (left_of l) (Behind n frames plan) (at + 1) rest) d deep (length frames) depth h in
      begun deep form plan b (ap (λ (n : JsonNode). root_of frames plan (tree_at at n)) same ∙ e, formed plan (is, k))

  array_back : (deep : ℕ) (b : ℕ) → b ≡ 91 → Lands (deep + length frames) (Some (opened r (frame.List at []) mode.FirstItem)) t (at + 1) rest → Begun deep b
  array_back zero b is (d, depth, h) = absurd (omega arith)
  array_back (suc deep) b is (d, depth, (items, plan, e, h)) =
      let k : Space (Items (Value deep) items (Behind (suc deep) frames plan)) (at + 1) rest
      = same_depth (λ (n : ℕ). Space (Items (Value n) items (Behind (suc n) frames plan)) (at + 1) rest) d deep (suc (length frames)) (omega arith) h in
      begun (suc deep) (array items) plan b (e, (is, k))

  object_back : (deep : ℕ) (b : ℕ) → b ≡ 123 → Lands (deep + length frames) (Some (opened r (frame.Object at [] [] 0) mode.FirstKey)) t (at + 1) rest → Begun deep b
  object_back zero b is (d, depth, h) = absurd (omega arith)
  object_back (suc deep) b is (d, depth, (members, plan, e, h)) =
      let k : Space (Members (Value deep) members (Behind (suc deep) frames plan)) (at + 1) rest
      = same_depth (λ (n : ℕ). Space (Members (Value n) members (Behind (suc n) frames plan)) (at + 1) rest) d deep (suc (length frames)) (omega arith) h in
      begun (suc deep) (object members) plan b (e, (is, k))

  string_back : (deep : ℕ) (b : ℕ) → b ≡ 34 → Lands (deep + length frames) (Some (string_at r at false)) t (at + 1) rest → Begun deep b
  string_back deep b is (d, depth, (pieces, x, plan, e, h)) =
      begun deep (string pieces) plan b (e, (is, same_depth (λ (n : ℕ). Chars pieces (Behind n frames plan) (at + 1) rest) d deep (length frames) depth h))

  -- a value, or a space
  abbrev pub Found : ℕ → ℕ → Type 0
  Found deep b = Begun deep b ⊎ (IsSpace b × Lands (deep + length frames) (Some r) t (at + 1) rest)

  other_back : (deep : ℕ) (b : ℕ) → Lands (deep + length frames) (other_at r at b) t (at + 1) rest → Found deep b
  other_back deep b h =
      let P : Option Reader → Type 0 = λ o. Lands (deep + length frames) o t (at + 1) rest in
      elim (tested P (b == 34) _ _ h) [
        | inl g ↦ inl (string_back deep b (eqb-true b 34 g.0) g.1)
        | inr g ↦ elim (tested P (b == 91) _ _ g.1) [
          | inl k ↦ inl (array_back deep b (eqb-true b 91 k.0) k.1)
          | inr k ↦ elim (tested P (b == 123) _ _ k.1) [
            | inl i ↦ inl (object_back deep b (eqb-true b 123 i.0) i.1)
            | inr i ↦ elim (tested P (b == 110) _ _ i.1) [
              | inl j ↦ inl (name_back deep null 110 letters.Ull b (eqb-true b 110 j.0) refl (λ plan w. w) j.1)
              | inr j ↦ elim (tested P (b == 116) _ _ j.1) [
                | inl l ↦ inl (name_back deep (boolean true) 116 letters.Rue b (eqb-true b 116 l.0) refl (λ plan w. w) l.1)
                | inr l ↦ elim (tested P (b == 102) _ _ l.1) [
                  | inl q ↦ inl (name_back deep (boolean false) 102 letters.Alse b (eqb-true b 102 q.0) refl (λ plan w. w) q.1)
                  | inr q ↦ elim (tested P (is_space b) (Some r) None q.1) [
                    | inl s ↦ inr (space_from_test b s.0, s.1)
                    | inr s ↦ absurd s.1
                  ]
                ]
              ]
            ]
          ]
        ]
      ]

  part_back : (deep : ℕ) (b : ℕ) (o : Option Part) → first_part b ≡ o → Lands (deep + length frames) (begin_at r at b o) t (at + 1) rest → Found deep b
  part_back deep b None same h = other_back deep b h
  part_back deep b (Some p) same (d, depth, (tail, plan, is, e, h)) =
      let ends_so : begins (b ∷ tail) ≡ true = subst (λ (o : Option Part). ends o tail ≡ true) (sym same) is in
      inl (begun deep (number (b ∷ tail)) plan b (
        e,
        (
          number_from_begins (b ∷ tail) ends_so,
          (refl, same_depth (λ (n : ℕ). Word tail (Behind n frames plan) (at + 1) rest) d deep (length frames) depth h),
        ),
      ))

  pub value_back : (deep : ℕ) (b : ℕ) → Goal deep b → Found deep b
  value_back deep b h = part_back deep b (first_part b) refl h
