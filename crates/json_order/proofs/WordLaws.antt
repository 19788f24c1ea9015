-- Within a name and within a number.
use Rattle.std.proofs.Common.{◌≡◌, ◌∙◌, ℕ, suc, ◌+◌, Bool, true, cond, ◌⊎◌, inl, inr, List, [], ◌∷◌, ◌++◌, length, Option, Some, None, refl, ap, sym, subst, append-nil, append_assoc, ◌==◌}
use Rattle.std.specs.Prelude.{option_and_then}
use Rattle.std.specs.Str.{is_utf8}
use Rattle.std.proofs.lemmas.Bool.{eqb-true}
use Rattle.json_order.specs.declared.tree.JsonNode.TheVariants as node
use Rattle.json_order.specs.declared.tree.JsonTree.{JsonTree}
use Rattle.json_order.specs.declared.frame.Frame.{Frame}
use Rattle.json_order.specs.declared.frame.Frame.TheVariants as frame
use Rattle.json_order.specs.declared.mode.Mode.TheVariants as mode
use Rattle.json_order.specs.declared.mode.Part.{Part}
use Rattle.json_order.specs.declared.mode.Part.TheVariants as part
use Rattle.json_order.specs.declared.mode.Letters.{Letters}
use Rattle.json_order.specs.declared.mode.Letters.TheVariants as letters
use Rattle.json_order.specs.declared.reader.Reader.{Reader}
use Rattle.json_order.specs.Grammar.{Word, IsSpace, MoreItems, MoreMembers, Value}
use Rattle.json_order.specs.Members.{put}
use Rattle.json_order.specs.inner.Modes.{next_part, is_final, letter_of, letters_after, named}
use Rattle.json_order.specs.inner.Steps.{tree_at, put_value, name_step, name_on, number_step, number_on, closed_number, after_step}
use Rattle.json_order.proofs.Rest.{Plan, root_of, Behind, Lands, RestOfName, RestOfNumber, RestAfter, left_of, ends}
use Rattle.json_order.proofs.Tests.{tested, at_space, same_depth}
use Rattle.json_order.proofs.Places.{reader, place_on, place_back, list_root}
use Rattle.json_order.proofs.AfterLaws.{after_on, after_back}

-- a byte that may stand behind a value
abbrev IsFollower : ℕ → Type 0
IsFollower b = IsSpace b ⊎ (b ≡ 44) ⊎ (b ≡ 93) ⊎ (b ≡ 125)

item_follows : (deep : ℕ) (more : List JsonTree) (behind : ℕ → List ℕ → Type 0) (at : ℕ) (b : ℕ) (rest : List ℕ) → MoreItems (Value deep) more behind at (b ∷ rest) → IsFollower b
item_follows deep [] behind at b rest h = inr (inr (inl h.0))
item_follows deep (x ∷ more) behind at b rest h = inr (inl h.0)

member_follows : (deep : ℕ) (more : List _) (behind : ℕ → List ℕ → Type 0) (at : ℕ) (b : ℕ) (rest : List ℕ) → MoreMembers (Value deep) more behind at (b ∷ rest) → IsFollower b
member_follows deep [] behind at b rest h = inr (inr (inr h.0))
member_follows deep (x ∷ more) behind at b rest h = inr (inl h.0)

follows : (deep : ℕ) (frames : List Frame) (plan : Plan frames) (at : ℕ) (b : ℕ) (rest : List ℕ) → Behind deep frames plan at (b ∷ rest) → IsFollower b
follows deep [] plan at b rest (inl h) = absurd h
follows deep [] plan at b rest (inr h) = inl h.0
follows deep (frame.List p xs ∷ frames) plan at b rest (inl h) = item_follows deep plan.0 (Behind (suc deep) frames plan.1) at b rest h
follows deep (frame.List p xs ∷ frames) plan at b rest (inr h) = inl h.0
follows deep (frame.Object p ms key key_at ∷ frames) plan at b rest (inl h) = member_follows deep plan.0 (Behind (suc deep) frames plan.1) at b rest h
follows deep (frame.Object p ms key key_at ∷ frames) plan at b rest (inr h) = inl h.0

at_follower : (P : ℕ → Type 0) → P 32 → P 9 → P 10 → P 13 → P 44 → P 93 → P 125 → (b : ℕ) → IsFollower b → P b
at_follower P a c d e f g h b (inl is) = at_space P a c d e b is
at_follower P a c d e f g h b (inr (inl is)) = subst P (sym is) f
at_follower P a c d e f g h b (inr (inr (inl is))) = subst P (sym is) g
at_follower P a c d e f g h b (inr (inr (inr is))) = subst P (sym is) h

ends_there : (p : Part) (b : ℕ) → IsFollower b → next_part p b ≡ None
ends_there part.Minus b h = at_follower (λ (c : ℕ). next_part part.Minus c ≡ None) refl refl refl refl refl refl refl b h
ends_there part.Zero b h = at_follower (λ (c : ℕ). next_part part.Zero c ≡ None) refl refl refl refl refl refl refl b h
ends_there part.Integer b h = at_follower (λ (c : ℕ). next_part part.Integer c ≡ None) refl refl refl refl refl refl refl b h
ends_there part.Point b h = at_follower (λ (c : ℕ). next_part part.Point c ≡ None) refl refl refl refl refl refl refl b h
ends_there part.Fraction b h = at_follower (λ (c : ℕ). next_part part.Fraction c ≡ None) refl refl refl refl refl refl refl b h
ends_there part.Letter b h = at_follower (λ (c : ℕ). next_part part.Letter c ≡ None) refl refl refl refl refl refl refl b h
ends_there part.Sign b h = at_follower (λ (c : ℕ). next_part part.Sign c ≡ None) refl refl refl refl refl refl refl b h
ends_there part.Exponent b h = at_follower (λ (c : ℕ). next_part part.Exponent c ≡ None) refl refl refl refl refl refl refl b h

module _ (start : ℕ) (word : List ℕ) (high : Option ℕ) (is_key : Bool) (frames : List Frame) (root : Option JsonTree) (deep : ℕ) (t : JsonTree) (at : ℕ) (rest : List ℕ) where
  abbrev naming : Letters → Reader
  naming l = reader (mode.Name l) start word high is_key frames root

  abbrev NameGoal : Letters → ℕ → Type 0
  NameGoal l b = Lands (deep + length frames) (name_step (naming l) l b) t (at + 1) rest

  pub name_on_law : (l : Letters) (b : ℕ) → RestOfName deep frames start l t at (b ∷ rest) → NameGoal l b
  name_on_law letters.Ull b (plan, e, h) = subst (λ (c : ℕ). NameGoal letters.Ull c) (sym h.0) (deep, refl, (plan, e, h.1))
  name_on_law letters.Ll b (plan, e, h) = subst (λ (c : ℕ). NameGoal letters.Ll c) (sym h.0) (deep, refl, (plan, e, h.1))
  name_on_law letters.L b (plan, e, h) = subst (λ (c : ℕ). NameGoal letters.L c) (sym h.0) (place_on (naming letters.L) (tree_at start (named letters.L)) frames plan deep t (at + 1) rest e h.1)
  name_on_law letters.Rue b (plan, e, h) = subst (λ (c : ℕ). NameGoal letters.Rue c) (sym h.0) (deep, refl, (plan, e, h.1))
  name_on_law letters.Ue b (plan, e, h) = subst (λ (c : ℕ). NameGoal letters.Ue c) (sym h.0) (deep, refl, (plan, e, h.1))
  name_on_law letters.TrueE b (plan, e, h) = subst (λ (c : ℕ). NameGoal letters.TrueE c) (sym h.0) (place_on (naming letters.TrueE) (tree_at start (named letters.TrueE)) frames plan deep t (at + 1) rest e h.1)
  name_on_law letters.Alse b (plan, e, h) = subst (λ (c : ℕ). NameGoal letters.Alse c) (sym h.0) (deep, refl, (plan, e, h.1))
  name_on_law letters.Lse b (plan, e, h) = subst (λ (c : ℕ). NameGoal letters.Lse c) (sym h.0) (deep, refl, (plan, e, h.1))
  name_on_law letters.Se b (plan, e, h) = subst (λ (c : ℕ). NameGoal letters.Se c) (sym h.0) (deep, refl, (plan, e, h.1))
  name_on_law letters.FalseE b (plan, e, h) = subst (λ (c : ℕ). NameGoal letters.FalseE c) (sym h.0) (place_on (naming letters.FalseE) (tree_at start (named letters.FalseE)) frames plan deep t (at + 1) rest e h.1)

  more_letters : (l next : Letters) (c : ℕ) (b : ℕ) → b ≡ c → Lands (deep + length frames) (Some (reader (mode.Name next) start word high is_key frames root)) t (at + 1) rest
      → (plan : Plan frames) × (root_of frames plan (tree_at start (named next)) ≡ t) × Word (c ∷ left_of next) (Behind deep frames plan) at (b ∷ rest)
  more_letters l next c b is (d, same, (plan, e, h)) =
      (plan, e, (is, same_depth (λ (n : ℕ). Word (left_of next) (Behind n frames plan) (at + 1) rest) d deep (length frames) same h))

  last_letter : (l : Letters) (c : ℕ) (b : ℕ) → b ≡ c → Lands (deep + length frames) (Some (put_value (naming l) (tree_at start (named l)) frames)) t (at + 1) rest
      → (plan : Plan frames) × (root_of frames plan (tree_at start (named l)) ≡ t) × Word (c ∷ []) (Behind deep frames plan) at (b ∷ rest)
  last_letter l c b is h =
      let k : (plan : Plan frames) × (root_of frames plan (tree_at start (named l)) ≡ t) × Behind deep frames plan (at + 1) rest
      = place_back (naming l) (tree_at start (named l)) frames deep t (at + 1) rest h in
      (k.0, k.1, (is, k.2))

  taken_letter : (l : Letters) (b : ℕ) → b ≡ letter_of l → Lands (deep + length frames) (Some (name_on (naming l) l (letters_after l))) t (at + 1) rest
      → RestOfName deep frames start l t at (b ∷ rest)
  taken_letter letters.Ull b is h = more_letters letters.Ull letters.Ll 117 b is h
  taken_letter letters.Ll b is h = more_letters letters.Ll letters.L 108 b is h
  taken_letter letters.L b is h = last_letter letters.L 108 b is h
  taken_letter letters.Rue b is h = more_letters letters.Rue letters.Ue 114 b is h
  taken_letter letters.Ue b is h = more_letters letters.Ue letters.TrueE 117 b is h
  taken_letter letters.TrueE b is h = last_letter letters.TrueE 101 b is h
  taken_letter letters.Alse b is h = more_letters letters.Alse letters.Lse 97 b is h
  taken_letter letters.Lse b is h = more_letters letters.Lse letters.Se 108 b is h
  taken_letter letters.Se b is h = more_letters letters.Se letters.FalseE 115 b is h
  taken_letter letters.FalseE b is h = last_letter letters.FalseE 101 b is h

  pub name_back_law : (l : Letters) (b : ℕ) → NameGoal l b → RestOfName deep frames start l t at (b ∷ rest)
  name_back_law l b h = elim (tested (λ (o : Option Reader). Lands (deep + length frames) o t (at + 1) rest) (b == letter_of l) (Some (name_on (naming l) l (letters_after l))) None h) [
    | inl g ↦ taken_letter l b (eqb-true b (letter_of l) g.0) g.1
    | inr g ↦ absurd g.1
  ]

module _ (start : ℕ) (high : Option ℕ) (is_key : Bool) (root : Option JsonTree) (deep : ℕ) (t : JsonTree) (at : ℕ) (rest : List ℕ) where
  -- after a number the reader goes on as after any value
  done_on : (m : _) (x : JsonTree) (frames : List Frame) (plan : Plan frames) (b : ℕ) → root_of frames plan x ≡ t → Behind deep frames plan at (b ∷ rest)
      → Lands (deep + length frames) (after_step (put_value (reader m start [] high is_key frames root) x frames) b) t (at + 1) rest
  done_on m x [] plan b e h = after_on start [] high is_key (Some x) deep t at rest [] b (ap Some e, h)
  done_on m x (frame.List p xs ∷ frames) plan b e h =
      after_on start [] high is_key root deep t at rest (frame.List p (xs ++ (x ∷ [])) ∷ frames) b (plan.0, plan.1, list_root p frames plan.1 xs x plan.0 ∙ e, h)
  done_on m x (frame.Object p ms key key_at ∷ frames) plan b e h =
      after_on start [] high is_key root deep t at rest (frame.Object p (put ms key key_at x) [] key_at ∷ frames) b (plan.0, plan.1, e, h)

  done_back : (m : _) (x : JsonTree) (frames : List Frame) (b : ℕ)
      → Lands (deep + length frames) (after_step (put_value (reader m start [] high is_key frames root) x frames) b) t (at + 1) rest
      → (plan : Plan frames) × (root_of frames plan x ≡ t) × Behind deep frames plan at (b ∷ rest)
  done_back m x [] b h =
      let k : RestAfter deep [] (Some x) t at (b ∷ rest) = after_back start [] high is_key (Some x) deep t at rest [] b h in
      (tt, cc k.0, k.1)
  done_back m x (frame.List p xs ∷ frames) b h =
      let k : RestAfter deep (frame.List p (xs ++ (x ∷ [])) ∷ frames) root t at (b ∷ rest)
      = after_back start [] high is_key root deep t at rest (frame.List p (xs ++ (x ∷ [])) ∷ frames) b h in
      ((k.0, k.1), sym (list_root p frames k.1 xs x k.0) ∙ k.2, k.3)
  done_back m x (frame.Object p ms key key_at ∷ frames) b h =
      let k : RestAfter deep (frame.Object p (put ms key key_at x) [] key_at ∷ frames) root t at (b ∷ rest)
      = after_back start [] high is_key root deep t at rest (frame.Object p (put ms key key_at x) [] key_at ∷ frames) b h in
      ((k.0, k.1), k.2, k.3)

  module _ (frames : List Frame) (word : List ℕ) where
    abbrev counting : Part → Reader
    counting p = reader (mode.Number p) start word high is_key frames root

    abbrev whole : JsonTree
    whole = tree_at start (node.Number word)

    nothing_more : (plan : Plan frames) → root_of frames plan (tree_at start (node.Number (word ++ []))) ≡ root_of frames plan whole
    nothing_more plan = ap (λ (w : List ℕ). root_of frames plan (tree_at start (node.Number w))) (append-nil word)

    one_more : (b : ℕ) (tail : List ℕ) (plan : Plan frames)
        → root_of frames plan (tree_at start (node.Number ((word ++ (b ∷ [])) ++ tail))) ≡ root_of frames plan (tree_at start (node.Number (word ++ (b ∷ tail))))
    one_more b tail plan = ap (λ (w : List ℕ). root_of frames plan (tree_at start (node.Number w))) (append_assoc word (b ∷ []) tail)

    ended_on : (p : Part) (plan : Plan frames) (b : ℕ) (o : Option Part) → o ≡ None → is_final p ≡ true → is_utf8 word ≡ true
        → root_of frames plan whole ≡ t → Behind deep frames plan at (b ∷ rest)
        → Lands (deep + length frames) (number_on (counting p) p b o) t (at + 1) rest
    ended_on p plan b (Some q) same final valid e h = cc
    ended_on p plan b None same final valid e h =
        let P : Option Reader → Type 0 = λ o. Lands (deep + length frames) o t (at + 1) rest in
        let after : Lands (deep + length frames) (after_step (put_value (reader (mode.Number p) start [] high is_key frames root) whole frames) b) t (at + 1) rest
        = done_on (mode.Number p) whole frames plan b e h in
        let closed : P (option_and_then (λ s. after_step s b) (closed_number (counting p)))
        = subst (λ (v : Bool). P (option_and_then (λ s. after_step s b) (cond v (Some (put_value (reader (mode.Number p) start [] high is_key frames root) whole frames)) None))) (sym valid) after in
        subst (λ (v : Bool). P (cond v (option_and_then (λ s. after_step s b) (closed_number (counting p))) None)) (sym final) closed

    more_on : (p : Part) (plan : Plan frames) (b : ℕ) (tail : List ℕ) (o : Option Part) → ends o tail ≡ true
        → root_of frames plan (tree_at start (node.Number (word ++ (b ∷ tail)))) ≡ t → Word tail (Behind deep frames plan) (at + 1) rest
        → Lands (deep + length frames) (number_on (counting p) p b o) t (at + 1) rest
    more_on p plan b tail None is e h = cc
    more_on p plan b tail (Some q) is e h = (deep, refl, (tail, plan, is, one_more b tail plan ∙ e, h))

    pub number_on_law : (p : Part) (b : ℕ) → is_utf8 word ≡ true → RestOfNumber deep frames start word p t at (b ∷ rest)
        → Lands (deep + length frames) (number_step (counting p) p b) t (at + 1) rest
    number_on_law p b valid ([], plan, final, e, h) =
        ended_on p plan b (next_part p b) (ends_there p b (follows deep frames plan at b rest h)) final valid (sym (nothing_more plan) ∙ e) h
    number_on_law p b valid (c ∷ tail, plan, is, e, h) =
        subst (λ (x : ℕ). Lands (deep + length frames) (number_step (counting p) p x) t (at + 1) rest) (sym h.0)
        (more_on p plan c tail (next_part p c) is e h.1)

    ended_back : (p : Part) (b : ℕ) → is_final p ≡ true
        → Lands (deep + length frames) (option_and_then (λ s. after_step s b) (closed_number (counting p))) t (at + 1) rest
        → RestOfNumber deep frames start word p t at (b ∷ rest)
    ended_back p b final h =
        elim (tested (λ (o : Option Reader). Lands (deep + length frames) (option_and_then (λ s. after_step s b) o) t (at + 1) rest) (is_utf8 word)
        (Some (put_value (reader (mode.Number p) start [] high is_key frames root) whole frames)) None h) [
          | inl g ↦ let k : (plan : Plan frames) × (root_of frames plan whole ≡ t) × Behind deep frames plan at (b ∷ rest) = done_back (mode.Number p) whole frames b g.1 in
              ([], k.0, final, nothing_more k.0 ∙ k.1, k.2)
          | inr g ↦ absurd g.1
        ]

    part_back : (p : Part) (b : ℕ) (o : Option Part) → next_part p b ≡ o → Lands (deep + length frames) (number_on (counting p) p b o) t (at + 1) rest
        → RestOfNumber deep frames start word p t at (b ∷ rest)
    part_back p b (Some q) same (d, depth, (tail, plan, is, e, h)) = (
      b ∷ tail,
      plan,
      subst (λ (o : Option Part). ends o tail ≡ true) (sym same) is,
      sym (one_more b tail plan) ∙ e,
      (refl, same_depth (λ (n : ℕ). Word tail (Behind n frames plan) (at + 1) rest) d deep (length frames) depth h),
    )
    part_back p b None same h =
        elim (tested (λ (o : Option Reader). Lands (deep + length frames) o t (at + 1) rest) (is_final p) (option_and_then (λ s. after_step s b) (closed_number (counting p))) None h) [
          | inl g ↦ ended_back p b g.0 g.1
          | inr g ↦ absurd g.1
        ]

    pub number_back_law : (p : Part) (b : ℕ) → Lands (deep + length frames) (number_step (counting p) p b) t (at + 1) rest → RestOfNumber deep frames start word p t at (b ∷ rest)
    number_back_law p b h = part_back p b (next_part p b) refl h
