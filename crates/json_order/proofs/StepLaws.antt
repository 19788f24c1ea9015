-- A step takes one byte from the rest of the text; without a next reader no rest begins with the byte.
use Rattle.std.proofs.Common.{ℕ, zero, suc, ◌+◌, ◌≤◌, Bool, ◌⊎◌, inl, inr, List, [], ◌∷◌, ◌++◌, length, Option, Some, refl, arith}
use Rattle.std.proofs.lemmas.Str.{is_utf8-from_IsUtf8}
use Rattle.json_order.specs.declared.tree.JsonTree.{JsonTree}
use Rattle.json_order.specs.declared.frame.Frame.{Frame}
use Rattle.json_order.specs.declared.frame.Frame.TheVariants as frame
use Rattle.json_order.specs.declared.mode.Mode.{Mode}
use Rattle.json_order.specs.declared.mode.Mode.TheVariants as mode
use Rattle.json_order.specs.declared.reader.Reader.{Reader}
use Rattle.json_order.specs.Grammar.{IsSpace}
use Rattle.json_order.specs.inner.Steps.{step, step_in, value_step, alone}
use Rattle.json_order.proofs.Rest.{Rest, RestOfValue, Lands}
use Rattle.json_order.proofs.Tests.{at_space, same_depth}
use Rattle.json_order.proofs.Places.{reader}
use Rattle.json_order.proofs.ValueLaws.{value_on, value_back, Begun}
use Rattle.json_order.proofs.AfterLaws.{after_on, after_back}
use Rattle.json_order.proofs.ItemLaws.{first_item_on, first_item_back, first_key_on, first_key_back, key_on, key_back, colon_on, colon_back}
use Rattle.json_order.proofs.WordLaws.{name_on_law, name_back_law, number_on_law, number_back_law}
use Rattle.json_order.proofs.StringLaws.{chars_on, chars_back, escape_on_law, escape_back_law, hex_on, hex_back, tail_on_law, tail_back_law}
use Rattle.json_order.proofs.Valid.{Valid, IsUtf8-ended, step_valid, AllValid}

module _ (start : ℕ) (word : List ℕ) (high : Option ℕ) (is_key : Bool) (root : Option JsonTree) (deep : ℕ) (t : JsonTree) (at : ℕ) (rest : List ℕ) (b : ℕ) where
  abbrev R : Mode → List Frame → Reader
  R m frames = reader m start word high is_key frames root

  abbrev On : Mode → List Frame → Type 0
  On m frames = Valid (R m frames) → Rest deep (R m frames) t at (b ∷ rest) → Lands (deep + length frames) (step_in m (R m frames) at b) t (at + 1) rest

  on_value : (frames : List Frame) → On mode.Value frames
  on_value frames valid (x, plan, e, inl h) = value_on mode.Value start word high is_key frames root t at rest deep plan x b e h
  on_value frames valid (x, plan, e, inr (space, h)) =
      let k : Lands (deep + length frames) (Some (R mode.Value frames)) t (at + 1) rest = (deep, refl, (x, plan, e, h)) in
      at_space (λ (c : ℕ). Lands (deep + length frames) (value_step (R mode.Value frames) at c) t (at + 1) rest) k k k k b space

  on_first_item : (frames : List Frame) → On mode.FirstItem frames
  on_first_item [] valid h = absurd h
  on_first_item (frame.List p xs ∷ frames) valid h = first_item_on start word high is_key root deep t at rest p xs frames b h
  on_first_item (frame.Object p ms key key_at ∷ frames) valid h = absurd h

  on_first_key : (frames : List Frame) → On mode.FirstKey frames
  on_first_key [] valid h = absurd h
  on_first_key (frame.List p xs ∷ frames) valid h = absurd h
  on_first_key (frame.Object p ms key key_at ∷ frames) valid h = first_key_on start word high is_key root deep t at rest p ms key key_at frames b h

  on_key : (frames : List Frame) → On mode.Key frames
  on_key [] valid h = absurd h
  on_key (frame.List p xs ∷ frames) valid h = absurd h
  on_key (frame.Object p ms key key_at ∷ frames) valid h = key_on start word high is_key root deep t at rest p ms key key_at frames b h

  on_colon : (frames : List Frame) → On mode.Colon frames
  on_colon [] valid h = absurd h
  on_colon (frame.List p xs ∷ frames) valid h = absurd h
  on_colon (frame.Object p ms key key_at ∷ frames) valid h = colon_on start word high is_key root deep t at rest p ms key key_at frames b h

  on_tail : (low most left : ℕ) (frames : List Frame) → On (mode.Tail low most left) frames
  on_tail low most zero frames valid h = absurd (let some : 1 ≤ zero = valid.some in omega arith)
  on_tail low most (suc left) frames valid h = tail_on_law start is_key frames root deep t word high at rest low most left b h

  step_in_on : (m : Mode) (frames : List Frame) → On m frames
  step_in_on mode.Value frames = on_value frames
  step_in_on mode.FirstItem frames = on_first_item frames
  step_in_on mode.FirstKey frames = on_first_key frames
  step_in_on mode.Key frames = on_key frames
  step_in_on mode.Colon frames = on_colon frames
  step_in_on mode.After frames = λ valid h. after_on start word high is_key root deep t at rest frames b h
  step_in_on (mode.Name l) frames = λ valid h. name_on_law start word high is_key frames root deep t at rest l b h
  step_in_on (mode.Number p) frames = λ valid h. number_on_law start high is_key root deep t at rest frames word p b (is_utf8-from_IsUtf8 word valid) h
  step_in_on mode.Chars frames = λ valid h. chars_on start is_key frames root deep t word high at rest b
      (is_utf8-from_IsUtf8 (word ++ alone high) (IsUtf8-ended word high valid.0)) h
  step_in_on mode.Escape frames = λ valid h. escape_on_law start is_key frames root deep t word high at rest b h
  step_in_on (mode.Hex ds) frames = λ valid h. hex_on start is_key frames root deep t word high at rest ds b h
  step_in_on (mode.Tail low most left) frames = on_tail low most left frames

  abbrev Back : Mode → List Frame → Type 0
  Back m frames = Valid (R m frames) → Lands (deep + length frames) (step_in m (R m frames) at b) t (at + 1) rest → Rest deep (R m frames) t at (b ∷ rest)

  value_found : (frames : List Frame) → Begun mode.Value start word high is_key frames root t at rest deep b ⊎ (IsSpace b × Lands (deep + length frames) (Some (R mode.Value frames)) t (at + 1) rest)
      → RestOfValue deep frames t at (b ∷ rest)
  value_found frames (inl (x, plan, e, h)) = (x, plan, e, inl h)
  value_found frames (inr (space, (d, same, h))) =
      let k : RestOfValue deep frames t (at + 1) rest = same_depth (λ (n : ℕ). RestOfValue n frames t (at + 1) rest) d deep (length frames) same h in
      (k.0, k.1, k.2, inr (space, k.3))

  back_first_item : (frames : List Frame) → Back mode.FirstItem frames
  back_first_item [] valid h = absurd valid
  back_first_item (frame.List p xs ∷ frames) valid h = first_item_back start word high is_key root deep t at rest p xs frames b h
  back_first_item (frame.Object p ms key key_at ∷ frames) valid h = absurd valid

  back_first_key : (frames : List Frame) → Back mode.FirstKey frames
  back_first_key [] valid h = absurd valid
  back_first_key (frame.List p xs ∷ frames) valid h = absurd valid
  back_first_key (frame.Object p ms key key_at ∷ frames) valid h = first_key_back start word high is_key root deep t at rest p ms key key_at frames b h

  back_key : (frames : List Frame) → Back mode.Key frames
  back_key [] valid h = absurd valid
  back_key (frame.List p xs ∷ frames) valid h = absurd valid
  back_key (frame.Object p ms key key_at ∷ frames) valid h = key_back start word high is_key root deep t at rest p ms key key_at frames b h

  back_colon : (frames : List Frame) → Back mode.Colon frames
  back_colon [] valid h = absurd valid
  back_colon (frame.List p xs ∷ frames) valid h = absurd valid
  back_colon (frame.Object p ms key key_at ∷ frames) valid h = colon_back start word high is_key root deep t at rest p ms key key_at frames b h

  back_tail : (low most left : ℕ) (frames : List Frame) → Back (mode.Tail low most left) frames
  back_tail low most zero frames valid h = absurd (let some : 1 ≤ zero = valid.some in omega arith)
  back_tail low most (suc left) frames valid h = tail_back_law start is_key frames root deep t word high at rest low most left b h

  step_in_back : (m : Mode) (frames : List Frame) → Back m frames
  step_in_back mode.Value frames = λ valid h. value_found frames (value_back mode.Value start word high is_key frames root t at rest deep b h)
  step_in_back mode.FirstItem frames = back_first_item frames
  step_in_back mode.FirstKey frames = back_first_key frames
  step_in_back mode.Key frames = back_key frames
  step_in_back mode.Colon frames = back_colon frames
  step_in_back mode.After frames = λ valid h. after_back start word high is_key root deep t at rest frames b h
  step_in_back (mode.Name l) frames = λ valid h. name_back_law start word high is_key frames root deep t at rest l b h
  step_in_back (mode.Number p) frames = λ valid h. number_back_law start high is_key root deep t at rest frames word p b h
  step_in_back mode.Chars frames = λ valid h. chars_back start is_key frames root deep t word high at rest b h
  step_in_back mode.Escape frames = λ valid h. escape_back_law start is_key frames root deep t word high at rest b h
  step_in_back (mode.Hex ds) frames = λ valid h. hex_back start is_key frames root deep t word high at rest ds b h
  step_in_back (mode.Tail low most left) frames = back_tail low most left frames

pub step_on : (r : Reader) (deep : ℕ) (t : JsonTree) (at b : ℕ) (rest : List ℕ) → Valid r → Rest deep r t at (b ∷ rest)
    → Lands (deep + length r.stack) (step r at b) t (at + 1) rest
unfolding step
step_on r deep t at b rest valid h = step_in_on r.start r.word r.high r.is_key r.root deep t at rest b r.mode r.stack valid h

pub step_back : (r : Reader) (deep : ℕ) (t : JsonTree) (at b : ℕ) (rest : List ℕ) → Valid r → Lands (deep + length r.stack) (step r at b) t (at + 1) rest
    → Rest deep r t at (b ∷ rest)
unfolding step
step_back r deep t at b rest valid h = step_in_back r.start r.word r.high r.is_key r.root deep t at rest b r.mode r.stack valid h

pub valid_step : (r : Reader) (at b : ℕ) → Valid r → AllValid (step r at b)
unfolding step
valid_step r at b valid = step_valid r.mode r at b refl valid
