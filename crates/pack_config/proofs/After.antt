-- The least fault after several lists of them, and after those of each member of a list.
use Rattle.std.proofs.Common.{◌≡◌, ℕ, ◌+◌, ◌<◌, ◌≤◌, List, [], ◌∷◌, ◌++◌, map, length, take, get_or, Option, Some, None, refl, sym, ap, ◌∙◌}
use Rattle.std.specs.List.{flat_map}
use Rattle.std.specs.Prelude.{filter_map, option_to_list}
use Rattle.std.proofs.lemmas.List.{take_more, take_all, append-nil, map-append}
use Rattle.std.proofs.lemmas.List.Concat.{flat_map-append}
use Rattle.std.proofs.lemmas.List.Elements.{filter_map-append}
use Rattle.pack_config.specs.declared.fault.ConfigFault.{ConfigFault}
use Rattle.pack_config.specs.inner.Found.{after, sooner}

pub after_more : (least : Option ConfigFault) (faults more : List ConfigFault) → after least (faults ++ more) ≡ after (after least faults) more
after_more least [] more = refl
after_more least (fault ∷ faults) more = after_more (sooner least fault) faults more

by_found : {X Y : Type 0} (h : X → Option Y) (x : X) (found : Option Y) → h x ≡ found → option_to_list (h x) ≡ filter_map h (x ∷ [])
by_found h x None e = rw e refl
by_found h x (Some y) e = rw e refl

one_kept : {X Y : Type 0} (h : X → Option Y) (x : X) → option_to_list (h x) ≡ filter_map h (x ∷ [])
one_kept h x = by_found h x (h x) refl

-- the members before a place, and the one at it
module _ {X : Type 0} (xs : List X) (i : ℕ) (x : X) (within : i < length xs) (is : x ≡ get_or xs i x) where
  front : take (i + 1) xs ≡ take i xs ++ x ∷ []
  front = take_more xs i x within ∙ ap (λ y. take i xs ++ y ∷ []) (sym is)

  pub each_more : (f : X → List ConfigFault) (least now next : Option ConfigFault) →
      now ≡ after least (flat_map f (take i xs)) → next ≡ after now (f x) → next ≡ after least (flat_map f (take (i + 1) xs))
  each_more f least now next before after_x =
      after_x ∙ ap (λ o. after o (f x)) before ∙ sym (after_more least (flat_map f (take i xs)) (f x))
      ∙ ap (λ more. after least (flat_map f (take i xs) ++ more)) (sym (append-nil (f x)))
      ∙ ap (after least) (sym (flat_map-append f (take i xs) (x ∷ [])) ∙ ap (flat_map f) (sym front))

  pub kept_more : {Y : Type 0} (h : X → Option Y) (old new : List Y) →
      old ≡ filter_map h (take i xs) → new ≡ old ++ option_to_list (h x) → new ≡ filter_map h (take (i + 1) xs)
  kept_more h old new before after_x =
      after_x ∙ ap (λ ys. ys ++ option_to_list (h x)) before ∙ ap (λ ys. filter_map h (take i xs) ++ ys) (one_kept h x)
      ∙ sym (filter_map-append h (take i xs) (x ∷ [])) ∙ ap (filter_map h) (sym front)

  pub mapped_more : {Y : Type 0} (f : X → Y) (old new : List Y) (y : Y) →
      old ≡ map f (take i xs) → y ≡ f x → new ≡ old ++ y ∷ [] → new ≡ map f (take (i + 1) xs)
  mapped_more f old new y before is_y pushed =
      pushed ∙ ap (λ ys. ys ++ y ∷ []) before ∙ ap (λ z. map f (take i xs) ++ z ∷ []) is_y
      ∙ sym (map-append f (take i xs) (x ∷ [])) ∙ ap (map f) (sym front)

  -- a list made by a function of lists that goes through their joins
  pub made_more : {Y : Type 0} (make : List X → List Y) → ((ys zs : List X) → make (ys ++ zs) ≡ make ys ++ make zs) → (old new : List Y) →
      old ≡ make (take i xs) → new ≡ old ++ make (x ∷ []) → new ≡ make (take (i + 1) xs)
  made_more make joins old new before after_x =
      after_x ∙ ap (λ ys. ys ++ make (x ∷ [])) before ∙ sym (joins (take i xs) (x ∷ [])) ∙ ap make (sym front)

pub each_all : {X : Type 0} (f : X → List ConfigFault) (xs : List X) (i : ℕ) (least now : Option ConfigFault) → length xs ≤ i →
    now ≡ after least (flat_map f (take i xs)) → now ≡ after least (flat_map f xs)
each_all f xs i least now long h = h ∙ ap (λ ys. after least (flat_map f ys)) (take_all i xs long)
