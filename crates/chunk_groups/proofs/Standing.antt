-- Each block of a graph is an item of one of its modules.
use Rattle.std.proofs.Common.{◌≡◌, ℕ, suc, ◌+◌, ◌<◌, Bool, true, false, List, [], ◌∷◌, length, get_or, refl, sym, subst, arith}
use Rattle.std.specs.Prelude.{All, Option, None, Some, option_map, option_and_then, filter_map, if◌then◌else◌}
use Rattle.std.specs.Option.{IfSome}
use Rattle.std.specs.List.{enumerate_from}
use Rattle.std.proofs.lemmas.List.Elements.{All-nil, All-cons}
use Rattle.std.proofs.lemmas.List.{get_or_default}
use Rattle.std.proofs.lemmas.List.FromFn.{length-enumerate_from, get_or-enumerate_from}
use Rattle.pack_util.specs.declared.number.ModuleNo.{ModuleNo}
use Rattle.graph_types.specs.declared.block.Block.{Block}
use Rattle.graph_types.specs.declared.item.Item.{Item}
use Rattle.graph_types.specs.declared.record.ModRecord.{ModRecord}
use Rattle.graph_types.specs.Edges.{is_lazy, block_of, blocks_in, blocks_of}
use Rattle.graph_types.specs.Modules.{module_of, module_no}
use Rattle.chunk_groups.specs.inner.Filing.{StandsIn}
use Rattle.chunk_groups.proofs.Within.{all-flat}

all-some : {X Y : Type 0} (P : Y → Type 0) (h : X → Option Y) (xs : List X) → All (λ x. IfSome (h x) P) xs → All P (filter_map h xs)
all-some P h [] each = All-nil P
all-some {X} {Y} P h (x ∷ xs) each = at (all-some P h xs (λ k d l. each (suc k) d (omega arith))) (h x) (each 0 x (omega arith)) refl
  where
    at : All P (filter_map h xs) → (o : Option Y) → IfSome o P → h x ≡ o → All P (filter_map h (x ∷ xs))
    at rest None given is = rw is rest
    at rest (Some y) given is = rw is (All-cons P y (filter_map h xs) given rest)

module _ (records : List ModRecord) where
  one-stands : (p : ℕ) (rec : ModRecord) → p < length records → ((d : ModRecord) → get_or records p d ≡ rec) → (i : ℕ) (item : Item) → i < length rec.items → IfSome (block_of records p (i, item)) (StandsIn records)
  one-stands p rec within is i item inside = at (is_lazy item.kind) (option_and_then (module_of records) item.target)
    where
      at : (lazy : Bool) (o : Option ModuleNo) → IfSome (if lazy then option_map (λ target. record { «module» = module_no p; item = i; target = target }) o else None) (StandsIn records)
      at true None = tt
      at true (Some target) = record { within = within; item = λ d. subst (λ (r : ModRecord). i < length r.items) (sym (is d)) inside }
      at false o = tt

  module-stands : (p : ℕ) (rec : ModRecord) → p < length records → ((d : ModRecord) → get_or records p d ≡ rec) → All (StandsIn records) (blocks_in records (p, rec))
  module-stands p rec within is = all-some (StandsIn records) (block_of records p) (enumerate_from 0 rec.items) (λ k d l.
      let inside : k < length rec.items = omega (arith, length-enumerate_from 0 rec.items) in
      subst (λ (n : ℕ × Item). IfSome (block_of records p n) (StandsIn records)) (sym (get_or-enumerate_from 0 rec.items k d inside)) (one-stands p rec within is (0 + k) (get_or rec.items k d.1) (omega arith)))

  pub blocks-stand : All (StandsIn records) (blocks_of records)
  blocks-stand = all-flat (StandsIn records) (blocks_in records) (enumerate_from 0 records) (λ k d l.
      let inside : k < length records = omega (arith, length-enumerate_from 0 records) in
      subst (λ (n : ℕ × ModRecord). All (StandsIn records) (blocks_in records n)) (sym (get_or-enumerate_from 0 records k d inside))
      (module-stands (0 + k) (get_or records k d.1) (omega arith) (λ e. at-same k d.1 e inside)))
    where
      at-same : (k : ℕ) (d e : ModRecord) → k < length records → get_or records (0 + k) e ≡ get_or records k d
      at-same k d e inside = grind (arith, get_or_default)

pub stands-at : (records : List ModRecord) (blocks : List Block) (k : ℕ) (d : Block) → blocks ≡ blocks_of records → k < length blocks → StandsIn records (get_or blocks k d)
stands-at records blocks k d is within = subst (λ (l : List Block). All (StandsIn records) l) (sym is) (blocks-stand records) k d within
