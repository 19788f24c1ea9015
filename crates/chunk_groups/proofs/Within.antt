-- Modules of a graph are in its range.
use Rattle.std.proofs.Common.{◌≡◌, ℕ, suc, ◌+◌, ◌<◌, ◌≤◌, Bool, true, false, cond, List, [], ◌∷◌, length, get_or, map, refl, ap, sym, subst, ◌∙◌, arith, inl, inr}
use Rattle.std.specs.Prelude.{◌==◌, nat_lt, Contains, All, Option, Some, None, option_map, option_and_then, filter_map, flat_map, position}
use Rattle.std.specs.Option.{IfSome}
use Rattle.std.specs.List.{enumerate_from, position_or_len}
use Rattle.std.proofs.lemmas.Bool.{cases_lt, ltb-true}
use Rattle.std.proofs.lemmas.List.{get_or_default, length-map, get_or_past}
use Rattle.std.proofs.lemmas.List.Elements.{All-nil, All-cons, All-append, All-map, All-contains, All-weaker, All-same}
use Rattle.pack_util.specs.declared.number.FileId.{FileId}
use Rattle.pack_util.specs.declared.number.ModuleNo.{ModuleNo}
use Rattle.graph_types.specs.declared.block.Block.{Block}
use Rattle.graph_types.specs.declared.item.Item.{Item}
use Rattle.graph_types.specs.declared.record.ModRecord.{ModRecord}
use Rattle.graph_types.specs.Edges.{is_lazy, sync_target, sync_targets_of, block_of, blocks_in, blocks_of}
use Rattle.graph_types.specs.Modules.{files_of, module_of, module_no}
use Rattle.chunk_groups.specs.Grouped.{numbers, targets_at}
use Rattle.chunk_groups.proofs.Marks.{contains-none}

all-given : {X Y : Type 0} (P : Y → Type 0) (h : X → Option Y) → ((x : X) → IfSome (h x) P) → (xs : List X) → All P (filter_map h xs)
all-given P h each [] = All-nil P
all-given {X} {Y} P h each (x ∷ xs) = at (all-given P h each xs) (h x) (each x) refl
  where
    at : All P (filter_map h xs) → (o : Option Y) → IfSome o P → h x ≡ o → All P (filter_map h (x ∷ xs))
    at rest None given is = rw is rest
    at rest (Some y) given is = rw is (All-cons P y (filter_map h xs) given rest)

pub all-flat : {X Y : Type 0} (P : Y → Type 0) (h : X → List Y) (xs : List X) → All (λ x. All P (h x)) xs → All P (flat_map h xs)
all-flat P h [] each = All-nil P
all-flat P h (x ∷ xs) each = All-append P (h x) (flat_map h xs) (each 0 x (omega arith)) (all-flat P h xs (λ k d l. each (suc k) d (omega arith)))

if-tested : (test : Bool) (k n : ℕ) → (test ≡ true → k < n) → IfSome (cond test (Some k) None) (λ i. i < n)
if-tested true k n h = h refl
if-tested false k n h = tt

if-mapped : {X Y : Type 0} (P : Y → Type 0) (f : X → Y) (o : Option X) → IfSome o (λ x. P (f x)) → IfSome (option_map f o) P
if-mapped P f None given = tt
if-mapped P f (Some x) given = given

if-chained : {X Y : Type 0} (P : Y → Type 0) (f : X → Option Y) → ((x : X) → IfSome (f x) P) → (o : Option X) → IfSome (option_and_then f o) P
if-chained P f each None = tt
if-chained P f each (Some x) = each x

module _ (records : List ModRecord) where
  abbrev IsModule : ModuleNo → Type 0
  IsModule m = m.0 < length records

  module-within : (file : FileId) → IfSome (module_of records file) IsModule
  module-within file =
      let files = files_of records in
      let p : ℕ → Bool = λ number. number == file.0 in
      let many : length files ≡ length records = length-map records (λ rec. rec.file.0) in
      if-mapped IsModule module_no (position p files) (subst (λ (n : ℕ). IfSome (position p files) (λ i. i < n)) many (if-tested (nat_lt (position_or_len p files) (length files)) (position_or_len p files) (length files) (ltb-true _ _)))

  target-within : (item : Item) → IfSome (sync_target records item) IsModule
  target-within item = at (is_lazy item.kind) refl
    where
      at : (lazy : Bool) → is_lazy item.kind ≡ lazy → IfSome (sync_target records item) IsModule
      at true is = rw is tt
      at false is = rw is (if-chained IsModule (module_of records) module-within item.target)

  pub sync-within : (rec : ModRecord) → All IsModule (sync_targets_of records rec)
  sync-within rec = all-given IsModule (sync_target records) target-within rec.items

  -- the list of targets of a module, as a look-up gives it
  pub listed-within : (m : ℕ) (targets : List ModuleNo) → m < length records → targets ≡ get_or (map (sync_targets_of records) records) m targets → All IsModule targets
  listed-within m targets l is =
      let each : All (All IsModule) (map (sync_targets_of records) records) = All-map (All IsModule) (sync_targets_of records) records (λ k d inside. sync-within (get_or records k d)) in
      All-same IsModule targets _ is (each m targets (omega (arith, length-map records (sync_targets_of records))))

  pub listed-numbers : (m : ℕ) (targets : List ModuleNo) → m < length records → targets ≡ get_or (map (sync_targets_of records) records) m targets → targets_at records m ≡ numbers targets
  listed-numbers m targets l is =
      let lists = map (sync_targets_of records) records in
      ap numbers (sym (is ∙ get_or_default lists m targets [] (omega (arith, length-map records (sync_targets_of records)))))

  pub targets-within : (m t : ℕ) → Contains (targets_at records m) t → t < length records
  targets-within m t found =
      let lists = map (sync_targets_of records) records in
      elim (cases_lt m (length records)) [
        | inl l ↦
            let each : All (λ targets. All (λ t. t < length records) (numbers targets)) lists =
            All-map (λ targets. All (λ t. t < length records) (numbers targets)) (sync_targets_of records) records
            (λ k d inside. All-map (λ t. t < length records) (λ m. m.0) (sync_targets_of records (get_or records k d)) (sync-within (get_or records k d))) in
            All-contains (λ t. t < length records) (targets_at records m) t (each m [] (omega (arith, length-map records (sync_targets_of records)))) found
        | inr g ↦
            let none : targets_at records m ≡ [] = ap numbers (get_or_past lists m [] (omega (arith, length-map records (sync_targets_of records)))) in
            absurd (contains-none t (subst (λ (l : List ℕ). Contains l t) none found))
      ]

  abbrev IsBlock : Block → Type 0
  IsBlock block = (block.«module».0 < length records) × (block.target.0 < length records)

  block-within : (place : ℕ) → place < length records → (numbered : ℕ × Item) → IfSome (block_of records place numbered) IsBlock
  block-within place within numbered = at (is_lazy numbered.1.kind) refl
    where
      held : (o : Option ModuleNo) → IfSome o IsModule → IfSome (option_map (λ target. record { «module» = module_no place; item = numbered.0; target = target }) o) IsBlock
      held None given = tt
      held (Some target) given = (within, given)

      at : (lazy : Bool) → is_lazy numbered.1.kind ≡ lazy → IfSome (block_of records place numbered) IsBlock
      at true is = rw is (held (option_and_then (module_of records) numbered.1.target) (if-chained IsModule (module_of records) module-within numbered.1.target))
      at false is = rw is tt

  numbered-within : (n : ℕ) (recs : List ModRecord) → n + length recs ≤ length records → All (λ numbered. numbered.0 < length records) (enumerate_from n recs)
  numbered-within n [] l = All-nil _
  numbered-within n (rec ∷ recs) l =
      let here : n < length records = omega arith in
      All-cons (λ numbered. numbered.0 < length records) (n, rec) (enumerate_from (n + 1) recs) here (numbered-within (n + 1) recs (omega arith))

  pub blocks-within : All IsBlock (blocks_of records)
  blocks-within = all-flat IsBlock (blocks_in records) (enumerate_from 0 records)
      (All-weaker _ _ (λ numbered within. all-given IsBlock (block_of records numbered.0) (block-within numbered.0 within) (enumerate_from 0 numbered.1.items)) _ (numbered-within 0 records (omega arith)))
