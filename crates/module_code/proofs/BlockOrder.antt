-- The blocks of a graph ascend by module and item, so halving finds them.
use Rattle.std.proofs.Common.{◌≡◌, ℕ, zero, suc, ◌+◌, ◌<◌, ◌≤◌, ◌^◌, ◌==◌, Bool, true, false, List, [], ◌∷◌, ◌++◌, map, length, get_or, Some, None, Err, refl, sym, ap, subst, ◌∙◌, arith, inl, inr, slice_get}
use Rattle.std.specs.Prelude.{Option, position, flat_map, filter_map, option_map, ◌&&◌, if◌then◌else◌}
use Rattle.std.specs.List.{AllByRecursion, cons_option, enumerate_from, position_or_len}
use Rattle.std.specs.List.Sorted.{IsStrictlyIncreasing, IsBinarySearchResult}
use Rattle.std.specs.Ordering.{nat_cmp}
use Rattle.std.specs.Cmp.{nat_cmp_is}
use Rattle.std.proofs.lemmas.Bool.{cases_lt}
use Rattle.std.proofs.lemmas.Option.{get_or_from_slice_get, slice_get_past}
use Rattle.std.specs.declared.cmp.Ordering.TheVariants.{Equal}
use Rattle.std.proofs.lemmas.Bool.Decides.{nat_tests}
use Rattle.std.proofs.lemmas.List.{length-map}
use Rattle.pack_util.specs.declared.number.ModuleNo.{ModuleNo}
use Rattle.graph_types.proofs.Search.{found, missed}
use Rattle.graph_types.specs.declared.block.Block.{Block}
use Rattle.graph_types.specs.declared.item.Item.{Item}
use Rattle.graph_types.specs.declared.record.ModRecord.{ModRecord}
use Rattle.graph_types.specs.Edges.{block_of, blocks_in, blocks_of}
use Rattle.graph_types.specs.Modules.{module_no}
use Rattle.graph_types.specs.Whole.{IsWhole}
use Rattle.module_code.specs.Blocks.{is_block_of, block_at}
use Rattle.module_code.specs.inner.Places.{place_of}

abbrev pub key : Block → ℕ
key block = place_of block.«module».0 block.item

-- the blocks' places ascend from `low` on and stay below `high`
abbrev Ascend : ℕ → ℕ → List Block → Type 0
Ascend low high [] = low ≤ high
Ascend low high (block ∷ blocks) = (low ≤ key block) × (block.item < 2 ^ 32) × Ascend (key block + 1) high blocks

lowered : (lower low high : ℕ) (blocks : List Block) → lower ≤ low → Ascend low high blocks → Ascend lower high blocks
lowered lower low high [] below up = omega arith
lowered lower low high (block ∷ blocks) below up =
    let first : lower ≤ key block = omega (arith, up.0) in
    (first, up.1, up.2)

widened : (low high higher : ℕ) (blocks : List Block) → high ≤ higher → Ascend low high blocks → Ascend low higher blocks
widened low high higher [] below up = omega arith
widened low high higher (block ∷ blocks) below up = (up.0, up.1, widened (key block + 1) high higher blocks below up.2)

one_after_another : (low middle high : ℕ) (blocks more : List Block) → Ascend low middle blocks → Ascend middle high more → Ascend low high (blocks ++ more)
one_after_another low middle high [] more up rest = lowered low middle high more up rest
one_after_another low middle high (block ∷ blocks) more up rest =
    (up.0, up.1, one_after_another (key block + 1) middle high blocks more up.2 rest)

abbrev block_with : ℕ → ℕ → ModuleNo → Block
block_with number item target = record { «module» = module_no number; item = item; target = target }

-- one more item, which is a block or none
one_item : (number item high : ℕ) (lazy : Bool) (target : Option ModuleNo) (blocks : List Block) → item < 2 ^ 32 → Ascend (place_of number (item + 1)) high blocks
    → Ascend (place_of number item) high (cons_option (if lazy then option_map (block_with number item) target else None) blocks)
one_item number item high true (Some target) blocks few up =
    let low : place_of number item ≤ place_of number item = omega arith in
    let next : place_of number item + 1 ≤ place_of number (item + 1) = omega arith in
    (low, few, lowered (place_of number item + 1) (place_of number (item + 1)) high blocks next up)
one_item number item high true None blocks few up =
    let next : place_of number item ≤ place_of number (item + 1) = omega arith in
    lowered (place_of number item) (place_of number (item + 1)) high blocks next up
one_item number item high false target blocks few up =
    let next : place_of number item ≤ place_of number (item + 1) = omega arith in
    lowered (place_of number item) (place_of number (item + 1)) high blocks next up

items_ascend : (records : List ModRecord) (number from : ℕ) (items : List Item) → from + length items < 2 ^ 32
    → Ascend (place_of number from) (place_of number (from + length items)) (filter_map (block_of records number) (enumerate_from from items))
items_ascend records number from [] few = omega arith
items_ascend records number from (item ∷ items) few =
    let same : (from + 1) + length items ≡ from + length (item ∷ items) = omega arith in
    let fewer : (from + 1) + length items < 2 ^ 32 = omega (arith, same) in
    let rest = items_ascend records number (from + 1) items fewer in
    one_item number from _ _ _ _ (omega arith) (subst (λ end. Ascend (place_of number (from + 1)) (place_of number end) (filter_map (block_of records number) (enumerate_from (from + 1) items))) same rest)

modules_ascend : (records : List ModRecord) (from : ℕ) (rest : List ModRecord) → AllByRecursion IsWhole rest
    → Ascend (place_of from 0) (place_of (from + length rest) 0) (flat_map (blocks_in records) (enumerate_from from rest))
modules_ascend records from [] whole = omega arith
modules_ascend records from (rec ∷ rest) whole =
    let same : (from + 1) + length rest ≡ from + length (rec ∷ rest) = omega arith in
    let few : 0 + length rec.items < 2 ^ 32 = omega (arith, whole.0.few) in
    let below : place_of from (0 + length rec.items) ≤ place_of (from + 1) 0 = omega (arith, whole.0.few) in
    let later = subst (λ end. Ascend (place_of (from + 1) 0) (place_of end 0) (flat_map (blocks_in records) (enumerate_from (from + 1) rest))) same (modules_ascend records (from + 1) rest whole.1) in
    one_after_another _ _ _ _ _ (widened _ _ _ _ below (items_ascend records from 0 rec.items few)) later

first_above : (low high : ℕ) (blocks : List Block) → Ascend low high blocks → 0 < length (map key blocks) → low ≤ get_or (map key blocks) 0 0
first_above low high [] up some = absurd (omega arith)
first_above low high (block ∷ blocks) up some = up.0

increasing : (low high : ℕ) (blocks : List Block) → Ascend low high blocks → IsStrictlyIncreasing (map key blocks)
increasing low high [] up i within = absurd (omega arith)
increasing low high (block ∷ blocks) up zero within =
    let next = first_above (key block + 1) high blocks up.2 (omega arith) in
    omega (arith, next)
increasing low high (block ∷ blocks) up (suc i) within =
    let next : suc i + 1 ≡ suc (i + 1) = omega arith in
    rw next (increasing (key block + 1) high blocks up.2 i (omega arith))

few_at : (low high : ℕ) (blocks : List Block) (i : ℕ) (d : Block) → Ascend low high blocks → i < length blocks → (get_or blocks i d).item < 2 ^ 32
few_at low high [] i d up within = absurd (omega arith)
few_at low high (block ∷ blocks) zero d up within = up.1
few_at low high (block ∷ blocks) (suc i) d up within = few_at (key block + 1) high blocks i d up.2 (omega arith)

-- the number of a place tells its module and its item
agree : (number item other_number other_item : ℕ) → item < 2 ^ 32 → other_item < 2 ^ 32
    → (number == other_number && item == other_item) ≡ (place_of number item == place_of other_number other_item)
agree number item other_number other_item few other_few = grind (arith, nat_tests)

same_place : (low high number item : ℕ) (blocks : List Block) → item < 2 ^ 32 → Ascend low high blocks
    → position_or_len (is_block_of number item) blocks ≡ position_or_len (λ place. place == place_of number item) (map key blocks)
same_place low high number item [] few up = refl
same_place low high number item (block ∷ blocks) few up =
    rw (agree block.«module».0 block.item number item up.1 few, same_place (key block + 1) high number item blocks few up.2)

module _ (records : List ModRecord) (whole : AllByRecursion IsWhole records) (blocks : List Block) (is : blocks ≡ blocks_of records) where
  ascending : Ascend (place_of 0 0) (place_of (0 + length records) 0) blocks
  ascending = rw is (modules_ascend records 0 records whole)

  rising : IsStrictlyIncreasing (map key blocks)
  rising = increasing _ _ blocks ascending

  by_place : (number item : ℕ) → item < 2 ^ 32 → position (λ place. place == place_of number item) (map key blocks) ≡ block_at records number item
  by_place number item few =
      let same : position (is_block_of number item) blocks ≡ position (λ place. place == place_of number item) (map key blocks) =
      rw (same_place _ _ number item blocks few ascending, length-map) in
      sym same ∙ ap (position (is_block_of number item)) is

  pub found_block : (number item block : ℕ) → item < 2 ^ 32 → block < length blocks
      → ((d : Block) → nat_cmp (key (get_or blocks block d)) (place_of number item) ≡ Equal)
      → (Some block ≡ block_at records number item) × (block < length (blocks_of records))
  found_block number item block few within at =
      let there : block < length (blocks_of records) = rw is at within in
      (found key blocks (place_of number item) block rising within at ∙ by_place number item few, there)

  pub missed_block : (number item place : ℕ) → item < 2 ^ 32
      → IsBinarySearchResult (λ block. nat_cmp (key block) (place_of number item)) blocks (Err place)
      → None ≡ block_at records number item
  missed_block number item place few at = missed key blocks (place_of number item) place rising at ∙ by_place number item few

  pub block_found : (number : ℕ) (block : Block) → slice_get blocks number ≡ Some block → block_at records block.«module».0 block.item ≡ Some number
  block_found number block there = elim (cases_lt number (length blocks)) [
    | inl within ↦
        let at : (d : Block) → get_or blocks number d ≡ block = λ d. get_or_from_slice_get blocks number block d there in
        let few : block.item < 2 ^ 32 = subst (λ (one : Block). one.item < 2 ^ 32) (at block) (few_at _ _ blocks number block ascending within) in
        let same : nat_cmp (key block) (key block) ≡ Equal = sym (nat_cmp_is (key block) (key block) Equal refl) in
        sym (found_block block.«module».0 block.item number few within (λ d. ap (λ one. nat_cmp (key one) (key block)) (at d) ∙ same)).0
    | inr past ↦ absurd (grind (arith, slice_get_past blocks number past, there))
  ]
