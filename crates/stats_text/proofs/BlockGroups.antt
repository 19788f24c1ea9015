-- The groups that modules load: blocks belong to modules, and one more block adds its group to its module's list.
use Rattle.std.proofs.Common.{◌≡◌, ℕ, ◌+◌, ◌<◌, Bool, true, false, cond, ◌==◌, List, [], ◌∷◌, ◌++◌, map, length, get_or, refl, ap, sym, ◌∙◌, inl, inr, append-nil, arith}
use Rattle.std.proofs.Math.ListN.{set}
use Rattle.std.proofs.lemmas.Bool.{cases_eq, eq-eqb, ne_eqb, cond-true, cond-false}
use Rattle.std.proofs.lemmas.List.{get_or_default, get_or-set_same, get_or-set_other, length-set}
use Rattle.std.proofs.lemmas.Option.{slice_get_read}
use Rattle.std.proofs.lemmas.List.Elements.{All-from_recursion, All-append}
use Rattle.std.proofs.lemmas.List.FromFn.{fill_by_all, get_or-map-range_with_len, length-map-range_with_len}
use Rattle.std.specs.List.{All, AllByRecursion, enumerate_from, range_with_len}
use Rattle.std.specs.Prelude.{Option, Some, None, option_map, option_to_list, unwrap_or, filter_map, flat_map, slice_get}
use Rattle.pack_util.specs.declared.number.GroupNo.{GroupNo}
use Rattle.pack_util.specs.declared.number.ModuleNo.{ModuleNo}
use Rattle.graph_types.specs.declared.block.Block.{Block}
use Rattle.graph_types.specs.declared.item.Item.{Item}
use Rattle.graph_types.specs.declared.record.ModRecord.{ModRecord}
use Rattle.graph_types.specs.Edges.{block_of, blocks_in, blocks_of}
use Rattle.graph_types.specs.Modules.{module_no}
use Rattle.graph_types.proofs.Numbering.{filter_map-more}
use Rattle.stats_text.specs.Lists.{group_loaded}
use Rattle.stats_text.specs.inner.Loaded.{loaded_before}

-- ---- each block is of one of the modules

own_module : (lazy : Bool) (place item : ℕ) (target : Option ModuleNo) (block : Block)
    → cond lazy (option_map (λ target. record { «module» = module_no place; item = item; target = target }) target) None ≡ Some block → block.module.0 ≡ place
own_module false place item target block is = cc
own_module true place item None block is = cc
own_module true place item (Some target) block is = ap (λ found. (unwrap_or found block).module.0) (sym is)

with_option : {X : Type 0} (P : X → Type 0) (h : ℕ × Item → Option X) (one : ℕ × Item) (items : List (ℕ × Item)) (found : Option X) → h one ≡ found → ((x : X) → found ≡ Some x → P x)
    → AllByRecursion P (filter_map h items) → AllByRecursion P (filter_map h (one ∷ items))
with_option P h one items None is each rest = rw is rest
with_option P h one items (Some x) is each rest = rw is (each x refl, rest)

blocks_own : (records : List ModRecord) (place : ℕ) (items : List (ℕ × Item)) → AllByRecursion (λ block. block.module.0 ≡ place) (filter_map (block_of records place) items)
blocks_own records place [] = tt
blocks_own records place (one ∷ items) =
    with_option (λ block. block.module.0 ≡ place) (block_of records place) one items (block_of records place one) refl
    (λ block is. own_module _ place one.0 _ block is)
    (blocks_own records place items)

blocks_below : (records rest : List ModRecord) (first end : ℕ) → first + length rest ≡ end → All (λ block. block.module.0 < end) (flat_map (blocks_in records) (enumerate_from first rest))
blocks_below records [] first end is = All-from_recursion (λ block. block.module.0 < end) [] tt
blocks_below records (rec ∷ rest) first end is =
    let own = All-from_recursion (λ block. block.module.0 ≡ first) (blocks_in records (first, rec)) (blocks_own records first (enumerate_from 0 rec.items)) in
    All-append (λ block. block.module.0 < end) (blocks_in records (first, rec)) (flat_map (blocks_in records) (enumerate_from (first + 1) rest))
    (λ i d lt. omega (arith, own i d lt))
    (blocks_below records rest (first + 1) end (omega arith))

pub block-module : (records : List ModRecord) (blocks : List Block) (b : ℕ) (d : Block) → blocks ≡ blocks_of records → b < length blocks → (get_or blocks b d).module.0 < length records
block-module records blocks b d are within =
    let lt : b < length (blocks_of records) = omega (arith, ap length are, within) in
    omega (arith, ap (λ all. (get_or all b d).module.0) are, blocks_below records records 0 (length records) (omega arith) b d lt)

-- ---- one more block

next_for : (of_block : List GroupNo) (records : List ModRecord) (b m : ℕ) (d : Block) → b < length (blocks_of records)
    → loaded_before (b + 1) of_block records m ≡ loaded_before b of_block records m ++ option_to_list (group_loaded of_block m (b, get_or (blocks_of records) b d))
next_for of_block records b m d within = filter_map-more (group_loaded of_block m) (blocks_of records) b d within

pub loaded-more : (of_block : List GroupNo) (records : List ModRecord) (b : ℕ) (d : Block) (g : GroupNo) (lists new : List (List GroupNo)) (list : List GroupNo)
    → b < length (blocks_of records) → b < length of_block → g ≡ get_or of_block b g
    → lists ≡ map (loaded_before b of_block records) (range_with_len 0 (length records))
    → list ≡ get_or lists (get_or (blocks_of records) b d).module.0 list
    → new ≡ set lists (get_or (blocks_of records) b d).module.0 (list ++ g ∷ [])
    → new ≡ map (loaded_before (b + 1) of_block records) (range_with_len 0 (length records))
loaded-more of_block records b d g lists new list within mapped is before own after =
    let n = length records in
    let block = get_or (blocks_of records) b d in
    let i = block.module.0 in
    let old : ℕ → List GroupNo = loaded_before b of_block records in
    let more : List GroupNo = list ++ g ∷ [] in
    let below : i < n = block-module records (blocks_of records) b d refl within in
    let size : length lists ≡ n = ap length before ∙ length-map-range_with_len old 0 n in
    let at : (k : ℕ) → k < n → get_or lists k [] ≡ old k = λ k lt. ap (λ all. get_or all k []) before ∙ get_or-map-range_with_len old 0 n k k [] lt (omega arith) in
    fill_by_all (loaded_before (b + 1) of_block records) new n [] (ap length after ∙ length-set lists i more ∙ size)
    (λ k lt. ap (λ all. get_or all k []) after ∙ elim (cases_eq k i) [
      | inl e ↦
          ap (λ j. get_or (set lists i more) j []) e ∙ get_or-set_same lists i more [] (omega (arith, size, below))
          ∙ ap (λ front. front ++ g ∷ []) (own ∙ get_or_default lists i list [] (omega (arith, size, below)) ∙ at i below)
          ∙ ap (λ one. old i ++ option_to_list one) (sym (cond-true (i == i) (slice_get of_block b) None (eq-eqb i i refl) ∙ slice_get_read of_block (length of_block) b g refl mapped is))
          ∙ sym (next_for of_block records b i d within) ∙ ap (loaded_before (b + 1) of_block records) (sym e)
      | inr ne ↦
          get_or-set_other lists i k more [] ne ∙ at k lt ∙ sym (append-nil (old k))
          ∙ ap (λ one. old k ++ option_to_list one) (sym (cond-false (i == k) (slice_get of_block b) None (ne_eqb i k (λ e. ne (sym e)))))
          ∙ sym (next_for of_block records b k d within)
    ])
