-- What the graph of records on which the later phases may rely keeps.
use Rattle.std.proofs.Common.{◌≡◌, ℕ, ◌+◌, ◌≤◌, Bool, true, false, cond, List, [], ◌∷◌, length, length-append, refl, sym, ap, subst, ◌∙◌, arith}
use Rattle.std.proofs.lemmas.List.{length-map}
use Rattle.std.proofs.lemmas.List.Elements.{All-from_recursion, recursion_from_All, Contains-append_left, Contains-append_right, Contains-push}
use Rattle.std.proofs.lemmas.List.Sums.{sum_by-cons}
use Rattle.std.proofs.lemmas.List.Sorted.{All-permutation, length_permutation, sum_by-IsPermutation}
use Rattle.std.specs.List.{AllByRecursion, enumerate_from, sum_by}
use Rattle.std.specs.Prelude.{Contains, IsPermutation, Option, Some, None, count_by, filter_map, flat_map}
use Rattle.fault_place.specs.Limit.{number_of}
use Rattle.fault_place.specs.declared.fault.Fault.{Fault}
use Rattle.fault_place.specs.declared.limit.Limit.TheVariants.{Modules, Blocks}
use Rattle.pack_util.specs.declared.number.FileId.{FileId}
use Rattle.graph_types.specs.Edges.{HasFewItems, block_of, blocks_in, is_lazy}
use Rattle.graph_types.specs.Fits.{Fits, IsSized}
use Rattle.graph_types.specs.Modules.{Graph, module_of}
use Rattle.graph_types.specs.Whole.{IsWhole}
use Rattle.graph_types.specs.declared.block.Block.{Block}
use Rattle.graph_types.specs.declared.item.Item.{Item}
use Rattle.graph_types.specs.declared.record.ModRecord.{ModRecord}
use Rattle.module_build.specs.Shape.{IsSimple}
use Rattle.make_rounds.specs.Counts.{lazy_items}
use Rattle.make_rounds.specs.inner.Closed.{IsGraphFrom}
use Rattle.make_rounds.proofs.Lists.{all-kept}

-- records of files among so many, within the limits on modules and blocks
pub record AreSimple (count : ℕ) (records : List ModRecord) : Type 0 where
  pub each : AllByRecursion (λ rec. IsSimple count rec.file rec) records
  pub few : length records ≤ number_of Modules
  pub few_blocks : sum_by lazy_items records ≤ number_of Blocks

shuffled : (count : ℕ) (records others : List ModRecord) → IsPermutation records others → AllByRecursion (λ (rec : ModRecord). IsSimple count rec.file rec) records → AllByRecursion (λ (rec : ModRecord). IsSimple count rec.file rec) others
shuffled count records others same all =
    recursion_from_All _ others (All-permutation (λ (rec : ModRecord). IsSimple count rec.file rec) records others same (All-from_recursion _ records all))

pub few_items : (count : ℕ) (records : List ModRecord) → AllByRecursion (λ (rec : ModRecord). IsSimple count rec.file rec) records → AllByRecursion HasFewItems records
few_items count records each = all-kept (λ (rec : ModRecord). IsSimple count rec.file rec) HasFewItems (λ (rec : ModRecord) one. one.whole.few) records each

-- each fault of a record is one of those of all records
own : (all : List Fault) → ((fault : Fault) → Contains all fault → Contains all fault) → (faults : List Fault) → ((fault : Fault) → Contains faults fault → Contains all fault) → AllByRecursion (Contains all) faults
own all keep [] within = tt
own all keep (fault ∷ faults) within =
    (within fault (Contains-append_left (fault ∷ []) faults fault (Contains-push [] fault)), own all keep faults (λ other there. within other (Contains-append_right (fault ∷ []) faults other there)))

among : (all : List Fault) (records : List ModRecord) → ((fault : Fault) → Contains (flat_map (λ (rec : ModRecord). rec.faults) records) fault → Contains all fault) → AllByRecursion (λ (rec : ModRecord). AllByRecursion (Contains all) rec.faults) records
among all [] within = tt
among all (rec ∷ records) within = (
  own all (λ fault there. there) rec.faults (λ fault there. within fault (Contains-append_left rec.faults (flat_map (λ (rec : ModRecord). rec.faults) records) fault there)),
  among all records (λ fault there. within fault (Contains-append_right rec.faults (flat_map (λ (rec : ModRecord). rec.faults) records) fault there)),
)

-- only an item that is loaded on demand is a block
one_block : (all : List ModRecord) (place number : ℕ) (item : Item) (rest : List (ℕ × Item)) (count : ℕ) (lazy : Bool) (block : Option Block) → is_lazy item.kind ≡ lazy → block ≡ block_of all place (number, item)
    → length (filter_map (block_of all place) rest) ≤ count → length (filter_map (block_of all place) ((number, item) ∷ rest)) ≤ cond lazy 1 0 + count
one_block all place number item rest count true (Some block) is same few = rw (← same) (omega (arith, few))
one_block all place number item rest count true None is same few = rw (← same) (omega (arith, few))
one_block all place number item rest count false (Some block) is same few = let none : Some block ≡ None = rw is at same in cc
one_block all place number item rest count false None is same few = rw (← same) (omega (arith, few))

blocks_of_items : (all : List ModRecord) (place number : ℕ) (items : List Item) → length (filter_map (block_of all place) (enumerate_from number items)) ≤ count_by (λ (item : Item). is_lazy item.kind) items
blocks_of_items all place number [] = omega arith
blocks_of_items all place number (item ∷ items) =
    let few = one_block all place number item (enumerate_from (number + 1) items) (count_by (λ (item : Item). is_lazy item.kind) items) (is_lazy item.kind) (block_of all place (number, item)) refl refl (blocks_of_items all place (number + 1) items) in
    let more = sum_by-cons (λ (item : Item). cond (is_lazy item.kind) 1 0) item items in
    omega (arith, few, more)

blocks_few : (all : List ModRecord) (place : ℕ) (records : List ModRecord) → length (flat_map (blocks_in all) (enumerate_from place records)) ≤ sum_by lazy_items records
blocks_few all place [] = omega arith
blocks_few all place (rec ∷ records) =
    let one = blocks_of_items all place 0 rec.items in
    let rest = blocks_few all (place + 1) records in
    let more = sum_by-cons lazy_items rec records in
    let size = length-append (blocks_in all (place, rec)) (flat_map (blocks_in all) (enumerate_from (place + 1) records)) in
    omega (arith, one, rest, more, size)

-- a graph of such records fits
pub fits : (count : ℕ) (records : List ModRecord) (entries : List (List FileId)) (faults : List Fault) (graph : Graph) → AreSimple count records → IsGraphFrom records entries faults graph → Fits (length entries) graph
fits count records entries faults graph simple from =
    let each = shuffled count records graph.records from.same simple.each in
    let as_many = length_permutation records graph.records from.same in
    let as_lazy = sum_by-IsPermutation lazy_items records graph.records from.same in
    let blocks = blocks_few graph.records 0 graph.records in
    record {
      few_modules = omega (arith, as_many, simple.few);
      few_blocks = omega (arith, blocks, as_lazy, simple.few_blocks);
      records = record {
        entry_lists = ap length from.roots_are ∙ length-map entries (filter_map (module_of graph.records));
        sized = all-kept (λ (rec : ModRecord). IsSimple count rec.file rec) IsSized (λ (rec : ModRecord) simple. simple.sized) graph.records each;
        whole = all-kept (λ (rec : ModRecord). IsSimple count rec.file rec) IsWhole (λ (rec : ModRecord) simple. simple.whole) graph.records each;
        faults = among graph.faults graph.records (λ fault there.
            subst (λ all. Contains all fault) (sym from.faults_are) (Contains-append_right faults (flat_map (λ (rec : ModRecord). rec.faults) graph.records) fault there));
      };
    }
