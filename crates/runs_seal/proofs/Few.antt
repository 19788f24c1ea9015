-- What few small records are.
use Rattle.std.proofs.Common.{◌≡◌, ℕ, suc, ◌+◌, ◌<◌, ◌≤◌, Bool, true, false, List, [], ◌∷◌, ◌++◌, map, length, get_or, sum, refl, sym, ap, subst, ◌∙◌, arith, inl, inr}
use Rattle.std.proofs.lemmas.Bool.{cases_lt}
use Rattle.std.proofs.lemmas.List.{length-map, length_push, map-append}
use Rattle.std.proofs.lemmas.List.Elements.{All-nil, All-push, All-weaker}
use Rattle.std.proofs.lemmas.List.Sums.{sum_by-append}
use Rattle.std.proofs.Math.ListN.{get_or-append}
use Rattle.std.proofs.Math.Seq.{get_or-append_seam}
use Rattle.std.specs.Prelude.{All, Contains, IsTrue, ◌||◌, is_some}
use Rattle.std.specs.List.{AllByRecursion}
use Rattle.graph_types.specs.Edges.{HasFewItems}
use Rattle.graph_types.specs.Fits.{HoldsWholeRecords, IsSized}
use Rattle.graph_types.specs.Modules.{AreAscending, Graph, files_of}
use Rattle.graph_types.specs.Whole.{declares, is_require, EditsWell, ExportsWell, IsItem, IsWhole, LieInOrder}
use Rattle.graph_types.specs.declared.item.Item.{Item}
use Rattle.graph_types.specs.declared.record.ModRecord.{ModRecord}
use Rattle.runs_seal.specs.Small.{AreGood, AreSmall, HasSmall, IsGood}

pub small-none : AreSmall []
small-none = record { count = omega arith; files = λ k l. absurd (omega arith); items = All-nil HasSmall; sizes = omega arith }

pub small-more : (records : List ModRecord) (rec : ModRecord) → AreSmall records → length records < 32_768 → rec.file.0 ≡ length records → HasSmall rec → AreSmall (records ++ rec ∷ [])
small-more records rec small room file items =
    let files = files_of records in
    let many : length files ≡ length records = length-map records (λ r. r.file.0) in
    let all : files_of (records ++ rec ∷ []) ≡ files ++ rec.file.0 ∷ [] = map-append (λ (r : ModRecord). r.file.0) records (rec ∷ []) in
    let count = length_push records rec in
    let sizes : sum (map (λ (r : ModRecord). r.size) (records ++ rec ∷ [])) ≡ sum (map (λ (r : ModRecord). r.size) records) + rec.size =
    ap sum (map-append (λ (r : ModRecord). r.size) records (rec ∷ [])) ∙ sum_by-append (λ (n : ℕ). n) (map (λ (r : ModRecord). r.size) records) (rec.size ∷ []) ∙ omega arith in
    record {
      count = omega (arith, count);
      files = λ k l. ap (λ (xs : List ℕ). get_or xs k 0) all ∙ elim (cases_lt k (length records)) [
        | inl low ↦ get_or-append files (rec.file.0 ∷ []) 0 k (omega (arith, many)) ∙ small.files k low
        | inr high ↦
            let e : k ≡ length files = omega (arith, many, count) in
            ap (λ i. get_or (files ++ rec.file.0 ∷ []) i 0) e ∙ get_or-append_seam files rec.file.0 [] 0 ∙ file ∙ sym many ∙ sym e
      ];
      items = All-push HasSmall records rec small.items items;
      sizes = omega (arith, sizes, count, small.sizes, items.size);
    }

pub ascend : (records : List ModRecord) → AreSmall records → AreAscending records
ascend records small k inside =
    let many = length-map records (λ (r : ModRecord). r.file.0) in
    omega (arith, small.files k (omega (arith, many)), small.files (k + 1) (omega (arith, many)))

pub few_items : (records : List ModRecord) → AreSmall records → All HasFewItems records
few_items records small = All-weaker HasSmall HasFewItems (λ rec has. omega (arith, has.items.few)) records small.items

each-all : {X : Type 0} (P : X → Type 0) (xs : List X) → All P xs → AllByRecursion P xs
each-all P [] all = tt
each-all P (x ∷ xs) all = (all 0 x (omega arith), each-all P xs (λ k d l. all (suc k) d (omega arith)))

or-right : (a b : Bool) → IsTrue b → IsTrue (a || b)
or-right true b held = refl
or-right false b held = held

is-whole : (rec : ModRecord) → HasSmall rec → IsWhole rec
is-whole rec has = record {
  few = omega (arith, has.items.few);
  places = each-all (λ item. item.at ≤ length rec.text) rec.items (λ k d l. (has.items.each k d l).at);
  spans = subst (LieInOrder 0 (length rec.text)) (sym has.edits) tt;
  loads = subst (AllByRecursion (λ edit. EditsWell rec.items edit.put)) (sym has.edits) tt;
  binds = subst (AllByRecursion (λ bind. IsItem declares rec.items bind.item)) (sym has.binds) tt;
  stars = subst (AllByRecursion (λ star. IsItem declares rec.items star.item)) (sym has.stars) tt;
  exports = subst (AllByRecursion (λ export. ExportsWell rec.items export.from)) (sym has.exports) tt;
  targets = inl (each-all (λ item. IsTrue (is_require item.kind || is_some item.target)) rec.items (λ k d l. or-right (is_require _) (is_some _) (has.items.each k d l).target));
}

pub whole-records : (graph : Graph) (entries : ℕ) → length graph.roots ≡ entries → AreSmall graph.records → HoldsWholeRecords entries graph
whole-records graph entries lists small = record {
  entry_lists = lists;
  sized = each-all IsSized graph.records (λ k d l. let has = small.items k d l in inr (omega (arith, has.size), omega (arith, has.text)));
  whole = each-all IsWhole graph.records (λ k d l. is-whole (get_or graph.records k d) (small.items k d l));
  faults = each-all (λ rec. AllByRecursion (Contains graph.faults) rec.faults) graph.records (λ k d l. subst (AllByRecursion (Contains graph.faults)) (sym (small.items k d l).faults) tt);
}

pub good-none : (size : ℕ) → AreGood size []
good-none size = record { few = omega arith; each = All-nil (IsGood size) }

pub good-more : (size : ℕ) (items : List Item) (item : Item) → AreGood size items → length items < 8_192 → IsGood size item → AreGood size (items ++ item ∷ [])
good-more size items item good room is = record { few = omega (arith, length_push items item); each = All-push (IsGood size) items item good.each is }
