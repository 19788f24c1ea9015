-- What a graph that fits and has no faults gives.
use Rattle.std.proofs.Common.{◌≡◌, ℕ, ◌≤◌, ◌^◌, ◌*◌, List, [], ◌∷◌, map, length, sum, ap, inl, inr, arith}
use Rattle.std.specs.Prelude.{Any, Contains}
use Rattle.std.specs.List.{AllByRecursion}
use Rattle.std.proofs.lemmas.List.Elements.{All-from_recursion}
use Rattle.std.proofs.lemmas.List.Sums.{sum-map, sum_by-le}
use Rattle.fault_place.specs.declared.fault.Fault.{Fault}
use Rattle.pack_util.specs.declared.number.TheConstants.{MAX_TEXT}
use Rattle.graph_types.specs.declared.record.ModRecord.{ModRecord}
use Rattle.graph_types.specs.Fits.{IsSized, Fits}
use Rattle.graph_types.specs.Modules.{Graph}

no_fault : (P : Fault → Type 0) (faults own : List Fault) → faults ≡ [] → AllByRecursion (Contains faults) own → Any P own → ⊥
no_fault P faults [] none among (k, f, within, is, holds) = omega (arith, within)
no_fault P faults (fault ∷ own) none ((k, within, is), among) some = omega (arith, within, ap length none)

sizes_small : (faults : List Fault) (records : List ModRecord) → faults ≡ [] → AllByRecursion (λ rec. AllByRecursion (Contains faults) rec.faults) records
    → AllByRecursion IsSized records → AllByRecursion (λ rec. rec.size ≤ MAX_TEXT) records
sizes_small faults [] none among sized = tt
sizes_small faults (rec ∷ records) none (own, among) (one, sized) = (
  elim one [ inl some ↦ absurd (no_fault _ faults rec.faults none own some) | inr both ↦ both.0 ],
  sizes_small faults records none among sized,
)

pub small-sizes : (entries : ℕ) (graph : Graph) → Fits entries graph → graph.faults ≡ [] → AllByRecursion (λ rec. rec.size ≤ MAX_TEXT) graph.records
small-sizes entries graph fits none = sizes_small graph.faults graph.records none fits.records.faults fits.records.sized

sum_small : (records : List ModRecord) → AllByRecursion (λ rec. rec.size ≤ MAX_TEXT) records → sum (map (λ rec. rec.size) records) ≤ length records * 4_194_304
sum_small records small =
    omega (arith, sum-map (λ rec. rec.size) records, sum_by-le (λ rec. rec.size) 4_194_304 records (All-from_recursion (λ rec. rec.size ≤ MAX_TEXT) records small))

pub small-sum : (entries : ℕ) (graph : Graph) → Fits entries graph → graph.faults ≡ [] → sum (map (λ rec. rec.size) graph.records) ≤ 2 ^ 50
small-sum entries graph fits none = omega (arith, sum_small graph.records (small-sizes entries graph fits none), fits.few_modules)
