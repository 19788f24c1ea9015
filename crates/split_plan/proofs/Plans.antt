-- What a configuration keeps is true of its plan.
use Rattle.std.proofs.Common.{◌≡◌, ℕ, ◌<◌, ◌≤◌, ◌^◌, true, List, [], ◌∷◌, zero, suc, map, get_or, length, sum, sym, ◌∙◌, arith}
use Rattle.std.specs.List.{list_all}
use Rattle.std.proofs.lemmas.Bool.{leb-true, and_parts}
use Rattle.std.proofs.lemmas.List.{length-map}
use Rattle.graph_types.specs.CacheGroups.{is_counted}
use Rattle.graph_types.specs.declared.cache_group.CacheGroup.{CacheGroup}
use Rattle.graph_types.specs.declared.record.ModRecord.{ModRecord}
use Rattle.split_plan.specs.Plan.{IsPlan, no_rule, rule_of}

-- of each cache group with at least one chunk, so is its rule; the default is such a one too
counted : (records : List ModRecord) (groups : List CacheGroup) → list_all is_counted groups ≡ true → (k : ℕ) → 1 ≤ (get_or (map (rule_of records) groups) k no_rule).min_chunks
counted records [] all k = omega arith
counted records (g ∷ groups) all zero = leb-true 1 g.min_chunks (and_parts (is_counted g) (list_all is_counted groups) all).0
counted records (g ∷ groups) all (suc k) = counted records groups (and_parts (is_counted g) (list_all is_counted groups) all).1 k

tested : (records : List ModRecord) (groups : List CacheGroup) (k : ℕ) → k < length groups → length (get_or (map (rule_of records) groups) k no_rule).test ≡ length records
tested records [] k lt = absurd (omega arith)
tested records (g ∷ groups) zero lt = length-map records _
tested records (g ∷ groups) (suc k) lt = tested records groups k (omega arith)

pub plan_sound : (records : List ModRecord) (groups : List CacheGroup) → length groups ≤ 16 → list_all is_counted groups ≡ true → sum (map (λ rec. rec.size) records) ≤ 2 ^ 50
    → IsPlan (record { sizes = map (λ rec. rec.size) records; rules = map (rule_of records) groups })
plan_sound records groups few all small =
    let rules = length-map groups (rule_of records) in
    let sizes = length-map records (λ rec. rec.size) in
    record {
      few = omega arith;
      tested = λ k lt. tested records groups k (omega arith) ∙ sym sizes;
      counted = counted records groups all;
      small = small;
    }
