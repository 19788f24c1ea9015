-- The least chunk that serves.
use Rattle.std.proofs.Common.{◌≡◌, ℕ, ◌<◌, Bool, true, false, Option, None, Some, is_some, List, length, sym, ap, ◌∙◌, arith}
use Rattle.std.specs.List.{position, range_with_len, position_or_len}
use Rattle.std.proofs.lemmas.Bool.{cond-true, cond-false, lt-ltb, le-ltb, true≢false, false≢true}
use Rattle.std.proofs.lemmas.List.FromFn.{length-range_with_len}
use Rattle.chunk_graph.specs.Chunks.{State}
use Rattle.chunk_graph.proofs.Lists.{first_is}
use Rattle.split_plan.specs.Step.{is_reusable, reused_by}

first_some : (p : ℕ → Bool) (n i : ℕ) → i < n → ((k : ℕ) → k < i → p k ≡ false) → p i ≡ true → position p (range_with_len 0 n) ≡ Some i
first_some p n i lt before here =
    let e = first_is p n i (omega arith) before (λ l. here) in
    let size = length-range_with_len 0 n in
    cond-true _ _ None (lt-ltb (position_or_len p (range_with_len 0 n)) (length (range_with_len 0 n)) (omega arith)) ∙ ap Some e

first_none : (p : ℕ → Bool) (n : ℕ) → ((k : ℕ) → k < n → p k ≡ false) → position p (range_with_len 0 n) ≡ None
first_none p n before =
    let e = first_is p n n (omega arith) before (λ l. absurd (omega arith)) in
    let size = length-range_with_len 0 n in
    cond-false _ (Some (position_or_len p (range_with_len 0 n))) None (le-ltb (position_or_len p (range_with_len 0 n)) (length (range_with_len 0 n)) (omega arith))

by_position : (name : Option (List ℕ)) (reuse : Bool) (s : State) (chunks modules : List Bool) (o : Option ℕ) → is_some name ≡ false → reuse ≡ true
    → position (is_reusable s chunks modules) (range_with_len 0 (length s.chunks)) ≡ o → o ≡ reused_by name reuse s chunks modules
by_position None true s chunks modules o n r e = sym e
by_position None false s chunks modules o n r e = absurd (false≢true r)
by_position (Some name) reuse s chunks modules o n r e = absurd (true≢false n)

pub reused_found : (name : Option (List ℕ)) (reuse : Bool) (s : State) (chunks modules : List Bool) (i : ℕ) → is_some name ≡ false → reuse ≡ true → i < length s.chunks
    → ((k : ℕ) → k < i → is_reusable s chunks modules k ≡ false) → is_reusable s chunks modules i ≡ true → Some i ≡ reused_by name reuse s chunks modules
reused_found name reuse s chunks modules i n r lt before here = by_position name reuse s chunks modules (Some i) n r (first_some (is_reusable s chunks modules) (length s.chunks) i lt before here)

pub reused_none : (name : Option (List ℕ)) (reuse : Bool) (s : State) (chunks modules : List Bool) → is_some name ≡ false → reuse ≡ true
    → ((k : ℕ) → k < length s.chunks → is_reusable s chunks modules k ≡ false) → None ≡ reused_by name reuse s chunks modules
reused_none name reuse s chunks modules n r before = by_position name reuse s chunks modules None n r (first_none (is_reusable s chunks modules) (length s.chunks) before)
