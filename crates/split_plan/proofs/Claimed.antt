-- Sets of chunks that may be a candidate's, and the modules that go with them.
use Rattle.std.proofs.Common.{◌≡◌, ℕ, ◌+◌, ◌<◌, ◌&&◌, ◌||◌, Bool, true, false, Option, None, Some, is_some, List, [], map, get_or, length, refl, sym, ap, ◌∙◌, zero-add, arith}
use Rattle.std.specs.List.{list_any, range_with_len}
use Rattle.std.proofs.lemmas.Bool.{true≢false, false≢true}
use Rattle.std.proofs.lemmas.List.Folds.{list_any_at}
use Rattle.std.proofs.lemmas.List.FromFn.{get_or-range_with_len, length-range_with_len}
use Rattle.chunk_graph.specs.Chunks.{State}
use Rattle.chunk_graph.specs.Moves.{same_row}
use Rattle.split_plan.specs.declared.rule.Rule.{Rule}
use Rattle.split_plan.specs.Plan.{Plan, rule_at}
use Rattle.split_plan.specs.Candidates.{comes_by, comes_from, goes, lies_in, modules_for}
use Rattle.split_plan.specs.Shares.{sharers, meets, named_chunks}
use Rattle.split_plan.specs.inner.Search.{AreNamedRows, IsSearch, goes_with}
use Rattle.split_plan.proofs.Found.{share_at}
use Rattle.split_plan.proofs.NamedRows.{any_more, any_same, named_chunks_are}
use Rattle.split_plan.proofs.Sets.{map_range_same, goes_unnamed}

pub unnamed_from : (name : Option (List ℕ)) → is_some name ≡ false → name ≡ None
unnamed_from None e = refl
unnamed_from (Some name) e = absurd (true≢false e)

-- one module more, which doesn't pass
pub none_more : (f : ℕ → Bool) (n : ℕ) → list_any f (range_with_len 0 n) ≡ false → f n ≡ false → list_any f (range_with_len 0 (n + 1)) ≡ false
none_more f n before here = any_more f 0 n ∙ ap (λ b. b || f (0 + n)) before ∙ ap f (zero-add n) ∙ here

comes_unnamed : (name : Option (List ℕ)) (rule : Rule) (forced : Bool) (s : State) (width : ℕ) (set : List Bool) → name ≡ None
    → comes_by name rule forced s width set ≡ list_any (λ m. meets rule m && same_row (sharers rule forced s m) set) (range_with_len 0 width)
comes_unnamed None rule forced s width set e = refl
comes_unnamed (Some name) rule forced s width set e = absurd (false≢true (sym (ap is_some e)))

comes_named : (name : Option (List ℕ)) (rule : Rule) (forced : Bool) (s : State) (width : ℕ) (set : List Bool) → is_some name ≡ true
    → comes_by name rule forced s width set ≡ same_row (named_chunks rule forced s width) set
comes_named None rule forced s width set e = absurd (false≢true e)
comes_named (Some name) rule forced s width set e = refl

pub share_any : (p : Plan) (s : State) (k : ℕ) (forced : Bool) (rule : Rule) (shares : List (List Bool)) (set : List Bool) → IsSearch p s k forced rule shares → rule.name ≡ None
    → comes_from (rule_at p k) forced s (length p.sizes) set ≡ list_any (λ m. meets rule m && same_row (get_or shares m []) set) (range_with_len 0 (length shares))
share_any p s k forced rule shares set h unnamed =
    let f : ℕ → Bool = λ m. meets rule m && same_row (get_or shares m []) set in
    let g : ℕ → Bool = λ m. meets (rule_at p k) m && same_row (sharers (rule_at p k) forced s m) set in
    comes_unnamed (rule_at p k).name (rule_at p k) forced s (length p.sizes) set (ap (λ r. r.name) (sym h.rule_is) ∙ unnamed)
    ∙ sym (ap (λ n. list_any f (range_with_len 0 n)) h.len
    ∙ any_same f g 0 (length p.sizes) (λ m l b. ap (λ row. meets rule m && same_row row set) (share_at p s k forced rule shares m [] h (omega arith))
    ∙ ap (λ r. meets r m && same_row (sharers (rule_at p k) forced s m) set) h.rule_is))

pub modules_go : (p : Plan) (s : State) (k : ℕ) (forced : Bool) (rule : Rule) (shares : List (List Bool)) (set : List Bool) → IsSearch p s k forced rule shares → rule.name ≡ None
    → map (goes_with rule shares set) (range_with_len 0 (length shares)) ≡ modules_for (rule_at p k) forced s (length p.sizes) set
modules_go p s k forced rule shares set h unnamed =
    ap (λ n. map (goes_with rule shares set) (range_with_len 0 n)) h.len
    ∙ map_range_same (goes_with rule shares set) (goes (rule_at p k).name (rule_at p k) forced s set) 0 (length p.sizes) (λ m l b.
    ap (λ row. meets rule m && lies_in set row) (share_at p s k forced rule shares m [] h (omega arith))
    ∙ ap (λ r. meets r m && lies_in set (sharers (rule_at p k) forced s m)) h.rule_is
    ∙ sym (goes_unnamed (rule_at p k).name (rule_at p k) forced s set m (ap (λ r. r.name) (sym h.rule_is) ∙ unnamed)))

pub named_comes : (p : Plan) (s : State) (k : ℕ) (forced : Bool) (rule : Rule) (shares : List (List Bool)) (modules chunks set : List Bool) → IsSearch p s k forced rule shares → is_some rule.name ≡ true
    → AreNamedRows s rule shares (length shares) modules chunks → comes_from (rule_at p k) forced s (length p.sizes) set ≡ same_row chunks set
named_comes p s k forced rule shares modules chunks set h named rows =
    comes_named (rule_at p k).name (rule_at p k) forced s (length p.sizes) set (ap (λ r. is_some r.name) (sym h.rule_is) ∙ named)
    ∙ ap (λ row. same_row row set) (sym (named_chunks_are p s k forced rule shares modules chunks h rows))

-- a module that passes
pub some_at : (f : ℕ → Bool) (n m : ℕ) → m < n → f m ≡ true → list_any f (range_with_len 0 n) ≡ true
some_at f n m lt here = list_any_at f (range_with_len 0 n) m 0 (omega (arith, length-range_with_len 0 n)) (ap f (get_or-range_with_len 0 n m 0 lt ∙ zero-add m) ∙ here)
