-- The rows of chunks that share a module.
use Rattle.std.proofs.Common.{◌≡◌, ℕ, ◌+◌, ◌<◌, inl, inr, Bool, false, ◌&&◌, List, [], ◌∷◌, map, get_or, set, replicate, length, refl, sym, ap, subst, ◌∙◌, Result, Ok, Err, arith}
use Rattle.std.specs.Prelude.{OnOk}
use Rattle.std.specs.List.{range_with_len}
use Rattle.std.proofs.lemmas.Bool.{cases_eq}
use Rattle.std.proofs.lemmas.List.{get_or_read, get_or-replicate, get_or-set_other, get_or-set_same, length-replicate, length-set}
use Rattle.std.proofs.lemmas.List.Edits.{fill_by_more}
use Rattle.std.specs.Simd.Lanes.{zip2}
use Rattle.std.proofs.lemmas.List.FromFn.{get_or-map-range_with_len, length-map-range_with_len}
use Rattle.bit_rows.specs.Places.{meet}
use Rattle.chunk_graph.specs.Chunks.{State, holds}
use Rattle.split_plan.specs.declared.rule.Rule.{Rule}
use Rattle.split_plan.specs.Shares.{allowed_row, may_share, sharers}
use Rattle.split_plan.specs.inner.Rows.{AreChunkRows, column, columns_of}

meet-maps : (f g : ℕ → Bool) (xs : List ℕ) → zip2 (λ x y. x && y) (map f xs) (map g xs) ≡ map (λ i. f i && g i) xs
meet-maps f g [] = refl
meet-maps f g (x ∷ xs) = ap (λ r. (f x && g x) ∷ r) (meet-maps f g xs)

column_at : (s : State) (columns : List (List Bool)) (m : ℕ) (row : List Bool) → columns ≡ columns_of s (length columns) → m < length columns → row ≡ get_or columns m row → row ≡ column s m
column_at s columns m row is lt read = read ∙ ap (λ cs. get_or cs m row) is ∙ get_or-map-range_with_len (column s) 0 (length columns) m m row lt (omega arith)

pub column_len : (s : State) (columns : List (List Bool)) (m : ℕ) (row : List Bool) → columns ≡ columns_of s (length columns) → m < length columns → row ≡ get_or columns m row → length row ≡ length s.chunks
column_len s columns m row is lt read = ap length (column_at s columns m row is lt read) ∙ length-map-range_with_len (λ i. holds s i m) 0 (length s.chunks)

pub shares_from : (rule : Rule) (forced : Bool) (s : State) (columns : List (List Bool)) (m : ℕ) (allowed row : List Bool) → columns ≡ columns_of s (length columns) → m < length columns
    → row ≡ get_or columns m row → allowed ≡ allowed_row rule forced s → meet allowed row ≡ sharers rule forced s m
shares_from rule forced s columns m allowed row is lt read allowed_is =
    ap (λ a. meet a row) allowed_is ∙ ap (meet (allowed_row rule forced s)) (column_at s columns m row is lt read)
    ∙ meet-maps (may_share rule forced s) (λ i. holds s i m) (range_with_len 0 (length s.chunks))

pub allowed_len : (rule : Rule) (forced : Bool) (s : State) (allowed : List Bool) → allowed ≡ allowed_row rule forced s → length allowed ≡ length s.chunks
allowed_len rule forced s allowed is = ap length is ∙ length-map-range_with_len (may_share rule forced s) 0 (length s.chunks)

-- ---- rows that are written over

pub row_len : (s : State) (width : ℕ) (rows : List (List Bool)) (m : ℕ) (row : List Bool) → AreChunkRows s width rows → m < width → row ≡ get_or rows m row → length row ≡ length s.chunks
row_len s width rows m row are lt read = ap length (get_or_read rows m row (omega (arith, are.len)) read []) ∙ are.lens m lt

pub row_set : (s : State) (width : ℕ) (rows : List (List Bool)) (m : ℕ) (row : List Bool) → AreChunkRows s width rows → m < width → length row ≡ length s.chunks → AreChunkRows s width (set rows m row)
row_set s width rows m row are lt len = record {
  len = length-set rows m row ∙ are.len;
  lens = λ k within. elim (cases_eq k m) [
    | inl e ↦ ap (λ j. length (get_or (set rows m row) j [])) e ∙ ap length (get_or-set_same rows m row [] (omega (arith, are.len))) ∙ len
    | inr differ ↦ ap length (get_or-set_other rows m k row [] differ) ∙ are.lens k within
  ];
}

pub filled_more : (f : ℕ → List Bool) (rows : List (List Bool)) (m : ℕ) (row : List Bool) → m < length rows → row ≡ f m → ((k : ℕ) → k < m → get_or rows k [] ≡ f k)
    → (k : ℕ) → k < m + 1 → get_or (set rows m row) k [] ≡ f k
filled_more f rows m row lt is before k below = ap (λ r. get_or (set rows m r) k []) is ∙ fill_by_more f rows m [] lt before k below

pub blank_rows_from : (s : State) (count width len : ℕ) (rows : List (List Bool)) → width ≡ count → len ≡ length s.chunks → rows ≡ replicate count (replicate len false) → AreChunkRows s width rows
blank_rows_from s count width len rows same is rows_are = record {
  len = ap length rows_are ∙ length-replicate count (replicate len false) ∙ sym same;
  lens = λ m lt. ap (λ r. length (get_or r m [])) rows_are ∙ ap length (get_or-replicate count m (replicate len false) [] (omega (arith, lt, same))) ∙ length-replicate len false ∙ is;
}

pub sharers_len : (rule : Rule) (forced : Bool) (s : State) (m : ℕ) → length (sharers rule forced s m) ≡ length s.chunks
sharers_len rule forced s m = length-map-range_with_len (λ i. may_share rule forced s i && holds s i m) 0 (length s.chunks)

pub sharers_are : (rule : Rule) (forced : Bool) (s : State) (width : ℕ) → AreChunkRows s width (map (sharers rule forced s) (range_with_len 0 width))
sharers_are rule forced s width = record {
  len = length-map-range_with_len (sharers rule forced s) 0 width;
  lens = λ m lt. ap length (get_or-map-range_with_len (sharers rule forced s) 0 width m m [] lt (omega arith)) ∙ sharers_len rule forced s m;
}

pub rows_from : (rule : Rule) (forced : Bool) (s : State) (columns rows : List (List Bool)) (width : ℕ) → length columns ≡ width → rows ≡ map (sharers rule forced s) (range_with_len 0 (length columns)) → AreChunkRows s width rows
rows_from rule forced s columns rows width len is =
    subst (AreChunkRows s width) (sym (is ∙ ap (λ n. map (sharers rule forced s) (range_with_len 0 n)) len)) (sharers_are rule forced s width)

pub on_any : {A E : Type 0} (result : Result A E) (P : Type 0) → P → OnOk result P
on_any (Ok value) P p = p
on_any (Err error) P p = tt
