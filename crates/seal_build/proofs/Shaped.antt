-- Chunk graphs keep their shape: each chunk has a place for each module, and no group has a chunk that is gone.
use Rattle.std.proofs.Common.{◌≡◌, ℕ, ◌<◌, ◌⊎◌, ◌==◌, Bool, true, false, Option, None, Some, List, [], ◌∷◌, map, get_or, length, refl, sym, ap, subst, ◌∙◌, inl, inr, arith}
use Rattle.std.proofs.Math.ListN.{set}
use Rattle.std.specs.List.{list_any, range_with_len}
use Rattle.std.specs.Prelude.{if◌then◌else◌}
use Rattle.std.proofs.lemmas.Bool.{cases_eq, cases_lt, eq-eqb, false≢true, not_from_true, or_from}
use Rattle.std.proofs.lemmas.List.{get_or_append_left, get_or_past, get_or_push, get_or-set_same, get_or-set_other, length-append, length-replicate, length-set}
use Rattle.std.proofs.lemmas.List.Elements.{All-get_or}
use Rattle.std.proofs.lemmas.List.FromFn.{get_or-map-range_with_len, length-map-range_with_len}
use Rattle.std.proofs.lemmas.Simd.{length-zip2}
use Rattle.bit_rows.specs.Table.{Table, IsEven}
use Rattle.pack_util.specs.declared.number.ChunkNo.{ChunkNo}
use Rattle.chunk_graph.specs.declared.chunk.Chunk.{Chunk}
use Rattle.chunk_graph.specs.declared.split.Split.{Split}
use Rattle.chunk_graph.specs.Chunks.{State, IsShaped, no_chunk, chunk_at, group_at, has, has_module, is_in}
use Rattle.chunk_graph.specs.Moves.{chunk_no, first_chunk, joined, merged, merged_chunk, merged_into, merged_list, moved_one, new_chunk, started, with_closed, with_moved, with_new}
use Rattle.chunk_graph.proofs.Lists.{get_or-map_all, has-fold, has-joined, has_one}
use Rattle.chunk_graph.proofs.StandsFor.{Stands, merged_into-stands}
use Rattle.split_plan.specs.declared.candidate.Candidate.{Candidate}
use Rattle.split_plan.specs.Candidates.{IsCandidate}
use Rattle.split_plan.specs.Plan.{Plan, rule_at}
use Rattle.split_plan.specs.Step.{AreSteps, after_at, after_split, reused_of, with_joined, with_name_spent, with_taken}
use Rattle.split_plan.proofs.Keeping.{kept-split}
use Rattle.split_chunks.specs.Loads.{LosesNone}
use Rattle.split_chunks.proofs.Takes.{modules-len, moved-gone, moved-len, reused-there, width-after}

-- ---- the start

started_within : (placed : Table) (entries : ℕ) (names : List (Option (List ℕ))) (g i : ℕ) → has i (group_at (started placed entries names) g) ≡ true → (i < length placed.rows) × (i ≡ g)
started_within placed entries names g i h =
    let one : ℕ → List ChunkNo = λ k. chunk_no k ∷ [] in
    let n = length placed.rows in
    elim (cases_lt g n) [
      | inl lt ↦
          let same : i ≡ g = has_one i g (sym (ap (has i) (get_or-map-range_with_len one 0 n g g [] lt (omega arith))) ∙ h) in
          (omega arith, same)
      | inr past ↦
          let size = length-map-range_with_len one 0 n in
          absurd (false≢true (ap (has i) (sym (get_or_past (map one (range_with_len 0 n)) g [] (omega arith))) ∙ h))
    ]

pub shaped-started : (placed : Table) (entries : ℕ) (names : List (Option (List ℕ))) → IsEven placed → IsShaped (started placed entries names)
shaped-started placed entries names even =
    let n = length placed.rows in
    let first = first_chunk placed entries names in
    let size = length-map-range_with_len first 0 n in
    let at : (i : ℕ) → i < n → get_or (map first (range_with_len 0 n)) i no_chunk ≡ first i = λ i lt. get_or-map-range_with_len first 0 n i i no_chunk lt (omega arith) in
    record {
      even = λ i lt. let l : i < n = omega arith in ap (λ c. length c.mods) (at i l) ∙ All-get_or (λ row. length row ≡ placed.width) placed.rows i [] l even;
      within = λ g i h. let w = started_within placed entries names g i h in (omega (arith, w.0), ap (λ c. c.gone) (at i w.0));
    }

pub shaped-merged : (s : State) → IsShaped s → IsShaped (merged s)
shaped-merged s shaped =
    let n = length s.chunks in
    let size = length-map-range_with_len (merged_chunk s.chunks) 0 n in
    let at : (i : ℕ) → i < n → get_or (map (merged_chunk s.chunks) (range_with_len 0 n)) i no_chunk ≡ merged_chunk s.chunks i =
    λ i lt. get_or-map-range_with_len (merged_chunk s.chunks) 0 n i i no_chunk lt (omega arith) in
    record {
      even = λ i lt. let l : i < n = omega arith in ap (λ c. length c.mods) (at i l) ∙ shaped.even i l;
      within = λ g i h. elim (has-fold (merged_into s.chunks) (group_at s g) [] i (sym (ap (has i) (get_or-map_all (merged_list s.chunks) s.groups g [])) ∙ h)) [
        | inl none ↦ absurd (false≢true none)
        | inr (c, p, e) ↦
            let w = shaped.within g c p in
            let st : Stands s.chunks c i = (let P : ℕ → Type 0 = λ k. Stands s.chunks c k in subst P (sym e) (merged_into-stands s.chunks c w.1)) in
            let lt : i < n = omega (arith, st.below, w.0) in
            (omega (arith, lt), ap (λ c. c.gone) (at i lt) ∙ or_from _ _ st.there (not_from_true (merged_into s.chunks i == i) (eq-eqb _ _ st.stays)))
      ];
    }

-- ---- one split

shaped_new : (s : State) (name : Option (List ℕ)) → IsShaped s → IsShaped (with_new name s)
shaped_new s name shaped =
    let new = new_chunk name s.width in
    let size = length-append s.chunks (new ∷ []) in
    record {
      even = λ i lt. elim (cases_lt i (length s.chunks)) [
        | inl l ↦ ap (λ c. length c.mods) (get_or_append_left s.chunks (new ∷ []) no_chunk i l) ∙ shaped.even i l
        | inr ge ↦ let last : length s.chunks ≡ i = omega arith in ap (λ c. length c.mods) (get_or_push s.chunks new no_chunk i last) ∙ length-replicate s.width false
      ];
      within = λ g i h. let w = shaped.within g i h in (omega (arith, size, w.0), ap (λ c. c.gone) (get_or_append_left s.chunks (new ∷ []) no_chunk i w.0) ∙ w.1);
    }

even_moved : (modules : List Bool) (is_to leaves : Bool) (c : Chunk) (width : ℕ) → length modules ≡ width → length c.mods ≡ width → length (moved_one modules is_to leaves c).mods ≡ width
even_moved modules true leaves c width e h = length-zip2 _ c.mods modules (h ∙ sym e) ∙ h
even_moved modules false true c width e h = length-zip2 _ c.mods modules (h ∙ sym e) ∙ h
even_moved modules false false c width e h = h

shaped_moved : (s : State) (modules from : List Bool) (n : ℕ) → length modules ≡ s.width → IsShaped s → IsShaped (with_moved modules from n s)
shaped_moved s modules from n len shaped =
    let size = moved-len s modules from n in
    record {
      even = λ i lt. let l : i < length s.chunks = omega arith in
          ap (λ c. length c.mods) (get_or-map-range_with_len (λ j. moved_one modules (j == n) (is_in from j) (chunk_at s j)) 0 (length s.chunks) i i no_chunk l (omega arith))
          ∙ even_moved modules (i == n) (is_in from i) (chunk_at s i) s.width len (shaped.even i l);
      within = λ g i h. let w = shaped.within g i h in (omega (arith, size, w.0), moved-gone s modules from n i w.0 ∙ w.1);
    }

-- a chunk of the group once another may have joined it
joined_or : (joins : Bool) (n i : ℕ) (list : List ChunkNo) → has i (if joins then joined n list else list) ≡ true → (has i list ≡ true) ⊎ (i ≡ n)
joined_or true n i list h = has-joined i n list h
joined_or false n i list h = inl h

shaped_joined : (s : State) (row : List Bool) (n : ℕ) → n < length s.chunks → (chunk_at s n).gone ≡ false → IsShaped s → IsShaped (with_joined row n s)
shaped_joined s row n lt there shaped =
    let more : List ChunkNo → List ChunkNo = λ list. if list_any (λ c. is_in row c.0) list then joined n list else list in
    record {
      even = shaped.even;
      within = λ g i h.
          let list = group_at s g in
          elim (joined_or (list_any (λ c. is_in row c.0) list) n i list (sym (ap (has i) (get_or-map_all more s.groups g [])) ∙ h)) [
            | inl p ↦ shaped.within g i p
            | inr e ↦ let P : ℕ → Type 0 = λ k. (k < length s.chunks) × ((chunk_at s k).gone ≡ false) in subst P (sym e) (lt, there)
          ];
    }

closed_at : {X : Type 0} (f : Chunk → X) (s : State) (n i : ℕ) → f (record (chunk_at s n) { closed = true }) ≡ f (chunk_at s n) → i < length s.chunks → f (chunk_at (with_closed n s) i) ≡ f (chunk_at s i)
closed_at f s n i same lt =
    let closed : Chunk = record (chunk_at s n) { closed = true } in
    elim (cases_eq i n) [
      | inl e ↦ ap (λ k. f (get_or (set s.chunks n closed) k no_chunk)) e ∙ ap f (get_or-set_same s.chunks n closed no_chunk (omega (arith, lt, e))) ∙ same ∙ ap (λ k. f (chunk_at s k)) (sym e)
      | inr ne ↦ ap f (get_or-set_other s.chunks n i closed no_chunk ne)
    ]

shaped_closed : (s : State) (n : ℕ) → IsShaped s → IsShaped (with_closed n s)
shaped_closed s n shaped =
    let size = length-set s.chunks n (record (chunk_at s n) { closed = true }) in
    record {
      even = λ i lt. let l : i < length s.chunks = omega (arith, lt, size) in closed_at (λ c. length c.mods) s n i refl l ∙ shaped.even i l;
      within = λ g i h. let w = shaped.within g i h in (omega (arith, size, w.0), closed_at (λ c. c.gone) s n i refl w.0 ∙ w.1);
    }

shaped_spent : (name : Option (List ℕ)) (k : ℕ) (s : State) → IsShaped s → IsShaped (with_name_spent name k s)
shaped_spent None k s shaped = shaped
shaped_spent (Some name) k s shaped = record { even = shaped.even; within = shaped.within }

shaped_taken : (p : Plan) (s : State) (x : Candidate) (n : ℕ) → length x.modules ≡ s.width → n < length s.chunks → (chunk_at s n).gone ≡ false → IsShaped s → IsShaped (with_taken p x n s)
shaped_taken p s x n len lt there shaped =
    let moved = with_moved x.modules x.chunks n s in
    let within : n < length moved.chunks = omega (arith, lt, moved-len s x.modules x.chunks n) in
    let more = with_joined x.chunks n moved in
    shaped_spent (rule_at p x.cache_group).name x.cache_group (with_closed n more)
    (shaped_closed more n (shaped_joined moved x.chunks n within (moved-gone s x.modules x.chunks n n lt ∙ there) (shaped_moved s x.modules x.chunks n len shaped)))

shaped_after : (p : Plan) (s : State) (x : Candidate) (o : Option ℕ) → s.width ≡ length p.sizes → IsCandidate p s x → reused_of p s x ≡ o → IsShaped s → IsShaped (after_at p s x o)
shaped_after p s x None width is e shaped =
    let name = (rule_at p x.cache_group).name in
    let new = new_chunk name s.width in
    shaped_taken p (with_new name s) x (length s.chunks) (modules-len p s x is width) (omega (arith, length-append s.chunks (new ∷ [])))
    (ap (λ c. c.gone) (get_or_push s.chunks new no_chunk (length s.chunks) refl)) (shaped_new s name shaped)
shaped_after p s x (Some n) width is e shaped =
    let there = reused-there p s x n is e in
    shaped_taken p s x n (modules-len p s x is width) there.0 there.1 shaped

-- ---- all splits

pub lose-none : (p : Plan) (s t : State) (ys : List Split) → AreSteps p s ys t → s.width ≡ length p.sizes → IsShaped s → LosesNone s t
lose-none p s t [] e width shaped g m h = ap (λ r. has_module r g m) e ∙ h
lose-none p s t (y ∷ ys) (x, best, is, rest) width shaped g m h =
    let o = reused_of p s x in
    lose-none p (after_split p s x) t ys rest (width-after p s x o ∙ width) (shaped_after p s x o width best.there refl shaped) g m (kept-split p s x g m shaped width best.there h)
