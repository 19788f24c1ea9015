-- Each move keeps what is true of every chunk graph.
use Rattle.std.proofs.Common.{◌≡◌, ℕ, ◌<◌, ◌≤◌, ◌^◌, Bool, true, false, not, ◌==◌, List, Option, [], ◌∷◌, map, get_or, length, refl, sym, ap, subst, ◌∙◌, inl, inr, arith}
use Rattle.std.specs.List.{range_with_len}
use Rattle.std.proofs.Math.ListN.{set}
use Rattle.std.proofs.lemmas.Bool.{cases_eq, cases_lt, or_from, eq-eqb, not-true, not_from_true, false≢true}
use Rattle.std.proofs.lemmas.List.{get_or_past, get_or-map, get_or-set_same, get_or-set_other, length-map, length-set}
use Rattle.std.proofs.lemmas.List.Elements.{All-get_or}
use Rattle.std.proofs.lemmas.List.FromFn.{get_or-map-range_with_len, length-map-range_with_len}
use Rattle.std.proofs.lemmas.Simd.{length-zip2}
use Rattle.pack_util.specs.declared.number.ChunkNo.{ChunkNo}
use Rattle.bit_rows.specs.Table.{Table, IsEven}
use Rattle.chunk_graph.specs.declared.chunk.Chunk.{Chunk}
use Rattle.chunk_graph.specs.Chunks.{State, IsShaped, IsSound, no_chunk, has, group_at, is_in, chunk_at}
use Rattle.chunk_graph.specs.Moves.{chunk_no, joined, moved_one, with_moved, merged, merged_into, merged_list, merged_chunk, is_empty, needed, gone_if_empty, without_empty, started, first_chunk}
use Rattle.chunk_graph.proofs.Lists.{has_one, has-joined, has-fold, has-filter, get_or-map_all}
use Rattle.chunk_graph.proofs.StandsFor.{Stands, merged_into-stands}

-- ---- a chunk joins a group

joined_within : (s : State) (g i : ℕ) (list : List ChunkNo) → IsShaped s → list ≡ joined i (group_at s g) → i < length s.chunks → (chunk_at s i).gone ≡ false
    → (j : ℕ) → has j list ≡ true → (j < length s.chunks) × ((chunk_at s j).gone ≡ false)
joined_within s g i list shaped is lt there j h = elim (has-joined j i (group_at s g) (ap (has j) (sym is) ∙ h)) [
  | inl p ↦ shaped.within g j p
  | inr e ↦ let P : ℕ → Type 0 = λ n. (n < length s.chunks) × ((chunk_at s n).gone ≡ false) in subst P (sym e) (lt, there)
]

pub sound-connected : (s : State) (g i : ℕ) (list : List ChunkNo) → IsSound s → list ≡ joined i (group_at s g) → g < length s.groups → i < length s.chunks
    → (chunk_at s i).gone ≡ false → IsSound (record s { groups = set s.groups g list })
sound-connected s g i list sound is lt l there = record {
  shaped = record {
    even = sound.shaped.even;
    within = λ h j p. elim (cases_eq h g) [
      | inl e ↦ joined_within s g i list sound.shaped is l there j (sym (ap (has j) (ap (λ n. get_or (set s.groups g list) n []) e ∙ get_or-set_same s.groups g list [] lt)) ∙ p)
      | inr ne ↦ sound.shaped.within h j (ap (has j) (sym (get_or-set_other s.groups g h list [] ne)) ∙ p)
    ];
  };
  few = sound.few;
  few_groups = omega (arith, length-set s.groups g list, sound.few_groups);
  entries = omega (arith, length-set s.groups g list, sound.entries);
  spent = sound.spent;
  wide = sound.wide;
}

-- ---- modules moved

even-moved : (modules : List Bool) (is_to leaves : Bool) (c : Chunk) (width : ℕ) → length modules ≡ width → length c.mods ≡ width → length (moved_one modules is_to leaves c).mods ≡ width
even-moved modules true leaves c width e h = length-zip2 _ c.mods modules (h ∙ sym e) ∙ h
even-moved modules false true c width e h = length-zip2 _ c.mods modules (h ∙ sym e) ∙ h
even-moved modules false false c width e h = h

gone-moved : (modules : List Bool) (is_to leaves : Bool) (c : Chunk) → (moved_one modules is_to leaves c).gone ≡ c.gone
gone-moved modules true leaves c = refl
gone-moved modules false true c = refl
gone-moved modules false false c = refl

pub sound-moved : (s : State) (modules from : List Bool) (to : ℕ) → IsSound s → length modules ≡ s.width → IsSound (with_moved modules from to s)
sound-moved s modules from to sound len =
    let one : ℕ → Chunk = λ i. moved_one modules (i == to) (is_in from i) (chunk_at s i) in
    let size = length-map-range_with_len one 0 (length s.chunks) in
    let at : (i : ℕ) → i < length s.chunks → get_or (map one (range_with_len 0 (length s.chunks))) i no_chunk ≡ one i =
    λ i lt. get_or-map-range_with_len one 0 (length s.chunks) i i no_chunk lt (omega arith) in
    record {
      shaped = record {
        even = λ i lt. let l : i < length s.chunks = omega arith in
            ap (λ c. length c.mods) (at i l) ∙ even-moved modules (i == to) (is_in from i) (chunk_at s i) s.width len (sound.shaped.even i l);
        within = λ g i h. let w = sound.shaped.within g i h in
            (omega (arith, w.0), ap (λ c. c.gone) (at i w.0) ∙ (gone-moved modules (i == to) (is_in from i) (chunk_at s i) ∙ w.1));
      };
      few = omega (arith, sound.few);
      few_groups = sound.few_groups;
      entries = sound.entries;
      spent = sound.spent;
      wide = sound.wide;
    }

-- ---- equal chunks merged

pub sound-merged : (s : State) → IsSound s → IsSound (merged s)
sound-merged s sound =
    let n = length s.chunks in
    let size = length-map-range_with_len (merged_chunk s.chunks) 0 n in
    let groups = length-map s.groups (merged_list s.chunks) in
    let at : (i : ℕ) → i < n → get_or (map (merged_chunk s.chunks) (range_with_len 0 n)) i no_chunk ≡ merged_chunk s.chunks i =
    λ i lt. get_or-map-range_with_len (merged_chunk s.chunks) 0 n i i no_chunk lt (omega arith) in
    record {
      shaped = record {
        even = λ i lt. let l : i < n = omega arith in ap (λ c. length c.mods) (at i l) ∙ sound.shaped.even i l;
        within = λ g i h. elim (has-fold (merged_into s.chunks) (group_at s g) [] i (sym (ap (has i) (get_or-map_all (merged_list s.chunks) s.groups g [])) ∙ h)) [
          | inl none ↦ absurd (false≢true none)
          | inr (c, p, e) ↦
              let w = sound.shaped.within g c p in
              let st : Stands s.chunks c i = (let P : ℕ → Type 0 = λ k. Stands s.chunks c k in subst P (sym e) (merged_into-stands s.chunks c w.1)) in
              let lt : i < n = omega (arith, st.below, w.0) in
              (omega (arith, lt), ap (λ c. c.gone) (at i lt) ∙ or_from _ _ st.there (not_from_true (merged_into s.chunks i == i) (eq-eqb _ _ st.stays)))
        ];
      };
      few = omega (arith, sound.few);
      few_groups = omega (arith, sound.few_groups);
      entries = omega (arith, sound.entries);
      spent = sound.spent;
      wide = sound.wide;
    }

-- ---- empty chunks left out

pub sound-without_empty : (s : State) → IsSound s → IsSound (without_empty s)
sound-without_empty s sound =
    let size = length-map s.chunks gone_if_empty in
    let groups = length-map s.groups (needed s.chunks) in
    let at : (i : ℕ) → i < length s.chunks → get_or (map gone_if_empty s.chunks) i no_chunk ≡ gone_if_empty (chunk_at s i) = λ i lt. get_or-map gone_if_empty s.chunks i no_chunk no_chunk lt in
    record {
      shaped = record {
        even = λ i lt. let l : i < length s.chunks = omega arith in ap (λ c. length c.mods) (at i l) ∙ sound.shaped.even i l;
        within = λ g i h.
            let p = has-filter (λ c. not (is_empty (chunk_at s c.0))) (group_at s g) i (sym (ap (has i) (get_or-map_all (needed s.chunks) s.groups g [])) ∙ h) in
            let w = sound.shaped.within g i p.0 in
            (omega (arith, w.0), ap (λ c. c.gone) (at i w.0) ∙ or_from _ _ w.1 (not-true (is_empty (chunk_at s i)) p.1));
      };
      few = omega (arith, sound.few);
      few_groups = omega (arith, sound.few_groups);
      entries = omega (arith, sound.entries);
      spent = sound.spent;
      wide = sound.wide;
    }

-- ---- the start

first_within : (placed : Table) (entries : ℕ) (names : List (Option (List ℕ))) (g i : ℕ) → has i (group_at (started placed entries names) g) ≡ true
    → (i < length placed.rows) × (i ≡ g)
first_within placed entries names g i h = elim (cases_lt g (length placed.rows)) [
  | inl lt ↦
      let e = get_or-map-range_with_len (λ g. chunk_no g ∷ []) 0 (length placed.rows) g g [] lt (omega arith) in
      let same : i ≡ g = has_one i g (sym (ap (has i) e) ∙ h) in
      (omega arith, same)
  | inr ge ↦
      let size = length-map-range_with_len (λ g. chunk_no g ∷ []) 0 (length placed.rows) in
      let e = get_or_past (map (λ g. chunk_no g ∷ []) (range_with_len 0 (length placed.rows))) g [] (omega arith) in
      absurd (false≢true (ap (has i) (sym e) ∙ h))
]

pub sound-started : (placed : Table) (entries : ℕ) (names : List (Option (List ℕ))) → IsEven placed → length placed.rows ≤ 4096 → entries ≤ length placed.rows → placed.width < 2 ^ 32
    → IsSound (started placed entries names)
sound-started placed entries names even few low wide =
    let n = length placed.rows in
    let first = first_chunk placed entries names in
    let size = length-map-range_with_len first 0 n in
    let groups = length-map-range_with_len (λ g. chunk_no g ∷ []) 0 n in
    let at : (i : ℕ) → i < n → get_or (map first (range_with_len 0 n)) i no_chunk ≡ first i = λ i lt. get_or-map-range_with_len first 0 n i i no_chunk lt (omega arith) in
    record {
      shaped = record {
        even = λ i lt. let l : i < n = omega arith in
            ap (λ c. length c.mods) (at i l) ∙ All-get_or (λ row. length row ≡ placed.width) placed.rows i [] l even;
        within = λ g i h. let w = first_within placed entries names g i h in (omega (arith, w.0), ap (λ c. c.gone) (at i w.0));
      };
      few = omega arith;
      few_groups = omega arith;
      entries = omega arith;
      spent = refl;
      wide = wide;
    }
