-- Groups with one more block.
use Rattle.std.proofs.Common.{◌≡◌, ◌≢◌, ℕ, zero, suc, ◌+◌, ◌-◌, ◌<◌, inl, inr, Bool, true, false, not, cond, List, [], ◌∷◌, ◌++◌, append-nil, append_assoc, map, length, get_or, set, take, refl, sym, ap, subst, ◌∙◌, arith}
use Rattle.std.specs.Prelude.{Contains, filter, filter_map, bytes_eq, Option, None, Some, is_some}
use Rattle.std.specs.List.{enumerate_from}
use Rattle.std.proofs.lemmas.Bool.{cases_Bool}
use Rattle.std.proofs.lemmas.List.{map-append, set-append_left, set-append_right, length-map, get_or_default, get_or-append-add, get_or_append_left, get_or-map, get_or-set_same, get_or-set_other, get_or_past, length-append, take_more}
use Rattle.std.proofs.lemmas.List.FromFn.{get_or-enumerate_from, length-enumerate_from}
use Rattle.std.proofs.lemmas.List.Elements.{filter-append}
use Rattle.std.proofs.lemmas.Slice.Eq.{bytes_eq-Decides}
use Rattle.pack_util.specs.declared.number.ModuleNo.{ModuleNo}
use Rattle.graph_types.specs.declared.block.Block.{Block}
use Rattle.graph_types.specs.declared.entry.EntrySpec.{EntrySpec}
use Rattle.graph_types.specs.declared.groups.GroupInfo.{GroupInfo}
use Rattle.graph_types.specs.declared.record.ModRecord.{ModRecord}
use Rattle.graph_types.specs.Edges.{blocks_of}
use Rattle.graph_types.specs.Modules.{Graph}
use Rattle.chunk_groups.specs.ChunkNames.{chunk_name_of, chunk_names}
use Rattle.chunk_groups.specs.ChunkGroups.{loaded_by, is_named, has_name, has_no_name, named_group, numbered_blocks, numbered_entries, unnamed_groups, entry_group, entry_groups, groups_with}
use Rattle.chunk_groups.specs.inner.Filing.{groups_so_far, with_block, IsPut}
use Rattle.chunk_groups.specs.Grouped.{info_at, no_group}
use Rattle.chunk_groups.proofs.Marks.{contains-none}
use Rattle.chunk_groups.proofs.Names.{AreApart, apart, keys-ascend, once-have}

loaded-more : (name : Option (List ℕ)) (blocks : List (ℕ × Block)) (b : ℕ × Block) → with_block (loaded_by name blocks) b.0 b.1.target ≡ loaded_by name (blocks ++ b ∷ [])
loaded-more name blocks b = λ i. record {
  entry = None;
  name = name;
  roots = sym (map-append (λ (n : ℕ × Block). n.1.target) blocks (b ∷ [])) i;
  blocks = sym (map-append (λ (n : ℕ × Block). n.0) blocks (b ∷ [])) i;
}

filter-in : {X : Type 0} (p : X → Bool) (xs : List X) (x : X) → p x ≡ true → filter p (xs ++ x ∷ []) ≡ filter p xs ++ x ∷ []
filter-in p xs x is = filter-append p xs (x ∷ []) ∙ ap (λ t. filter p xs ++ cond t (x ∷ []) []) is

filter-out : {X : Type 0} (p : X → Bool) (xs : List X) (x : X) → p x ≡ false → filter p (xs ++ x ∷ []) ≡ filter p xs
filter-out p xs x is = filter-append p xs (x ∷ []) ∙ ap (λ t. filter p xs ++ cond t (x ∷ []) []) is ∙ append-nil (filter p xs)

other-name : (name other : List ℕ) → (other ≡ name → ⊥) → bytes_eq name other ≡ false
other-name name other differ = elim (cases_Bool (bytes_eq name other)) [ inl same ↦ absurd (differ (sym ((bytes_eq-Decides name other).0 same))) | inr n ↦ n ]

map-same : {X Y : Type 0} (f g : X → Y) (xs : List X) → ((x : X) → Contains xs x → f x ≡ g x) → map f xs ≡ map g xs
map-same f g [] each = refl
map-same f g (x ∷ xs) each = λ i. each x (0, omega arith, refl) i ∷ map-same f g xs (λ y (k, l, e). each y (suc k, omega arith, e)) i

-- a member that stands once is mapped by another function
set-map : {Y : Type 0} (f g : List ℕ → Y) (names : List (List ℕ)) (i : ℕ) (name : List ℕ) → AreApart names → i < length names → get_or names i name ≡ name
    → ((other : List ℕ) → (other ≡ name → ⊥) → f other ≡ g other) → set (map f names) i (g name) ≡ map g names
set-map f g [] i name up l is each = absurd (omega arith)
set-map f g (x ∷ xs) zero name up l is each =
    let rest : map f xs ≡ map g xs = map-same f g xs (λ other found. each other (λ same. up.0 (subst (λ (n : List ℕ). Contains xs n) (same ∙ sym is) found))) in
    λ i. g (sym is i) ∷ rest i
set-map f g (x ∷ xs) (suc i) name up l is each =
    let here : f x ≡ g x = each x (λ same. up.0 (i, omega arith, ap (get_or xs i) same ∙ is ∙ sym same)) in
    let rest : set (map f xs) i (g name) ≡ map g xs = set-map f g xs i name up.1 (omega arith) is each in
    λ j. here j ∷ rest j

module _ (graph : Graph) (entries : List EntrySpec) where
  abbrev records : List ModRecord
  records = graph.records

  abbrev first : List GroupInfo
  first = entry_groups graph.roots entries

  abbrev names : List (List ℕ)
  names = chunk_names records

  name-other : (b : ℕ × Block) (name : List ℕ) → chunk_name_of records b.1 ≡ Some name → (blocks : List (ℕ × Block)) (other : List ℕ) → (other ≡ name → ⊥)
      → named_group records blocks other ≡ named_group records (blocks ++ b ∷ []) other
  name-other b name is blocks other differ =
      ap (loaded_by (Some other)) (sym (filter-out (has_name records other) blocks b (ap (is_named other) is ∙ other-name name other differ)))

  name-here : (b : ℕ × Block) (name : List ℕ) → chunk_name_of records b.1 ≡ Some name → (blocks : List (ℕ × Block))
      → with_block (named_group records blocks name) b.0 b.1.target ≡ named_group records (blocks ++ b ∷ []) name
  name-here b name is blocks =
      loaded-more (Some name) (filter (has_name records name) blocks) b
      ∙ ap (loaded_by (Some name)) (sym (filter-in (has_name records name) blocks b (ap (is_named name) is ∙ (bytes_eq-Decides name name).1 refl)))

  no-name : (b : ℕ × Block) → chunk_name_of records b.1 ≡ None → (blocks : List (ℕ × Block)) (other : List ℕ) → named_group records blocks other ≡ named_group records (blocks ++ b ∷ []) other
  no-name b is blocks other = ap (loaded_by (Some other)) (sym (filter-out (has_name records other) blocks b (ap (is_named other) is)))

  -- a block without a name has a new group
  pub more-unnamed : (b : ℕ × Block) (blocks : List (ℕ × Block)) → chunk_name_of records b.1 ≡ None → groups_with graph entries blocks ++ loaded_by None (b ∷ []) ∷ [] ≡ groups_with graph entries (blocks ++ b ∷ [])
  more-unnamed b blocks is =
      let single : ℕ × Block → GroupInfo = λ n. loaded_by None (n ∷ []) in
      let back : unnamed_groups records blocks ++ single b ∷ [] ≡ unnamed_groups records (blocks ++ b ∷ []) =
      sym (map-append single (filter (has_no_name records) blocks) (b ∷ [])) ∙ ap (map single) (sym (filter-in (has_no_name records) blocks b (ap (λ o. not (is_some o)) is))) in
      let front : map (named_group records blocks) names ≡ map (named_group records (blocks ++ b ∷ [])) names = map-same _ _ names (λ other found. no-name b is blocks other) in
      append_assoc (first ++ map (named_group records blocks) names) (unnamed_groups records blocks) (single b ∷ []) ∙ (λ i. (first ++ front i) ++ back i)

  -- a block with a name is put into the group of that name
  pub more-named : (b : ℕ × Block) (name : List ℕ) (blocks : List (ℕ × Block)) (place : ℕ) (info : GroupInfo) → chunk_name_of records b.1 ≡ Some name → place < length names → get_or names place name ≡ name
      → info ≡ get_or (groups_with graph entries blocks) (length first + place) info
      → set (groups_with graph entries blocks) (length first + place) (with_block info b.0 b.1.target) ≡ groups_with graph entries (blocks ++ b ∷ [])
  more-named b name blocks place info is within at here =
      let f = named_group records blocks in
      let g = named_group records (blocks ++ b ∷ []) in
      let last = unnamed_groups records blocks in
      let inside : place < length (map f names) = omega (arith, length-map names f) in
      let all_inside : length first + place < length (first ++ map f names) = omega (arith, length-append first (map f names)) in
      let found : get_or (groups_with graph entries blocks) (length first + place) info ≡ f name =
      get_or_append_left (first ++ map f names) last info (length first + place) all_inside
      ∙ get_or-append-add first (map f names) place info ∙ get_or_default (map f names) place info (f name) inside ∙ get_or-map f names place name (f name) within ∙ ap f at in
      let put : with_block info b.0 b.1.target ≡ g name = ap (λ i. with_block i b.0 b.1.target) (here ∙ found) ∙ name-here b name is blocks in
      let middle : set (map f names) place (g name) ≡ map g names = set-map f g names place name (apart names (keys-ascend _)) within at (name-other b name is blocks) in
      let less : (length first + place) - length first ≡ place = omega arith in
      let back : last ≡ unnamed_groups records (blocks ++ b ∷ []) = ap (map (λ n. loaded_by None (n ∷ []))) (sym (filter-out (has_no_name records) blocks b (ap (λ o. not (is_some o)) is))) in
      ap (set (groups_with graph entries blocks) (length first + place)) put
      ∙ set-append_left (first ++ map f names) last (length first + place) (g name) all_inside
      ∙ ap (λ l. l ++ last) (set-append_right first (map f names) (length first) (length first + place) (g name) refl (omega arith) ∙ ap (λ k. first ++ set (map f names) k (g name)) less ∙ ap (λ l. first ++ l) middle)
      ∙ ap (λ l. (first ++ map g names) ++ l) back

info-here : (infos : List GroupInfo) (g : ℕ) (info : GroupInfo) → g < length infos → info_at (set infos g info) g ≡ info
info-here infos g info within = get_or-set_same infos g info no_group within

pub put-in : (infos : List GroupInfo) (number g : ℕ) (target : ModuleNo) (info new : GroupInfo) → g < length infos → info ≡ get_or infos g info → new ≡ with_block info number target → IsPut infos (set infos g new) number g
put-in infos number g target info new within is more = record {
  here = ap (λ (i : GroupInfo). i.blocks) (info-here infos g new within ∙ more) ∙ ap (λ (i : GroupInfo). i.blocks ++ number ∷ []) (is ∙ get_or_default infos g info no_group within);
  others = λ h differ. get_or-set_other infos g h new no_group differ;
}

past-one : (infos : List GroupInfo) (info : GroupInfo) (h : ℕ) → h ≢ length infos → info_at (infos ++ info ∷ []) h ≡ info_at infos h
past-one [] info zero differ = absurd (differ refl)
past-one [] info (suc h) differ = refl
past-one (x ∷ xs) info zero differ = refl
past-one (x ∷ xs) info (suc h) differ = past-one xs info h (λ same. differ (ap suc same))

pub put-new : (infos : List GroupInfo) (number : ℕ) (info : GroupInfo) → info.blocks ≡ number ∷ [] → IsPut infos (infos ++ info ∷ []) number (length infos)
put-new infos number info is = record {
  here =
      let last : info_at (infos ++ info ∷ []) (length infos + 0) ≡ info = get_or-append-add infos (info ∷ []) 0 no_group in
      let past : info_at infos (length infos) ≡ no_group = get_or_past infos (length infos) no_group (omega arith) in
      let same : length infos + 0 ≡ length infos = omega arith in
      ap (λ (i : GroupInfo). i.blocks) (rw same at last ∙ refl) ∙ is ∙ ap (λ (i : GroupInfo). i.blocks ++ number ∷ []) (sym past);
  others = λ h differ. past-one infos info h differ;
}

-- the first blocks and one more
numbered-more : (records : List ModRecord) (blocks : List Block) (k : ℕ) (d : Block) → blocks ≡ blocks_of records → k < length blocks → take (k + 1) (numbered_blocks records) ≡ take k (numbered_blocks records) ++ (k, get_or blocks k d) ∷ []
numbered-more records blocks k d is within =
    let at : 0 + k ≡ k = omega arith in
    let inside : k < length (enumerate_from 0 blocks) = omega (arith, length-enumerate_from 0 blocks) in
    let more : take (k + 1) (enumerate_from 0 blocks) ≡ take k (enumerate_from 0 blocks) ++ (k, get_or blocks k d) ∷ [] =
    take_more (enumerate_from 0 blocks) k (0, d) inside ∙ ap (λ n. take k (enumerate_from 0 blocks) ++ n ∷ []) (get_or-enumerate_from 0 blocks k (0, d) within ∙ ap (λ n. (n, get_or blocks k d)) at) in
    subst (λ (l : List Block). take (k + 1) (enumerate_from 0 l) ≡ take k (enumerate_from 0 l) ++ (k, get_or blocks k d) ∷ []) is more

module _ (graph : Graph) (entries : List EntrySpec) (blocks : List Block) (k : ℕ) (d : Block) (is : blocks ≡ blocks_of graph.records) (within : k < length blocks) where
  abbrev block : Block
  block = get_or blocks k d

  pub step-unnamed : (infos new : List GroupInfo) (info : GroupInfo) → infos ≡ groups_so_far graph entries k → chunk_name_of graph.records block ≡ None → new ≡ infos ++ info ∷ [] → info ≡ loaded_by None ((k, block) ∷ [])
      → new ≡ groups_so_far graph entries (k + 1)
  step-unnamed infos new info so_far named new_is info_is =
      new_is ∙ (λ i. so_far i ++ info_is i ∷ []) ∙ more-unnamed graph entries (k, block) (take k (numbered_blocks graph.records)) named
      ∙ ap (groups_with graph entries) (sym (numbered-more graph.records blocks k d is within))

  pub step-named : (infos : List GroupInfo) (name : List ℕ) (place : ℕ) (info put : GroupInfo) → infos ≡ groups_so_far graph entries k → chunk_name_of graph.records block ≡ Some name
      → place < length (chunk_names graph.records) → get_or (chunk_names graph.records) place name ≡ name → info ≡ get_or infos (length entries + place) info
      → put ≡ with_block info k block.target → set infos (length entries + place) put ≡ groups_so_far graph entries (k + 1)
  step-named infos name place info put so_far named inside at info_is put_is =
      let first : length (entry_groups graph.roots entries) ≡ length entries = length-map (numbered_entries entries) (entry_group graph.roots) ∙ length-enumerate_from 0 entries in
      let found : info ≡ get_or (groups_so_far graph entries k) (length (entry_groups graph.roots entries) + place) info = info_is ∙ (λ i. get_or (so_far i) (sym first i + place) info) in
      (λ i. set (so_far i) (sym first i + place) (put_is i)) ∙ more-named graph entries (k, block) name (take k (numbered_blocks graph.records)) place info named inside at found
      ∙ ap (groups_with graph entries) (sym (numbered-more graph.records blocks k d is within))

-- how many groups there are
pub groups-count : (graph : Graph) (entries : List EntrySpec) (blocks : List (ℕ × Block))
    → length (groups_with graph entries blocks) ≡ length entries + length (chunk_names graph.records) + length (filter (has_no_name graph.records) blocks)
groups-count graph entries blocks =
    let first = entry_groups graph.roots entries in
    let middle = map (named_group graph.records blocks) (chunk_names graph.records) in
    omega (
      arith,
      length-append (first ++ middle) (unnamed_groups graph.records blocks),
      length-append first middle,
      length-map (numbered_entries entries) (entry_group graph.roots),
      length-enumerate_from 0 entries,
      length-map (chunk_names graph.records) (named_group graph.records blocks),
      length-map (filter (has_no_name graph.records) blocks) (λ (b : ℕ × Block). loaded_by None (b ∷ [])),
    )

pub named-has-room : (graph : Graph) (entries : List EntrySpec) (k : ℕ) (infos : List GroupInfo) (place : ℕ) → infos ≡ groups_so_far graph entries k → place < length (chunk_names graph.records) → length entries + place < length infos
named-has-room graph entries k infos place is inside =
    let count = groups-count graph entries (take k (numbered_blocks graph.records)) in
    let len : length infos ≡ length (groups_so_far graph entries k) = ap length is in
    omega arith

-- a name of a block is among the names
pub filter_map-has : {X Y : Type 0} (h : X → Option Y) (xs : List X) (x : X) (y : Y) → Contains xs x → h x ≡ Some y → Contains (filter_map h xs) y
filter_map-has h [] x y found is = absurd (contains-none x found)
filter_map-has h (z ∷ zs) x y (zero, l, e) is = rw (ap h e ∙ is) (0, omega arith, refl)
filter_map-has {X} {Y} h (z ∷ zs) x y (suc k, l, e) is = at (h z) refl (filter_map-has h zs x y (k, omega arith, e) is)
  where
    at : (o : Option Y) → h z ≡ o → Contains (filter_map h zs) y → Contains (filter_map h (z ∷ zs)) y
    at None none rest = rw none rest
    at (Some w) some (j, m, f) = rw some (suc j, omega arith, f)

pub name-there : (records : List ModRecord) (blocks : List Block) (k : ℕ) (d : Block) (name : List ℕ) → blocks ≡ blocks_of records → k < length blocks → chunk_name_of records (get_or blocks k d) ≡ Some name → Contains (chunk_names records) name
name-there records blocks k d name is within named =
    let block = get_or blocks k d in
    let here : Contains (blocks_of records) block = subst (λ (l : List Block). Contains l block) is (k, within, get_or_default blocks k block d within) in
    once-have _ name (filter_map-has (chunk_name_of records) (blocks_of records) block name here named)
