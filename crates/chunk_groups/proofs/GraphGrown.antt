-- How the groups of a graph come about.
use Rattle.std.proofs.Common.{◌≡◌, ℕ, zero, suc, ◌+◌, ◌<◌, ◌⊎◌, inl, inr, Bool, true, false, not, List, [], ◌∷◌, ◌++◌, map, length, get_or, refl, sym, ap, subst, ◌∙◌, arith}
use Rattle.std.specs.Prelude.{All, Contains, IsTrue, filter, filter_map, flat_map, nat_eq, Option, None, Some, is_some}
use Rattle.std.specs.List.{enumerate_from}
use Rattle.std.proofs.lemmas.Bool.{false≢true}
use Rattle.std.proofs.lemmas.Bool.Decides.{nat_tests}
use Rattle.std.proofs.lemmas.List.{get_or_append_left, get_or_default, get_or-map, length-append, length-map}
use Rattle.std.proofs.lemmas.List.Elements.{All-append, All-map, Contains-append_cases, Contains-append_left, Contains-append_right}
use Rattle.std.proofs.lemmas.List.FromFn.{get_or-enumerate_from, length-enumerate_from}
use Rattle.std.proofs.lemmas.Slice.Eq.{bytes_eq-Decides}
use Rattle.pack_util.specs.declared.number.ModuleNo.{ModuleNo}
use Rattle.graph_types.specs.declared.block.Block.{Block}
use Rattle.graph_types.specs.declared.entry.EntrySpec.{EntrySpec}
use Rattle.graph_types.specs.declared.groups.GroupInfo.{GroupInfo}
use Rattle.graph_types.specs.declared.record.ModRecord.{ModRecord}
use Rattle.graph_types.specs.Edges.{blocks_of}
use Rattle.graph_types.specs.Modules.{Graph}
use Rattle.graph_types.specs.Reached.{Walk}
use Rattle.chunk_groups.specs.ChunkGroups.{entry_group, entry_groups, groups_of, has_name, has_no_name, is_named, loaded_by, named_group, numbered_blocks, numbered_entries, unnamed_groups}
use Rattle.chunk_groups.specs.ChunkNames.{chunk_name_of, chunk_names}
use Rattle.chunk_groups.specs.Grouped.{home_of, info_at, net_of, no_block, no_group, numbers, targets_at}
use Rattle.chunk_groups.specs.Grown.{IsGrown}
use Rattle.chunk_groups.specs.Net.{Net}
use Rattle.chunk_groups.proofs.Filed.{filter_map-has, groups-count}
use Rattle.chunk_groups.proofs.Marks.{contains-none}
use Rattle.chunk_groups.proofs.Names.{once-have, once-only}
use Rattle.chunk_groups.proofs.Within.{blocks-within}

-- the modules that the blocks of a module load
abbrev pub loads : List ModRecord → ℕ → List ℕ
loads records home = map (λ (b : Block). b.target.0) (filter (λ (b : Block). nat_eq b.«module».0 home) (blocks_of records))

pub map-has : {X Y : Type 0} (f : X → Y) (xs : List X) (x : X) → Contains xs x → Contains (map f xs) (f x)
map-has f xs x (k, l, e) = (k, omega (arith, length-map xs f), get_or-map f xs k x (f x) l ∙ ap f e)

pub map-from : {X Y : Type 0} (f : X → Y) (xs : List X) (y : Y) → Contains (map f xs) y → (x : X) × Contains xs x × (f x ≡ y)
map-from f [] y found = absurd (contains-none y found)
map-from f (x ∷ xs) y (zero, l, e) = (x, (0, omega arith, refl), e)
map-from f (x ∷ xs) y (suc k, l, e) =
    let (z, (j, m, d), is) = map-from f xs y (k, omega arith, e) in
    (z, (suc j, omega arith, d), is)

pub filter-has : {X : Type 0} (p : X → Bool) (xs : List X) (x : X) → Contains xs x → p x ≡ true → Contains (filter p xs) x
filter-has p [] x found is = absurd (contains-none x found)
filter-has p (y ∷ ys) x (zero, l, e) is = rw (ap p e ∙ is) (0, omega arith, e)
filter-has {X} p (y ∷ ys) x (suc k, l, e) is = at (p y) refl (filter-has p ys x (k, omega arith, e) is)
  where
    at : (b : Bool) → p y ≡ b → Contains (filter p ys) x → Contains (filter p (y ∷ ys)) x
    at true kept (j, m, d) = rw kept (suc j, omega arith, d)
    at false out rest = rw out rest

pub filter-from : {X : Type 0} (p : X → Bool) (xs : List X) (x : X) → Contains (filter p xs) x → Contains xs x × (p x ≡ true)
filter-from p [] x = λ found. absurd (contains-none x found)
filter-from {X} p (y ∷ ys) x = at (filter-from p ys x) (p y) refl
  where
    later : Contains ys x × (p x ≡ true) → Contains (y ∷ ys) x × (p x ≡ true)
    later ((j, m, d), is) = ((suc j, omega arith, d), is)

    kept : (Contains (filter p ys) x → Contains ys x × (p x ≡ true)) → p y ≡ true → Contains (y ∷ filter p ys) x → Contains (y ∷ ys) x × (p x ≡ true)
    kept rest is (zero, l, e) = ((0, omega arith, e), subst (λ (z : X). p z ≡ true) e is)
    kept rest is (suc k, l, e) = later (rest (k, omega arith, e))

    at : (Contains (filter p ys) x → Contains ys x × (p x ≡ true)) → (b : Bool) → p y ≡ b → Contains (filter p (y ∷ ys)) x → Contains (y ∷ ys) x × (p x ≡ true)
    at rest true is found = kept rest is (rw is at found)
    at rest false is found = later (rest (rw is at found))

pub filter_map-from : {X Y : Type 0} (h : X → Option Y) (xs : List X) (y : Y) → Contains (filter_map h xs) y → (x : X) × Contains xs x × (h x ≡ Some y)
filter_map-from h [] y = λ found. absurd (contains-none y found)
filter_map-from {X} {Y} h (z ∷ zs) y = at (filter_map-from h zs y) (h z) refl
  where
    later : (x : X) × Contains zs x × (h x ≡ Some y) → (x : X) × Contains (z ∷ zs) x × (h x ≡ Some y)
    later (x, (j, m, d), is) = (x, (suc j, omega arith, d), is)

    kept : (Contains (filter_map h zs) y → (x : X) × Contains zs x × (h x ≡ Some y)) → (w : Y) → h z ≡ Some w → Contains (w ∷ filter_map h zs) y → (x : X) × Contains (z ∷ zs) x × (h x ≡ Some y)
    kept rest w is (zero, l, e) = (z, (0, omega arith, refl), is ∙ ap Some e)
    kept rest w is (suc k, l, e) = later (rest (k, omega arith, e))

    at : (Contains (filter_map h zs) y → (x : X) × Contains zs x × (h x ≡ Some y)) → (o : Option Y) → h z ≡ o → Contains (filter_map h (z ∷ zs)) y → (x : X) × Contains (z ∷ zs) x × (h x ≡ Some y)
    at rest None is found = later (rest (rw is at found))
    at rest (Some w) is found = kept rest w is (rw is at found)

pub flat_map-at : {X Y : Type 0} (h : X → List Y) (xs : List X) (d : X) (y : Y) → Contains (flat_map h xs) y → (k : ℕ) × (k < length xs) × Contains (h (get_or xs k d)) y
flat_map-at h [] d y found = absurd (contains-none y found)
flat_map-at h (x ∷ xs) d y found = elim (Contains-append_cases (h x) (flat_map h xs) y found) [
  | inl here ↦ (0, omega arith, here)
  | inr later ↦
      let (k, l, there) = flat_map-at h xs d y later in
      (suc k, omega arith, there)
]

pub flat_map-has : {X Y : Type 0} (h : X → List Y) (xs : List X) (x : X) (y : Y) → Contains xs x → Contains (h x) y → Contains (flat_map h xs) y
flat_map-has h [] x y found there = absurd (contains-none x found)
flat_map-has h (z ∷ zs) x y (zero, l, e) there = Contains-append_left (h z) (flat_map h zs) y (subst (λ (w : _). Contains (h w) y) (sym e) there)
flat_map-has h (z ∷ zs) x y (suc k, l, e) there = Contains-append_right (h z) (flat_map h zs) y (flat_map-has h zs x y (k, omega arith, e) there)

pub enumerated-has : {X : Type 0} (xs : List X) (k : ℕ) (x : X) → k < length xs → get_or xs k x ≡ x → Contains (enumerate_from 0 xs) (k, x)
enumerated-has xs k x inside is =
    let zero_more : 0 + k ≡ k = omega arith in
    (k, omega (arith, length-enumerate_from 0 xs), get_or-enumerate_from 0 xs k (k, x) inside ∙ (λ i. (zero_more i, is i)))

same-number : (x y : ℕ) → nat_eq x y ≡ true → x ≡ y
same-number x y is = grind (arith, nat_tests)

module _ (graph : Graph) (entries : List EntrySpec) where
  abbrev records : List ModRecord
  records = graph.records

  abbrev blocks : List Block
  blocks = blocks_of records

  abbrev numbered : List (ℕ × Block)
  numbered = numbered_blocks records

  abbrev infos : List GroupInfo
  infos = groups_of graph entries

  abbrev first : List GroupInfo
  first = entry_groups graph.roots entries

  abbrev middle : List GroupInfo
  middle = map (named_group records numbered) (chunk_names records)

  abbrev single : ℕ × Block → GroupInfo
  single b = loaded_by None (b ∷ [])

  -- the group is loaded by blocks of the graph, and there is one
  record IsLoadedBy (info : GroupInfo) : Type 0 where
    name : Option (List ℕ)
    by : List (ℕ × Block)
    is : info ≡ loaded_by name by
    one : ℕ × Block
    among : Contains by one
    theirs : Contains numbered one

  block-at : (n : ℕ × Block) → Contains numbered n → (n.0 < length blocks) × (get_or blocks n.0 no_block ≡ n.1)
  block-at n (k, l, e) =
      let inside : k < length blocks = omega (arith, length-enumerate_from 0 blocks) in
      let is : (0 + k, get_or blocks k n.1) ≡ n = sym (get_or-enumerate_from 0 blocks k n inside) ∙ e in
      let at : k ≡ n.0 =
      let zero_more : 0 + k ≡ k = omega arith in
      sym zero_more ∙ ap (λ (m : ℕ × Block). m.0) is in
      (subst (λ (j : ℕ). j < length blocks) at inside, ap (λ (j : ℕ). get_or blocks j no_block) (sym at) ∙ get_or_default blocks k no_block n.1 inside ∙ ap (λ (m : ℕ × Block). m.1) is)

  home-in : (n : ℕ × Block) (name : Option (List ℕ)) (by : List (ℕ × Block)) → Contains numbered n → Contains by n → Contains (map (home_of blocks) (loaded_by name by).blocks) n.1.«module».0
  home-in n name by theirs among =
      subst (λ (m : ℕ). Contains (map (home_of blocks) (map (λ (b : ℕ × Block). b.0) by)) m) (ap (λ (b : Block). b.«module».0) (block-at n theirs).1) (map-has (home_of blocks) _ n.0 (map-has (λ (b : ℕ × Block). b.0) by n among))

  root-in : (n : ℕ × Block) (name : Option (List ℕ)) (by : List (ℕ × Block)) → Contains by n → Contains (numbers (loaded_by name by).roots) n.1.target.0
  root-in n name by among = map-has (λ (m : ModuleNo). m.0) (loaded_by name by).roots n.1.target (map-has (λ (b : ℕ × Block). b.1.target) by n among)

  named-loaded : (name : List ℕ) → Contains (chunk_names records) name → IsLoadedBy (named_group records numbered name)
  named-loaded name found =
      let (b, (k, l, e), named) = filter_map-from (chunk_name_of records) blocks name (once-only _ name found) in
      let there : Contains numbered (k, b) = enumerated-has blocks k b l e in
      record {
        name = Some name;
        by = filter (has_name records name) numbered;
        is = refl;
        one = (k, b);
        among = filter-has (has_name records name) numbered (k, b) there (ap (is_named name) named ∙ (bytes_eq-Decides name name).1 refl);
        theirs = there;
      }

  unnamed-loaded : (n : ℕ × Block) → Contains numbered n → IsLoadedBy (single n)
  unnamed-loaded n found = record { name = None; by = n ∷ []; is = refl; one = n; among = (0, omega arith, refl); theirs = found }

  abbrev IsMade : GroupInfo → Type 0
  IsMade info = IsTrue (is_some info.entry) ⊎ IsLoadedBy info

  all-made : All IsMade infos
  all-made =
      let named : All IsMade middle = All-map IsMade (named_group records numbered) (chunk_names records)
      (λ k d l. inr (named-loaded (get_or (chunk_names records) k d) (k, l, get_or_default (chunk_names records) k _ d l))) in
      let rest = filter (has_no_name records) numbered in
      let unnamed : All IsMade (unnamed_groups records numbered) = All-map IsMade single rest
      (λ k d l. inr (unnamed-loaded (get_or rest k d) (filter-from (has_no_name records) numbered (get_or rest k d) (k, l, get_or_default rest k _ d l)).0)) in
      All-append IsMade (first ++ middle) _ (All-append IsMade first middle (All-map IsMade (entry_group graph.roots) (numbered_entries entries) (λ k d l. inl refl)) named) unnamed

  -- a block's group
  record IsGroupOf (n : ℕ × Block) : Type 0 where
    name : Option (List ℕ)
    by : List (ℕ × Block)
    among : Contains by n
    there : Contains infos (loaded_by name by)

  group-named : (n : ℕ × Block) → Contains numbered n → (name : List ℕ) → chunk_name_of records n.1 ≡ Some name → IsGroupOf n
  group-named n found name named =
      let (within, at) = block-at n found in
      let here : Contains blocks n.1 = (n.0, within, get_or_default blocks n.0 n.1 no_block within ∙ at) in
      let known : Contains (chunk_names records) name = once-have _ name (filter_map-has (chunk_name_of records) blocks n.1 name here named) in
      record {
        name = Some name;
        by = filter (has_name records name) numbered;
        among = filter-has (has_name records name) numbered n found (ap (is_named name) named ∙ (bytes_eq-Decides name name).1 refl);
        there = Contains-append_left (first ++ middle) _ _ (Contains-append_right first middle _ (map-has (named_group records numbered) (chunk_names records) name known));
      }

  group-unnamed : (n : ℕ × Block) → Contains numbered n → chunk_name_of records n.1 ≡ None → IsGroupOf n
  group-unnamed n found none = record {
    name = None;
    by = n ∷ [];
    among = (0, omega arith, refl);
    there = Contains-append_right (first ++ middle) _ _ (map-has single (filter (has_no_name records) numbered) n (filter-has (has_no_name records) numbered n found (ap (λ (o : Option (List ℕ)). not (is_some o)) none)));
  }

  group-of : (n : ℕ × Block) → Contains numbered n → IsGroupOf n
  group-of n found = at (chunk_name_of records n.1) refl
    where
      at : (o : Option (List ℕ)) → chunk_name_of records n.1 ≡ o → IsGroupOf n
      at None is = group-unnamed n found is
      at (Some name) is = group-named n found name is

  entry-at : (e : ℕ) (entry : EntrySpec) → e < length entries → info_at infos e ≡ entry_group graph.roots (e, get_or entries e entry)
  entry-at e entry inside =
      let count : length first ≡ length entries = length-map (numbered_entries entries) (entry_group graph.roots) ∙ length-enumerate_from 0 entries in
      let in_front : e < length (first ++ middle) = omega (arith, length-append first middle) in
      let zero_more : 0 + e ≡ e = omega arith in
      get_or_append_left (first ++ middle) _ no_group e in_front ∙ get_or_append_left first middle no_group e (omega arith)
      ∙ get_or-map (entry_group graph.roots) (numbered_entries entries) e (0, entry) no_group (omega (arith, length-enumerate_from 0 entries))
      ∙ ap (entry_group graph.roots) (get_or-enumerate_from 0 entries e (0, entry) inside ∙ ap (λ k. (k, get_or entries e entry)) zero_more)

  module _ (lists : length graph.roots ≡ length entries) (found : (m : ℕ) → m < length records → (steps : ℕ) × Walk (λ m. targets_at records m ++ loads records m) (flat_map numbers graph.roots) m steps) where
    abbrev net : Net
    net = net_of graph infos

    entry-grown : (m e : ℕ) → e < length entries → Contains (numbers (get_or graph.roots e [])) m → (entry : EntrySpec) → (g : ℕ) × (g < net.groups) × IsTrue (net.is_entry g) × Contains (net.roots g) m
    entry-grown m e inside root entry =
        let is = entry-at e entry inside in
        (e, omega (arith, groups-count graph entries numbered), ap (λ (i : GroupInfo). is_some i.entry) is, subst (λ (i : GroupInfo). Contains (numbers i.roots) m) (sym is) root)

    some-entry : (e : ℕ) (all : List EntrySpec) → e < length all → EntrySpec
    some-entry e [] l = absurd (omega arith)
    some-entry e (entry ∷ rest) l = entry

    block-grown : (home m : ℕ) → Contains (loads records home) m → (g : ℕ) × (g < net.groups) × (net.is_entry g ≡ false) × Contains (net.homes g) home × Contains (net.roots g) m
    block-grown home m loaded =
        let (b, kept, target) = map-from (λ (b : Block). b.target.0) _ m loaded in
        let ((k, l, e), test) = filter-from (λ (b : Block). nat_eq b.«module».0 home) blocks b kept in
        let there : Contains numbered (k, b) = enumerated-has blocks k b l e in
        let group = group-of (k, b) there in
        let (g, within, is) = group.there in
        let at : info_at infos g ≡ loaded_by group.name group.by = get_or_default infos g no_group (loaded_by group.name group.by) within ∙ is in
        let homes : Contains (map (home_of blocks) (loaded_by group.name group.by).blocks) home = subst (λ (h : ℕ). Contains (map (home_of blocks) (loaded_by group.name group.by).blocks) h) (same-number _ _ test) (home-in (k, b) group.name group.by there group.among) in
        let roots : Contains (numbers (loaded_by group.name group.by).roots) m = subst (λ (t : ℕ). Contains (numbers (loaded_by group.name group.by).roots) t) target (root-in (k, b) group.name group.by group.among) in
        (g, within, ap (λ (i : GroupInfo). is_some i.entry) at, subst (λ (i : GroupInfo). Contains (map (home_of blocks) i.blocks) home) (sym at) homes, subst (λ (i : GroupInfo). Contains (numbers i.roots) m) (sym at) roots)

    group-found : (g : ℕ) → g < net.groups → net.is_entry g ≡ false → (home : ℕ) × Contains (net.homes g) home × ((steps : ℕ) × Walk (λ m. net.targets m ++ loads records m) (flat_map numbers graph.roots) home steps)
    group-found g within lazy = elim (all-made g no_group within) [
      | inl is_entry ↦ absurd (false≢true (sym lazy ∙ is_entry))
      | inr by ↦
          let (inside, at) = block-at by.one by.theirs in
          let home : by.one.1.«module».0 < length records = subst (λ (b : Block). b.«module».0 < length records) at (blocks-within records by.one.0 no_block inside).0 in
          (by.one.1.«module».0, subst (λ (i : GroupInfo). Contains (map (home_of blocks) i.blocks) by.one.1.«module».0) (sym by.is) (home-in by.one by.name by.by by.theirs by.among), found by.one.1.«module».0 home)
    ]

    pub graph-grown : IsGrown net (loads records) (flat_map numbers graph.roots)
    graph-grown = record {
      entries = λ m root.
          let (e, l, there) = flat_map-at numbers graph.roots [] m root in
          entry-grown m e (omega arith) there (some-entry e entries (omega arith));
      blocks = block-grown;
      found = group-found;
    }
