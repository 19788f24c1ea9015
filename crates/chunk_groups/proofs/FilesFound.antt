-- The modules of a graph are found by walks from the entries' modules, as their files are reached from the entries' files.
use Rattle.std.proofs.Common.{◌≡◌, ℕ, zero, suc, ◌<◌, Bool, true, false, List, [], ◌∷◌, ◌++◌, map, length, get_or, refl, sym, ap, subst, ◌∙◌, arith}
use Rattle.std.specs.Prelude.{◌==◌, Contains, filter, flat_map, nat_eq, Option, None, Some, is_some, option_map, option_and_then, position, if◌then◌else◌}
use Rattle.std.specs.List.{enumerate_from}
use Rattle.std.proofs.lemmas.Bool.{eq-eqb, false≢true}
use Rattle.std.proofs.lemmas.List.{get_or_default, get_or-map, length-map}
use Rattle.std.proofs.lemmas.List.Elements.{Contains-append_left, Contains-append_right}
use Rattle.fault_place.specs.declared.fault.Fault.{Fault}
use Rattle.pack_util.specs.declared.number.FileId.{FileId}
use Rattle.pack_util.specs.declared.number.ModuleNo.{ModuleNo}
use Rattle.graph_types.specs.declared.block.Block.{Block}
use Rattle.graph_types.specs.declared.item.Item.{Item}
use Rattle.graph_types.specs.declared.record.ModRecord.{ModRecord}
use Rattle.graph_types.specs.Edges.{block_of, blocks_in, blocks_of, is_lazy, sync_target, sync_targets_of}
use Rattle.graph_types.specs.Graphs.{IsGraphOf, roots_of}
use Rattle.graph_types.specs.Modules.{Graph, file_id, files_of, module_no, module_of}
use Rattle.graph_types.specs.Reached.{Walk}
use Rattle.graph_types.specs.Targets.{item_target, targets_by}
use Rattle.graph_types.proofs.Search.{found_number}
use Rattle.graph_types.proofs.Walks.{by-a-walk}
use Rattle.chunk_groups.specs.Grouped.{numbers, targets_at}
use Rattle.chunk_groups.proofs.Filed.{filter_map-has}
use Rattle.chunk_groups.proofs.GraphGrown.{enumerated-has, filter-has, filter_map-from, flat_map-at, flat_map-has, loads, map-has}

some-same : (x y : ℕ) → Some x ≡ Some y → x ≡ y
some-same x y is = ap (λ (o : Option ℕ). take o) is
  where
    take : Option ℕ → ℕ
    take None = x
    take (Some z) = z

target-is : (o : Option FileId) (f : ℕ) → option_map (λ (file : FileId). file.0) o ≡ Some f → o ≡ Some (file_id f)
target-is None f is = absurd (false≢true (ap is_some is))
target-is (Some file) f is = ap (λ n. Some (file_id n)) (some-same file.0 f is)

module _ (record_of : ℕ → ModRecord) (files : List (List ℕ)) (faults : List Fault) (graph : Graph) (own : (file : ℕ) → (record_of file).file.0 ≡ file) (is : IsGraphOf record_of files faults graph) where
  abbrev records : List ModRecord
  records = graph.records

  abbrev members : List ℕ
  members = is.members

  file-back : (xs : List ℕ) → map (λ (rec : ModRecord). rec.file.0) (map record_of xs) ≡ xs
  file-back [] = refl
  file-back (x ∷ xs) = λ i. own x i ∷ file-back xs i

  files-are : files_of records ≡ members
  files-are = ap files_of is.records_are ∙ file-back members

  pub many : length records ≡ length members
  many = ap length is.records_are ∙ length-map members record_of

  module-at : (m f : ℕ) → m < length members → get_or members m 0 ≡ f → module_of records (file_id f) ≡ Some (module_no m)
  module-at m f l at =
      let place : position (λ n. n == f) members ≡ Some m = sym (found_number members f m is.ascending l at) in
      ap (λ (xs : List ℕ). option_map module_no (position (λ n. n == f) xs)) files-are ∙ ap (option_map module_no) place

  record-at : (p : ℕ) (d : ModRecord) → p < length members → get_or records p d ≡ record_of (get_or members p 0)
  record-at p d l = ap (λ (rs : List ModRecord). get_or rs p d) is.records_are ∙ get_or-map record_of members p 0 d l

  root-found : (m f : ℕ) → m < length members → get_or members m 0 ≡ f → Contains (flat_map (λ fs. fs) files) f → Contains (flat_map numbers graph.roots) m
  root-found m f l at named =
      let (e, inside, there) = flat_map-at (λ (fs : List ℕ). fs) files [] f named in
      let fs = get_or files e [] in
      let root : Contains (roots_of records fs) (module_no m) = filter_map-has (module_of records) (map file_id fs) (file_id f) (module_no m) (map-has file_id fs f there) (module-at m f l at) in
      let among : Contains graph.roots (roots_of records fs) = subst (λ (rs : List (List ModuleNo)). Contains rs (roots_of records fs)) (sym is.roots_are) (map-has (roots_of records) files fs (e, inside, get_or_default files e fs [] inside)) in
      flat_map-has numbers graph.roots (roots_of records fs) m among (map-has (λ (n : ModuleNo). n.0) (roots_of records fs) (module_no m) root)

  module _ (p from m f : ℕ) (from_in : p < length members) (from_at : get_or members p 0 ≡ from) (l : m < length members) (at : get_or members m 0 ≡ f)
      (i : ℕ) (item : Item) (inside : i < length (record_of from).items) (item_is : get_or (record_of from).items i item ≡ item) (target : item.target ≡ Some (file_id f)) where
    rec-is : (d : ModRecord) → get_or records p d ≡ record_of from
    rec-is d = record-at p d from_in ∙ ap record_of from_at

    found-module : option_and_then (module_of records) item.target ≡ Some (module_no m)
    found-module = ap (option_and_then (module_of records)) target ∙ module-at m f l at

    at-once : is_lazy item.kind ≡ false → Contains (targets_at records p) m
    at-once lazy =
        let one : sync_target records item ≡ Some (module_no m) = ap (λ t. if t then None else option_and_then (module_of records) item.target) lazy ∙ found-module in
        let listed : Contains (sync_targets_of records (record_of from)) (module_no m) = filter_map-has (sync_target records) (record_of from).items item (module_no m) (i, inside, item_is) one in
        let list : get_or (map (sync_targets_of records) records) p [] ≡ sync_targets_of records (record_of from) =
        get_or-map (sync_targets_of records) records p (record_of from) [] (omega (arith, many)) ∙ ap (sync_targets_of records) (rec-is (record_of from)) in
        subst (λ (ts : List ModuleNo). Contains (numbers ts) m) (sym list) (map-has (λ (n : ModuleNo). n.0) _ (module_no m) listed)

    abbrev block : Block
    block = record { «module» = module_no p; item = i; target = module_no m }

    on-demand : is_lazy item.kind ≡ true → Contains (loads records p) m
    on-demand lazy =
        let made : Option ModuleNo → Option Block = option_map (λ target. record { «module» = module_no p; item = i; target = target }) in
        let one : block_of records p (i, item) ≡ Some block = ap (λ t. if t then made (option_and_then (module_of records) item.target) else None) lazy ∙ ap made found-module in
        let listed : Contains (blocks_in records (p, record_of from)) block = filter_map-has (block_of records p) (enumerate_from 0 (record_of from).items) (i, item) block (enumerated-has (record_of from).items i item inside item_is) one in
        let there : Contains (blocks_of records) block = flat_map-has (blocks_in records) (enumerate_from 0 records) (p, record_of from) block (enumerated-has records p (record_of from) (omega (arith, many)) (rec-is (record_of from))) listed in
        map-has (λ (b : Block). b.target.0) (filter (λ (b : Block). nat_eq b.«module».0 p) (blocks_of records)) block (filter-has (λ (b : Block). nat_eq b.«module».0 p) (blocks_of records) block there (eq-eqb p p refl))

    step : Contains (targets_at records p ++ loads records p) m
    step = by (is_lazy item.kind) refl
      where
        by : (lazy : Bool) → is_lazy item.kind ≡ lazy → Contains (targets_at records p ++ loads records p) m
        by true lazy = Contains-append_right (targets_at records p) (loads records p) m (on-demand lazy)
        by false lazy = Contains-append_left (targets_at records p) (loads records p) m (at-once lazy)

  walk-found : (steps f : ℕ) → Walk (targets_by record_of) (flat_map (λ fs. fs) files) f steps → (m : ℕ) → m < length members → get_or members m 0 ≡ f
      → (more : ℕ) × Walk (λ m. targets_at records m ++ loads records m) (flat_map numbers graph.roots) m more
  walk-found zero f start m l at = (0, root-found m f l at start)
  walk-found (suc steps) f (from, walk, leads) m l at =
      let (p, from_in, e) = (by-a-walk (targets_by record_of) (flat_map (λ fs. fs) files) members is.reached from).1 (steps, walk) in
      let from_at : get_or members p 0 ≡ from = get_or_default members p 0 from from_in ∙ e in
      let (more, found) = walk-found steps from walk p from_in from_at in
      let (item, (i, inside, item_is), target) = filter_map-from item_target (record_of from).items f leads in
      (suc more, (p, found, step p from m f from_in from_at l at i item inside item_is (target-is item.target f target)))

  pub modules-found : (m : ℕ) → m < length records → (steps : ℕ) × Walk (λ m. targets_at records m ++ loads records m) (flat_map numbers graph.roots) m steps
  modules-found m l =
      let inside : m < length members = omega (arith, many) in
      let file = get_or members m 0 in
      let (steps, walk) = (by-a-walk (targets_by record_of) (flat_map (λ fs. fs) files) members is.reached file).0 (m, inside, get_or_default members m file 0 inside) in
      walk-found steps file walk m inside refl
