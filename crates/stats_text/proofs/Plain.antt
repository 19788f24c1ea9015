-- No number of the stats is a float, so their text is known.
use Rattle.std.proofs.Common.{◌≡◌, ℕ, List, [], ◌∷◌, ◌++◌, Bool, true, false, ◌||◌, map, ap, sym, ◌∙◌, refl}
use Rattle.std.specs.List.{enumerate_from, range_with_len}
use Rattle.std.specs.Prelude.{flat_map, filter_map, length, Option, Some, None, option_map, unwrap_or}
use Rattle.chunk_graph.specs.Chunks.{State, chunk_at, group_at}
use Rattle.chunk_graph.specs.Moves.{id_of}
use Rattle.chunk_graph.specs.declared.split.Split.{Split}
use Rattle.pack_util.specs.declared.number.ModuleNo.{ModuleNo}
use Rattle.graph_types.specs.declared.config.Config.{Config}
use Rattle.graph_types.specs.declared.groups.GroupInfo.{GroupInfo}
use Rattle.graph_types.specs.declared.record.ModRecord.{ModRecord}
use Rattle.graph_types.specs.Edges.{sync_targets_of}
use Rattle.graph_types.specs.GroupList.{GroupList}
use Rattle.graph_types.specs.Modules.{Graph}
use Rattle.serde_json.specs.Data.{Data}
use Rattle.serde_json.specs.View.{items_of}
use Rattle.serde_json.specs.Written.{has_float, items_have_float}
use Rattle.stats_text.specs.Lists.{loaded_groups, listed_ids, held_modules}
use Rattle.stats_text.specs.Stats.{number_stats, modules_by_number, list_stats, name_stats, asset_stats, chunk_stats, chunk_told, group_stats, id_stats, module_told, note_stats, notes_in, split_stats, stats_of}

or-false : (a b : Bool) → a ≡ false → b ≡ false → a || b ≡ false
or-false a b left right = rw left right

first_of_or : (a b : Bool) → a || b ≡ false → a ≡ false
first_of_or false b neither = refl
first_of_or true b neither = neither

second_of_or : (a b : Bool) → a || b ≡ false → b ≡ false
second_of_or false b neither = neither
second_of_or true b neither = cc

plain-append : (front back : List Data) → items_have_float (items_of front) ≡ false → items_have_float (items_of back) ≡ false → items_have_float (items_of (front ++ back)) ≡ false
plain-append [] back left right = right
plain-append (first ∷ front) back left right =
    or-false (has_float first) (items_have_float (items_of (front ++ back)))
    (first_of_or (has_float first) (items_have_float (items_of front)) left)
    (plain-append front back (second_of_or (has_float first) (items_have_float (items_of front)) left) right)

plain-map : {X : Type 0} (f : X → Data) → ((x : X) → has_float (f x) ≡ false) → (xs : List X) → items_have_float (items_of (map f xs)) ≡ false
plain-map f plain [] = refl
plain-map f plain (x ∷ xs) = or-false (has_float (f x)) (items_have_float (items_of (map f xs))) (plain x) (plain-map f plain xs)

plain-notes : (records : List ModRecord) → items_have_float (items_of (flat_map notes_in records)) ≡ false
plain-notes [] = refl
plain-notes (first ∷ records) = plain-append (notes_in first) (flat_map notes_in records) (plain-map (note_stats first.path) (λ note. refl) first.notes) (plain-notes records)

plain-modules : (modules : List ModuleNo) → has_float (modules_by_number modules) ≡ false
plain-modules modules = plain-map (λ m. number_stats m.0) (λ m. refl) modules

plain-name : (name : Option (List ℕ)) → has_float (name_stats name) ≡ false
plain-name None = refl
plain-name (Some name) = refl

plain-id : (named : Bool) (numbered : ℕ × ModRecord) → has_float (id_stats named numbered) ≡ false
plain-id true numbered = refl
plain-id false numbered = refl

two : (a b : Bool) → a ≡ false → b ≡ false → a || (b || false) ≡ false
two a b p q = rw (p, q) refl

three : (a b c : Bool) → a ≡ false → b ≡ false → c ≡ false → a || (b || (c || false)) ≡ false
three a b c p q r = rw (p, q, r) refl

plain-module : (named : Bool) (groups : GroupList) (records : List ModRecord) (numbered : ℕ × ModRecord) → has_float (module_told named groups records numbered) ≡ false
plain-module named groups records numbered =
    let loaded = loaded_groups groups.of_block records numbered.0 in
    three (has_float (list_stats (map (λ g. number_stats g.0) loaded))) (has_float (id_stats named numbered)) (has_float (modules_by_number (sync_targets_of records numbered.1)))
    (plain-map (λ g. number_stats g.0) (λ g. refl) loaded) (plain-id named numbered) (plain-modules (sync_targets_of records numbered.1))

plain-chunk : (records : List ModRecord) (s : State) (c id : ℕ) → has_float (chunk_stats records s c id) ≡ false
plain-chunk records s c id =
    two (has_float (modules_by_number (held_modules (chunk_at s c).mods))) (has_float (name_stats (chunk_at s c).name))
    (plain-modules (held_modules (chunk_at s c).mods)) (plain-name (chunk_at s c).name)

plain-option : (told : ℕ → Option Data) (c : ℕ) (rest : List ℕ) (found : Option Data) → told c ≡ found → ((d : Data) → found ≡ Some d → has_float d ≡ false)
    → items_have_float (items_of (filter_map told rest)) ≡ false → items_have_float (items_of (filter_map told (c ∷ rest))) ≡ false
plain-option told c rest None is each plain = rw is plain
plain-option told c rest (Some d) is each plain = rw is (or-false (has_float d) (items_have_float (items_of (filter_map told rest))) (each d refl) plain)

some-inner : (x y d : Data) → Some x ≡ Some y → x ≡ y
some-inner x y d is = ap (λ found. unwrap_or found d) is

plain-told : (records : List ModRecord) (s : State) (c : ℕ) (id : Option ℕ) (d : Data) → option_map (chunk_stats records s c) id ≡ Some d → has_float d ≡ false
plain-told records s c None d is = cc
plain-told records s c (Some id) d is = ap has_float (sym (some-inner (chunk_stats records s c id) d d is)) ∙ plain-chunk records s c id

plain-chunks : (records : List ModRecord) (s : State) (numbers : List ℕ) → items_have_float (items_of (filter_map (chunk_told records s) numbers)) ≡ false
plain-chunks records s [] = refl
plain-chunks records s (c ∷ numbers) =
    plain-option (chunk_told records s) c numbers (chunk_told records s c) refl (λ d is. plain-told records s c (id_of s c) d is) (plain-chunks records s numbers)

plain-group : (s : State) (numbered : ℕ × GroupInfo) → has_float (group_stats s numbered) ≡ false
plain-group s numbered =
    three (has_float (list_stats (map number_stats (listed_ids s (group_at s numbered.0))))) (has_float (name_stats numbered.1.name)) (has_float (modules_by_number numbered.1.roots))
    (plain-map number_stats (λ id. refl) (listed_ids s (group_at s numbered.0))) (plain-name numbered.1.name) (plain-modules numbered.1.roots)

plain-split : (config : Config) (split : Split) → has_float (split_stats config split) ≡ false
plain-split config split =
    two (has_float (list_stats (map (λ c. number_stats c.0) split.chunks))) (has_float (modules_by_number split.modules))
    (plain-map (λ c. number_stats c.0) (λ c. refl) split.chunks) (plain-modules split.modules)

six : (a b c d e f : Bool) → a ≡ false → b ≡ false → c ≡ false → d ≡ false → e ≡ false → f ≡ false → a || (b || (c || (d || (e || (f || false))))) ≡ false
six a b c d e f p q r s t u = rw (p, q, r, s, t, u) refl

pub plain-stats : (graph : Graph) (groups : GroupList) (chunks : State) (config : Config) (splits : List Split) (assets : List (ℕ × List ℕ)) → has_float (stats_of graph groups chunks config splits assets) ≡ false
plain-stats graph groups chunks config splits assets =
    let module_of_graph = module_told config.named_ids groups graph.records in
    six (items_have_float (items_of (map asset_stats assets))) (items_have_float (items_of (filter_map (chunk_told graph.records chunks) (range_with_len 0 (length chunks.chunks)))))
    (items_have_float (items_of (map (group_stats chunks) (enumerate_from 0 groups.infos)))) (items_have_float (items_of (map module_of_graph (enumerate_from 0 graph.records))))
    (items_have_float (items_of (flat_map notes_in graph.records))) (items_have_float (items_of (map (split_stats config) splits)))
    (plain-map asset_stats (λ asset. refl) assets) (plain-chunks graph.records chunks (range_with_len 0 (length chunks.chunks)))
    (plain-map (group_stats chunks) (plain-group chunks) (enumerate_from 0 groups.infos))
    (plain-map module_of_graph (plain-module config.named_ids groups graph.records) (enumerate_from 0 graph.records))
    (plain-notes graph.records) (plain-map (split_stats config) (plain-split config) splits)
