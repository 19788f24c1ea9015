-- A file whose path is behind all others is put at the end.
use Rattle.std.proofs.Common.{◌≡◌, ℕ, zero, suc, ◌+◌, ◌<◌, ◌≤◌, ◌^◌, List, [], ◌∷◌, ◌++◌, map, Bool, true, false, cond, not, Result, Ok, Err, OnOk, codes, refl, sym, ap, ◌∙◌, subst, arith}
use Rattle.std.proofs.lemmas.List.{append-nil, append_assoc}
use Rattle.std.specs.List.{AllByRecursion, range_with_len}
use Rattle.std.specs.FinMap.Entries.{put}
use Rattle.std.specs.declared.cmp.Ordering.TheVariants.{Greater}
use Rattle.outside.specs.Additions.{clashes, with_file}
use Rattle.outside.specs.Tree.{Tree}
use Rattle.outside.specs.declared.tree_end.TreeEnd.{TreeEnd}
use Rattle.outside.specs.declared.tree_end.TreeEnd.TheVariants.{Clash, NotNormal}
use Rattle.path_text.specs.Path.{is_normal}
use Rattle.tree_sample.specs.Sample.{digits, libraries, library, library_path, library_text, module_file, module_path, module_text, sample_to}
use Rattle.tree_sample.proofs.Order.{greater_path, order}

abbrev File : Type 0
File = List ℕ × List ℕ

-- the path is behind that of the file
abbrev Behind : List ℕ → File → Type 0
Behind path file = order path file.0 ≡ Greater

put_last : (path bytes : List ℕ) (files : List File) → AllByRecursion (Behind path) files → put order path bytes files ≡ files ++ (path, bytes) ∷ []
put_last path bytes [] all = refl
put_last path bytes (file ∷ files) all = rw (all.0) (ap (λ xs. file ∷ xs) (put_last path bytes files all.1))

all_join : (P : File → Type 0) (xs ys : List File) → AllByRecursion P xs → AllByRecursion P ys → AllByRecursion P (xs ++ ys)
all_join P [] ys first second = second
all_join P (x ∷ xs) ys first second = (first.0, all_join P xs ys first.1 second)

push_from : (file : ℕ → File) (count start : ℕ) → map file (range_with_len start (suc count)) ≡ map file (range_with_len start count) ++ file (start + count) ∷ []
push_from file zero start =
    let same : start ≡ start + 0 = omega arith in
    ap (λ n. file n ∷ []) same
push_from file (suc count) start =
    let same : start + 1 + count ≡ start + suc count = omega arith in
    ap (λ xs. file start ∷ xs) (push_from file count (start + 1))
    ∙ ap (λ n. file start ∷ (map file (range_with_len (start + 1) count) ++ file n ∷ [])) same

map_push : (file : ℕ → File) (count : ℕ) → map file (range_with_len 0 (count + 1)) ≡ map file (range_with_len 0 count) ++ file count ∷ []
map_push file count =
    let next : count + 1 ≡ suc count = omega arith in
    let same : 0 + count ≡ count = omega arith in
    ap (λ n. map file (range_with_len 0 n)) next ∙ push_from file count 0 ∙ ap (λ n. map file (range_with_len 0 count) ++ file n ∷ []) same

-- ---- the libraries

before_library : (k start count : ℕ) → start + count ≤ k → k < 10 → AllByRecursion (Behind (library_path k)) (map library (range_with_len start count))
before_library k start zero within few = tt
before_library k start (suc count) within few =
    (greater_path (codes "node_modules/lib") 1 start k (codes "/index.js") (omega (arith, within)) (omega (arith, few)), before_library k (start + 1) count (omega (arith, within)) few)

library_put : (k : ℕ) → k < 7 → put order (library_path k) library_text (libraries k) ≡ libraries (k + 1)
unfolding libraries
library_put k few = put_last (library_path k) library_text (libraries k) (before_library k 0 k (omega arith) (omega (arith, few))) ∙ sym (map_push library k)

-- ---- the modules

behind_libraries : (i start count : ℕ) → AllByRecursion (Behind (module_path i)) (map library (range_with_len start count))
behind_libraries i start zero = tt
behind_libraries i start (suc count) = (refl, behind_libraries i (start + 1) count)

before_module : (n i start count : ℕ) → start + count ≤ i → i < 100_000 → AllByRecursion (Behind (module_path i)) (map (module_file n) (range_with_len start count))
before_module n i start zero within few = tt
before_module n i start (suc count) within few =
    (greater_path (codes "src/m") 5 start i (codes ".js") (omega (arith, within)) few, before_module n i (start + 1) count (omega (arith, within)) few)

module_put : (n i : ℕ) → i < 100_000 → put order (module_path i) (module_text n i) (sample_to n i) ≡ sample_to n (i + 1)
unfolding libraries
module_put n i few =
    put_last (module_path i) (module_text n i) (sample_to n i)
    (all_join (Behind (module_path i)) (libraries 7) (map (module_file n) (range_with_len 0 i)) (behind_libraries i 0 7) (before_module n i 0 i (omega arith) few))
    ∙ append_assoc (libraries 7) (map (module_file n) (range_with_len 0 i)) (module_file n i ∷ [])
    ∙ ap (λ files. libraries 7 ++ files) (sym (map_push (module_file n) i))

-- ---- what a call gives at Ok

pub on_ok : {A E P Q : Type 0} (result : Result A E) → (P → Q) → OnOk result P → OnOk result Q
on_ok (Ok value) next given = next given
on_ok (Err end) next given = given

pub library_added : (path text : List ℕ) (tree new : Tree) (k : ℕ) → path ≡ library_path k → text ≡ library_text → tree ≡ libraries k → k < 7 →
    new ≡ put order path text tree → new ≡ libraries (k + 1)
library_added path text tree new k path_is text_is tree_is few put_is =
    put_is ∙ ap (λ p. put order p text tree) path_is ∙ ap (λ t. put order (library_path k) t tree) text_is
    ∙ ap (put order (library_path k) library_text) tree_is ∙ library_put k few

pub module_added : (path text : List ℕ) (tree new : Tree) (n i : ℕ) → path ≡ module_path i → text ≡ module_text n i → tree ≡ sample_to n i → i < 100_000 →
    new ≡ put order path text tree → new ≡ sample_to n (i + 1)
module_added path text tree new n i path_is text_is tree_is few put_is =
    put_is ∙ ap (λ p. put order p text tree) path_is ∙ ap (λ t. put order (module_path i) t tree) text_is
    ∙ ap (put order (module_path i) (module_text n i)) tree_is ∙ module_put n i few

pub no_libraries : [] ≡ libraries 0
unfolding libraries
no_libraries = refl

pub no_modules : (n : ℕ) → libraries 7 ≡ sample_to n 0
no_modules n = sym (append-nil (libraries 7))

-- ---- an Ok is the tree with the file put in its place

ok_only : (one other : Bool) (clash bad : TreeEnd) (tree new : Tree) → cond one (Err bad) (cond other (Err clash) (Ok tree)) ≡ Ok new → new ≡ tree
ok_only true other clash bad tree new e = absurd (cc)
ok_only false true clash bad tree new e = absurd (cc)
ok_only false false clash bad tree new e = cc

pub put_by : (tree new : Tree) (path bytes : List ℕ) → with_file tree path bytes ≡ Ok new → new ≡ put order path bytes tree
put_by tree new path bytes e = ok_only (not (is_normal path)) (clashes tree path) Clash NotNormal (put order path bytes tree) new e
