-- A tree without faults has none in its parts.
use Rattle.std.proofs.Common.{◌≡◌, [], ◌∷◌, codes, Option, Some}
use Rattle.json_order.specs.declared.tree.JsonTree.{JsonTree}
use Rattle.pack_config.specs.Answer.{in_part}
use Rattle.pack_config.specs.Entries.{entry_rule}
use Rattle.pack_config.specs.Grammar.{digits_of, faults_of, optimization_keys, optimization_rule, output_keys, output_rule, resolve_rule, top_keys}
use Rattle.pack_config.specs.Splits.{split_rule}
use Rattle.pack_config.specs.Templates.{template_rule}
use Rattle.pack_config.specs.Values.{any_truth, object_with, one_of, only_false, value_at, where_given, whole}
use Rattle.pack_config.proofs.Least.{empty_parts}

split_clean : (value : Option JsonTree) → optimization_rule value ≡ [] → where_given split_rule (value_at (codes "splitChunks") value) ≡ []
split_clean value none =
    let a = (empty_parts (where_given (object_with optimization_keys) value) _ none).1 in
    let b = (empty_parts (where_given only_false (value_at (codes "minimize") value)) _ a).1 in
    let c = (empty_parts (where_given (one_of (codes "natural" ∷ codes "named" ∷ [])) (value_at (codes "moduleIds") value)) _ b).1 in
    let d = (empty_parts (where_given any_truth (value_at (codes "mergeDuplicateChunks") value)) _ c).1 in
    (empty_parts (where_given any_truth (value_at (codes "removeEmptyChunks") value)) _ d).1

pub templates_clean : (value : Option JsonTree) → output_rule value ≡ [] →
    (where_given (template_rule (digits_of value)) (value_at (codes "filename") value) ≡ []) × (where_given (template_rule (digits_of value)) (value_at (codes "chunkFilename") value) ≡ [])
templates_clean value none =
    let a = (empty_parts (where_given (object_with output_keys) value) _ none).1 in
    let b = (empty_parts (where_given (one_of (codes "dist" ∷ codes "./dist" ∷ [])) (value_at (codes "path") value)) _ a).1 in
    let c = (empty_parts (where_given (whole 1 64) (value_at (codes "hashDigestLength") value)) _ b).1 in
    let d = empty_parts (where_given (template_rule (digits_of value)) (value_at (codes "filename") value)) _ c in
    (d.0, (empty_parts (where_given (template_rule (digits_of value)) (value_at (codes "chunkFilename") value)) _ d.1).0)

pub record IsClean (tree : JsonTree) : Type 0 where
  pub entry : where_given entry_rule (value_at (codes "entry") (Some tree)) ≡ []
  pub output : output_rule (value_at (codes "output") (Some tree)) ≡ []
  pub split : where_given split_rule (in_part (codes "optimization") (codes "splitChunks") tree) ≡ []

pub clean : (tree : JsonTree) → faults_of tree ≡ [] → IsClean tree
clean tree none =
    let a = (empty_parts (object_with top_keys tree) _ none).1 in
    let b = (empty_parts (where_given (one_of (codes "production" ∷ codes "development" ∷ codes "none" ∷ [])) (value_at (codes "mode") (Some tree))) _ a).1 in
    let c = (empty_parts (where_given (one_of (codes "web" ∷ [])) (value_at (codes "target") (Some tree))) _ b).1 in
    let d = (empty_parts (where_given only_false (value_at (codes "devtool") (Some tree))) _ c).1 in
    let e = empty_parts (where_given entry_rule (value_at (codes "entry") (Some tree))) _ d in
    let f = empty_parts (output_rule (value_at (codes "output") (Some tree))) _ e.1 in
    let g = (empty_parts (resolve_rule (value_at (codes "resolve") (Some tree))) _ f.1).1 in
    record { entry = e.0; output = f.0; split = split_clean (value_at (codes "optimization") (Some tree)) g }
