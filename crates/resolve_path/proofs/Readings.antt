-- Each text is a manifest or is none.
use Rattle.std.proofs.Common.{◌≡◌, ℕ, ◌<◌, ◌≤◌, ◌⊎◌, List, drop, Option, Some, None, Result, Ok, Err, length, refl, inl, inr}
use Rattle.std.proofs.lemmas.Bool.{cases_lt}
use Rattle.json_order.proofs.OneAnswer.{one_answer_from}
use Rattle.json_order.proofs.RunLaws.{run_answers}
use Rattle.json_order.specs.Answer.{IsAnswer, start_of}
use Rattle.json_order.specs.declared.fault.JsonFault.{JsonFault}
use Rattle.json_order.specs.declared.tree.JsonTree.{JsonTree}
use Rattle.json_order.specs.inner.Steps.{run, fresh}
use Rattle.pkg_manifest.specs.Manifest.{IsManifestOf, manifest_in, size_limit}
use Rattle.pkg_manifest.specs.declared.fields.Manifest.{Manifest}
use Rattle.resolve_path.specs.Manifests.{IsReading, ManifestReading}

abbrev Answer : List ℕ → Type 0
Answer text = (answer : Option Manifest) × IsManifestOf text answer

of_tree : (text : List ℕ) → length text ≤ size_limit → (tree : JsonTree) → IsAnswer text (Ok tree) → (answer : Option Manifest) → manifest_in tree.node ≡ answer → Answer text
of_tree text short tree is (Some manifest) e = (Some manifest, (short, (tree, is, e)))
of_tree text short tree is None e = (None, inr (inr (tree, is, e)))

of_json : (text : List ℕ) → length text ≤ size_limit → (answer : Result JsonTree JsonFault) → IsAnswer text answer → Answer text
of_json text short (Ok tree) is = of_tree text short tree is (manifest_in tree.node) refl
of_json text short (Err fault) is =
    (None, inr (inl (λ tree own. let e : Ok tree ≡ Err fault = one_answer_from _ _ (Ok tree) (Err fault) own is in cc)))

of_size : (text : List ℕ) → (size_limit < length text) ⊎ (length text ≤ size_limit) → Answer text
of_size text (inl long) = (None, inl long)
of_size text (inr short) =
    of_json text short (run 128 fresh (start_of text) (drop (start_of text) text)) (run_answers (start_of text) (drop (start_of text) text) _ refl)

pub some_reading : (reading : ManifestReading) × IsReading reading
some_reading = (λ text. (of_size text (cases_lt size_limit (length text))).0, λ text. (of_size text (cases_lt size_limit (length text))).1)
