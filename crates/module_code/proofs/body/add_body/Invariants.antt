use Rattle.std.proofs.Common.{◌≡◌, ◌≤◌, ◌++◌, ℕ, List, drop, length}
use Rattle.graph_types.specs.declared.edit.Edit.{Edit}
use Rattle.graph_types.specs.declared.edit.EditText.{EditText}
use Rattle.graph_types.specs.Whole.{LieInOrder}
use Rattle.module_code.specs.Body.{put_text, with_edits, body_text}
use Rattle.module_code.proofs.body.add_body.Given as goal

-- what is written and what the rest of the edits gives are the whole
pub record Written (put : List ℕ → EditText → List ℕ) (source : List ℕ) (from : ℕ) (rest : List Edit) (written whole : List ℕ) : Type 0 where
  pub within : from ≤ length source
  pub ordered : LieInOrder from (length source) rest
  pub completes : written ++ with_edits put source from rest ≡ whole

abbrev pub invariant-loop-edit : goal.invariant-loop-edit
invariant-loop-edit l =
    Written (put_text l.view l.m.0 l.rec.items) l.rec.text l.from (drop l.edit-index l.edit-items) l.text.items (l.fn.text.items ++ body_text l.view l.m.0 l.rec)
