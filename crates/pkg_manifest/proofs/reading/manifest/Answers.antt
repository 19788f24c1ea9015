use Rattle.std.proofs.Common.{inl, inr, arith}
use Rattle.pkg_manifest.proofs.ManifestLaws.{tree_found, tree_found_only, only_tree, bad_only, none_at_fault}
use Rattle.pkg_manifest.proofs.reading.manifest.Goals as goal

pub returns-in-Ok-clause-found : goal.returns-in-Ok-clause-found
returns-in-Ok-clause-found c =
    tree_found c.args.text.now c.in-Ok.tree c.manifest_in.result (omega arith) c.in-Ok.ensures.found c.manifest_in.ensures

pub returns-in-Ok-clause-only : goal.returns-in-Ok-clause-only
returns-in-Ok-clause-only c = tree_found_only c.args.text.now c.in-Ok.tree c.manifest_in.result (omega arith) c.in-Ok.ensures.found
    (only_tree c.args.text.now c.in-Ok.tree c.in-Ok.ensures.only) c.manifest_in.ensures

pub returns-in-Err-Fault-clause-found : goal.returns-in-Err-Fault-clause-found
returns-in-Err-Fault-clause-found c =
    inr (inl (none_at_fault c.args.text.now c.in-Err-Fault.field-0-0 (rw c.in-Err-Fault.field-0-is at c.in-Err-Fault.ensures.only)))

pub returns-in-Err-Fault-clause-only : goal.returns-in-Err-Fault-clause-only
returns-in-Err-Fault-clause-only c = λ found holds. bad_only c.args.text.now found
    (inr (none_at_fault c.args.text.now c.in-Err-Fault.field-0-0 (rw c.in-Err-Fault.field-0-is at c.in-Err-Fault.ensures.only))) holds
