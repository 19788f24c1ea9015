use Rattle.std.proofs.Common.{◌≡◌, ℕ, List, take}
use Rattle.asset_names.specs.Clashes.{first_named}
use Rattle.asset_names.specs.inner.Firsts.{first_id}
use Rattle.asset_names.proofs.Firsts.{clashes_before}
use Rattle.asset_names.proofs.clash.clashes.Given as goal

abbrev pub invariant-loop-id : goal.invariant-loop-id
invariant-loop-id l = record {
  found : l.faults.items ≡ clashes_before l.config_path l.named l.id-index;
  firsts : (name : List ℕ) → first_id l.firsts name ≡ first_named (take l.id-index l.named) name;
}
