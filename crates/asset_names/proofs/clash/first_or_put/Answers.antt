use Rattle.std.proofs.Common.{◌≡◌, Bool, cond, Some, None, bytes_eq, ap, ◌∙◌, rules}
use Rattle.std.proofs.lemmas.Map.Text.{hash_map_updates_str}
use Rattle.std.proofs.lemmas.Slice.Eq.{bytes_eq-Decides}
use Rattle.std.specs.Cmp.Lexicographic.{nat_list_eq_equiv}
use Rattle.asset_names.specs.inner.Firsts.{first_id}
use Rattle.asset_names.proofs.Firsts.{kept_by}
use Rattle.asset_names.proofs.clash.first_or_put.Goals as goal

pub returns-in_ok-insert-clause-kept : goal.returns-in_ok-insert-clause-kept
returns-in_ok-insert-clause-kept c = λ other.
    let name = c.args.name.now in
    let put = hash_map_updates_str name c.args.firsts.now c.insert.new.self _ c.in_ok-insert.ensures.updates other in
    let none : first_id c.args.firsts.now name ≡ None = search rules in
    let turned = put ∙ ap (λ (b : Bool). cond b (Some c.args.id) (first_id c.args.firsts.now other)) (nat_list_eq_equiv.symm name other) in
    kept_by (first_id c.insert.new.self other) (first_id c.args.firsts.now other) (Some c.args.id) (bytes_eq other name)
    (λ t. ap (first_id c.args.firsts.now) ((bytes_eq-Decides other name).0 t) ∙ none) turned
