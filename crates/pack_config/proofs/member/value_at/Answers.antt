use Rattle.std.proofs.Common.{Option, Bor, bytes_eq, find, option_map, ap, sym, ◌∙◌}
use Rattle.std.specs.Option.{option_copied}
use Rattle.json_order.specs.declared.tree.JsonTree.{JsonTree}
use Rattle.pack_config.specs.Values.{value_at}
use Rattle.pack_config.proofs.member.value_at.Goals as goal

pub returns-in-Some : goal.returns-in-Some
returns-in-Some c =
    c.find_value.ensures ∙ ap (λ pairs. option_map (λ pair. pair.value) (find (λ pair. bytes_eq pair.key c.args.key.now) pairs)) c.members_of.ensures
    ∙ ap (λ (parent : Option (Bor JsonTree)). value_at c.args.key.now (option_copied parent)) (sym c.in-Some.is)
