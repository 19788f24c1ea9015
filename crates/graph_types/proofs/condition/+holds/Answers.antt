use Rattle.std.proofs.Common.{ap, sym, ◌∙◌}
use Rattle.std.specs.List.{list_all, list_any}
use Rattle.graph_types.specs.Condition.{holds}
use Rattle.graph_types.proofs.Conditions.{all_members, some_member}
use Rattle.graph_types.proofs.condition.+holds.Goals as goal

pub holds-returns-in-And : goal.holds-returns-in-And
holds-returns-in-And t c =
    c.all_hold.ensures ∙ ap (list_all (holds c.args.path.now)) c.as_slice.ensures ∙ all_members c.args.path.now c.in-And.members
    ∙ ap (holds c.args.path.now) (sym c.in-And.is)

pub holds-returns-in-Or : goal.holds-returns-in-Or
holds-returns-in-Or t c =
    c.some_holds.ensures ∙ ap (list_any (holds c.args.path.now)) c.as_slice-in-Or.ensures ∙ some_member c.args.path.now c.in-Or.members
    ∙ ap (holds c.args.path.now) (sym c.in-Or.is)
