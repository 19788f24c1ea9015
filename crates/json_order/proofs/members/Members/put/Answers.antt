use Rattle.std.proofs.Common.{◌∙◌, refl, ap}
use Rattle.json_order.proofs.MembersLemmas.{pairs_of-insert_entry}
use Rattle.json_order.specs.inner.Held.{pairs_of}
use Rattle.json_order.proofs.members.Members.put.Goals as goal

pub returns : goal.returns
returns c = rw (← c.self.view_is, ← c.into_string.ensures) (ap pairs_of c.in_ok-insert.ensures
    ∙ pairs_of-insert_entry c.self.inside.map.entries c.into_string.result c.args.key_at _ c.args.value refl)
