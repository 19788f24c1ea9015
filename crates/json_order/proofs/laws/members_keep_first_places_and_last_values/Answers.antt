use Rattle.json_order.proofs.MembersLaw.{members-distinct, members-found, members-ascending}
use Rattle.json_order.proofs.laws.members_keep_first_places_and_last_values.Goals as goal

pub returns : goal.returns
returns c = record { distinct = members-distinct; found = members-found; order = members-ascending }
