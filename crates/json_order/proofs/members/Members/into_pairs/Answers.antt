use Rattle.std.proofs.Common.{◌++◌, ◌∙◌, ap, map, rules}
use Rattle.std.proofs.lemmas.Iterator.{YieldsList-from_map}
use Rattle.std.proofs.lemmas.Iterator.Consumers.{YieldsList-at, YieldsList-from_rest}
use Rattle.std.proofs.lemmas.Iterator.Adapters.{items_from_extend}
use Rattle.json_order.specs.inner.Held.{pair_of}
use Rattle.json_order.proofs.members.Members.into_pairs.Goals as goal

pub returns : goal.returns
returns c =
    let given = items_from_extend c.extend.result c.extend.ensures.ran
    (YieldsList-from_map _ pair_of (YieldsList-at c.map-2.ensures.source (YieldsList-from_rest c.self.inside.map.entries c.into_iter.ensures.into_iter_gives.0)) c.map-2.ensures.closure (λ x r q k. search rules)) in
    let here = (rw c.in_ok-extend.was at given) in
    c.from_vec.ensures ∙ here.0 ∙ ap (λ xs. xs ++ map pair_of c.self.inside.map.entries) (c.reserve_exact.ensures.items ∙ c.new-pairs.ensures.items) ∙ c.self.view_is
