use Rattle.std.proofs.Common.{◌+◌, [], ◌∷◌, ◌++◌, append-nil, append_assoc, sym, ap, ◌∙◌}
use Rattle.chunk_code.proofs.Rows.{members_after, after_none, after_next}
use Rattle.chunk_code.proofs.members.members_in.Goals as goal

pub loop-place-preserved : goal.loop-place-preserved
loop-place-preserved c =
    let row = c.args.row.now in
    let place = c.in-Some.place in
    let before = c.loop-place.members.items in
    let rest = members_after (place + 1) row in
    ap (λ members. members ++ rest) c.in_ok-push.ensures.items
    ∙ append_assoc before (place ∷ []) rest
    ∙ ap (λ members. before ++ members) (sym (after_next row c.loop-place.at place c.in-Some.ensures))
    ∙ c.loop-place.invariant

pub returns : goal.returns
returns c =
    let row = c.args.row.now in
    let members = c.loop-place.members.items in
    let none = rw c.in_default.is at c.next_from.ensures in
    sym (append-nil members) ∙ ap (λ rest. members ++ rest) (sym (after_none row c.loop-place.at none)) ∙ c.loop-place.invariant
