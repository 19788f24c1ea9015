use Rattle.std.proofs.Common.{◌≡◌, [], ◌++◌, append-nil, drop, sym, ap, ◌∙◌, arith}
use Rattle.std.proofs.lemmas.List.{drop_all}
use Rattle.chunk_code.proofs.Lines.{members_from, members_from-joined}
use Rattle.chunk_code.proofs.chunk.add_members.Goals as goal

pub returns : goal.returns
returns c =
    let members = c.args.members.now in
    let view = c.args.view.now in
    let text = c.loop-place.text.items in
    let place = c.loop-place.place in
    let done : drop place members ≡ [] = drop_all place members (omega arith) in
    sym (append-nil text) ∙ ap (λ rest. text ++ members_from view rest) (sym done) ∙ c.loop-place.invariant
    ∙ ap (λ written. c.args.text.now.items ++ written) (members_from-joined view members)
