use Rattle.std.proofs.Common.{◌≡◌, ◌+◌, ◌-◌, [], ◌∷◌, ◌++◌, length, replicate, ap, ◌∙◌, arith}
use Rattle.std.proofs.lemmas.List.{append_assoc, replicate_more}
use Rattle.bit_rows.specs.Table.{blank}
use Rattle.bit_rows.proofs.table.add_blank.Goals as goal

pub loop-preserved : goal.loop-preserved
loop-preserved c =
    let rows = c.args.rows.now.items in
    let row = blank c.args.width in
    let before = c.loop.counter - length rows in
    let more : before + 1 ≡ c.loop.counter + 1 - length rows = omega arith in
    c.in_ok-push.ensures.items ∙ ap (λ l. l ++ c.in_ok-new.field-0 ∷ []) c.loop.invariant ∙ ap (λ r. (rows ++ replicate before row) ++ r ∷ []) c.in_ok-new.ensures
    ∙ append_assoc rows (replicate before row) (row ∷ []) ∙ ap (λ l. rows ++ l) (replicate_more before row ∙ ap (λ n. replicate n row) more)
