use Rattle.std.proofs.Common.{List, Bool, ap}
use Rattle.std.proofs.lemmas.List.{set-set}
use Rattle.bit_rows.specs.Table.{Table}
use Rattle.avail_sets.proofs.falling.meet_row.Goals as goal

pub returns-clause-table : goal.returns-clause-table
returns-clause-table c =
    let with_rows : List (List Bool) → Table = λ rows. record { width = c.args.table.now.width; rows = rows } in
    rw (c.swap_row-2.ensures.table, c.swap_row.ensures.table, c.meet_with-fell.ensures.row, c.swap_row.ensures.row) (ap with_rows (set-set c.args.table.now.rows c.args.at _ _))
