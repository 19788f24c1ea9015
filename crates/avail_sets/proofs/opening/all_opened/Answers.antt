use Rattle.std.proofs.Common.{◌<◌, length, ap, ◌∙◌, arith}
use Rattle.std.proofs.lemmas.List.{length-set}
use Rattle.bit_rows.specs.Table.{Table}
use Rattle.avail_sets.proofs.Homes.{opened-row, opened-more, opened-all}
use Rattle.avail_sets.proofs.opening.all_opened.Goals as goal

pub loop-p-preserved : goal.loop-p-preserved
loop-p-preserved c =
    let graph = c.args.graph.now in
    let infos = c.args.groups.now.infos in
    let before = c.loop-p.invariant in
    let within : c.loop-p.p < length infos = omega arith in
    let here = opened-row graph infos c.args.reach.now c.requires.reach c.loop-p.p c.row.result.now c.set_opened.new.row within c.row.ensures.row c.set_opened.ensures.places c.set_opened.ensures.opened in
    let more = opened-more graph infos c.args.reach.now c.requires.reach c.loop-p.table.rows c.set_opened.new.row c.loop-p.p (omega (arith, before.rows)) before.opened here in
    record {
      rows = ap (λ (t : Table). length t.rows) c.swap_row.ensures.table ∙ length-set c.loop-p.table.rows c.loop-p.p c.set_opened.new.row ∙ before.rows;
      width = ap (λ (t : Table). t.width) c.swap_row.ensures.table ∙ before.width;
      spare = c.swap_row.ensures.len ∙ c.set_opened.ensures.places;
      opened = rw c.swap_row.ensures.table more;
    }

pub returns-clause-opened : goal.returns-clause-opened
returns-clause-opened c =
    let before = c.loop-p.invariant in
    opened-all c.args.graph.now c.args.groups.now.infos c.args.reach.now c.requires.reach c.loop-p.table.rows c.loop-p.p before.rows (omega arith) before.opened
