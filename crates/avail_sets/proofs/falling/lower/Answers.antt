use Rattle.avail_sets.proofs.Handing.{handed-same, handed-one}
use Rattle.avail_sets.proofs.falling.lower.Goals as goal

pub returns-then-not-meet_row-clause-handed : goal.returns-then-not-meet_row-clause-handed
returns-then-not-meet_row-clause-handed c =
    let met = c.if-not-meet_row.ensures in
    let handed = handed-same c.args.avail.now c.args.g c.args.down.now c.args.pending.now c.requires.in_range.0 c.requires.in_range.1 met.len met.changed in
    rw met.table handed

pub returns-clause-handed : goal.returns-clause-handed
returns-clause-handed c =
    let met = c.if-not-meet_row.ensures in
    let handed = handed-one c.args.avail.now c.args.g c.args.down.now c.args.pending.now c.requires.in_range.0 c.requires.in_range.1 met.len met.changed in
    rw (met.table, c.set.ensures) handed
