use Rattle.bit_rows.proofs.Blocks.{written_block, changes_len, changes_is}
use Rattle.bit_rows.proofs.combining.combine_block.Goals as goal

pub returns-clause-words : goal.returns-clause-words
returns-clause-words g c =
    written_block g.O.WordOperation.word c.args.into.now c.args.other.now c.args.changes _ _ c.apply_to_lanes-new.result c.args.at c.requires.room.0 c.requires.room.1 c.requires.lanes
    c.block_at-old.ensures c.block_at.ensures c.apply_to_lanes-new.ensures

pub returns-clause-lanes : goal.returns-clause-lanes
returns-clause-lanes g c =
    changes_len g.O.WordOperation.word c.args.into.now c.args.other.now c.args.changes _ _ c.apply_to_lanes-new.result c.args.at c.requires.room.0 c.requires.room.1 c.requires.lanes
    c.block_at-old.ensures c.block_at.ensures c.apply_to_lanes-new.ensures

pub returns-clause-changes : goal.returns-clause-changes
returns-clause-changes g c =
    changes_is g.O.WordOperation.word c.args.into.now c.args.other.now c.args.changes _ _ c.apply_to_lanes-new.result c.args.at c.requires.room.0 c.requires.room.1 c.requires.lanes
    c.block_at-old.ensures c.block_at.ensures c.apply_to_lanes-new.ensures
