use Rattle.std.proofs.Common.{length, ◌*◌, ◌/◌, arith}
use Rattle.bit_rows.proofs.Blocks.{both_parts, unchanged_before, changed_before}
use Rattle.bit_rows.proofs.combining.combine.Goals as goal

pub returns-then-in_blocks-clause-words : goal.returns-then-in_blocks-clause-words
returns-then-in_blocks-clause-words g c =
    both_parts g.O.WordOperation.word c.args.into.now c.args.other.now _ _ (8 * (length c.args.into.now / 8)) c.requires (omega arith) c.combine_blocks-in_blocks.ensures.words c.combine_rest-in_rest.ensures.words

pub returns-then-in_blocks-clause-changed : goal.returns-then-in_blocks-clause-changed
returns-then-in_blocks-clause-changed g c =
    changed_before _ c.args.into.now _ _ c.if-in_blocks.true c.combine_blocks-in_blocks.ensures.changed
    (unchanged_before g.O.WordOperation.word c.args.into.now c.args.other.now _ _ _ _ _ c.combine_blocks-in_blocks.ensures.words c.combine_rest-in_rest.ensures.words)

pub returns-else-in_blocks-clause-words : goal.returns-else-in_blocks-clause-words
returns-else-in_blocks-clause-words g c =
    both_parts g.O.WordOperation.word c.args.into.now c.args.other.now _ _ (8 * (length c.args.into.now / 8)) c.requires (omega arith) c.combine_blocks-in_blocks.ensures.words c.combine_rest-in_rest.ensures.words
