use Rattle.std.proofs.Common.{ℕ, ◌+◌, ◌∷◌, ◌++◌, [], length, arith, ap, ◌∙◌}
use Rattle.std.specs.Prelude.{Option}
use Rattle.std.specs.Slots.{slots_items}
use Rattle.claim_board.proofs.Closing.{owners_push, length_push}
use Rattle.claim_board.proofs.close.read_owners.Goals as goal

pub owner_of-requires : goal.owner_of-requires
owner_of-requires c = c.requires.fit c.loop-file.file c.word-word.result c.loop-file-test.true c.word-word.ensures

pub loop-file-preserved : goal.loop-file-preserved
loop-file-preserved c =
    let i = c.loop-file.invariant in
    let p = c.push_within.ensures in
    record {
      room = omega (arith, i.room, p.1);
      len = ap length p.0 ∙ length_push c.loop-file.owners.items _ ∙ ap (λ (n : ℕ). n + 1) i.len;
      owners = owners_push (slots_items c.args.closed.now.words) c.loop-file.owners.items c.push_within.new.members.items c.loop-file.file c.word-word.result i.len i.owners c.word-word.ensures
          (p.0 ∙ ap (λ (o : Option ℕ). c.loop-file.owners.items ++ o ∷ []) c.owner_of.ensures);
    }
