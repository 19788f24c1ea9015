use Rattle.std.proofs.Common.{sym, ◌∙◌}
use Rattle.make_rounds.proofs.Counting.{counted_next, held_next}
use Rattle.make_rounds.proofs.found.Found.add.Goals as goal

pub returns-in-Some-clause-counted : goal.returns-in-Some-clause-counted
returns-in-Some-clause-counted c =
    counted_next c.args.listing.now.files c.loop-file.self _ c.args.files.now c.loop-file.file-index _ c.set.ensures c.loop-file-test.true _ _ c.length.ensures c.with_file-self.ensures c.loop-file.invariant.counted c.requires.within (sym c.get.ensures ∙ c.if-get.false)

pub returns-in-Some-clause-among : goal.returns-in-Some-clause-among
returns-in-Some-clause-among c = λ set old all.
    held_next c.args.listing.now.files c.loop-file.self _ c.args.files.now c.loop-file.file-index _ c.set.ensures c.loop-file-test.true set all (c.loop-file.invariant.among set old all)

pub loop-file-preserved : goal.loop-file-preserved
loop-file-preserved c = record {
  counted = counted_next c.args.listing.now.files c.loop-file.self _ c.args.files.now c.loop-file.file-index _ c.set.ensures c.loop-file-test.true _ _ c.length.ensures c.with_file-self.ensures c.loop-file.invariant.counted c.requires.within (sym c.get.ensures ∙ c.if-get.false);
  allowed = c.in_default.ensures;
  among = λ set old all. held_next c.args.listing.now.files c.loop-file.self _ c.args.files.now c.loop-file.file-index _ c.set.ensures c.loop-file-test.true set all (c.loop-file.invariant.among set old all);
}
