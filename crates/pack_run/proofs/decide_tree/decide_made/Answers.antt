use Rattle.pack_run.proofs.Makings.{failed_in, of_making}
use Rattle.pack_run.proofs.decide_tree.decide_made.Goals as goal

pub returns-clause-decides : goal.returns-clause-decides
returns-clause-decides g c =
    let some = c.one_record.ensures.some in
    let comes = c.of_made.ensures.comes in
    record {
      follow = c.make-made.ensures.follow;
      cause = λ failed. c.make-made.ensures.cause (failed_in c.args.config.now c.args.path.now c.make-made.result c.of_made.result comes failed);
      told = λ tree told listed. of_making g.R.TreeReader.view tree c.args.config.now c.args.path.now c.args.readers.now.items c.make-made.new.readers.items some.0 some.1
          c.make-made.result c.of_made.result (c.make-made.ensures.told tree told listed) comes;
    }
