use Rattle.pack_run.proofs.Decisions.{after_listing, no_listing_as}
use Rattle.pack_run.proofs.decide_tree.decide_tree.Goals as goal

pub returns-in-Ok-clause-decides : goal.returns-in-Ok-clause-decides
returns-in-Ok-clause-decides g c =
    after_listing g.R.TreeReader.follows g.R.TreeReader.view c.readers_keep.ensures c.args.config.now c.args.path.now c.args.readers.now.items c.list_first.new.readers.items
    c.in-Ok.listing c.decide_made.new.readers.items c.decide_made.result c.in-Ok.ensures c.decide_made.ensures.decides

pub returns-in-Err-clause-decides : goal.returns-in-Err-clause-decides
returns-in-Err-clause-decides g c =
    no_listing_as g.R.TreeReader.follows g.R.TreeReader.view c.readers_keep.ensures c.args.config.now c.args.path.now c.args.readers.now.items c.list_first.new.readers.items
    c.in-Err.end c.unlisted.result c.unlisted.ensures.value c.in-Err.ensures
