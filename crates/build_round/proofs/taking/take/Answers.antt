use Rattle.std.proofs.Common.{refl}
use Rattle.build_round.proofs.Works.{works_known, works_new}
use Rattle.build_round.proofs.taking.take.Goals as goal

pub returns-in-New : goal.returns-in-New
returns-in-New g c =
    let old = c.args.bench.now in
    works_new g.R.TreeReader.view g.R.TreeReader.follows c.args.listing.now c.args.config.now c.args.file.0 old c.build.new.bench (record { reader = old.reader; seat = c.claim.new.seat; cache = old.cache; kept = old.kept }) c.build.result
    refl refl refl c.in-New.ensures.board c.in-New.ensures.claim.1 c.build.ensures

pub returns-in-Known : goal.returns-in-Known
returns-in-Known g c =
    let old = c.args.bench.now in
    works_known g.R.TreeReader.view g.R.TreeReader.follows c.args.listing.now c.args.config.now c.args.file.0 old (record { reader = old.reader; seat = c.claim.new.seat; cache = old.cache; kept = old.kept }) c.in-Known.field-0
    refl refl refl (g.met.R.TreeReader.follows_itself old.reader) c.in-Known.ensures.board c.in-Known.ensures.claim
