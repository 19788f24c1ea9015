use Rattle.build_round.proofs.Lists.{all_zip_itself}
use Rattle.build_round.proofs.rounds.follow_themselves.Goals as goal

pub returns : goal.returns
returns g c = all_zip_itself g.R.TreeReader.follows c.args.readers.now g.met.R.TreeReader.follows_itself
