use Rattle.pack_run.proofs.steps.readers_keep.Goals as goal

pub returns : goal.returns
returns g c = record {
  itself = g.met.R.TreeReader.follows_itself;
  on = g.met.R.TreeReader.follows_on;
  keeps = g.met.R.TreeReader.keeps;
}
