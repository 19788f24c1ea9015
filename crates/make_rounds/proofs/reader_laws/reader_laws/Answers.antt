use Rattle.make_rounds.proofs.ReaderLists.{rose_first, rose_then, tell_on, zip-itself, zip-on}
use Rattle.make_rounds.proofs.reader_laws.reader_laws.Goals as goal

pub returns-clause-itself : goal.returns-clause-itself
returns-clause-itself g c = zip-itself g.R.TreeReader.follows g.met.R.TreeReader.follows_itself

pub returns-clause-on : goal.returns-clause-on
returns-clause-on g c = zip-on g.R.TreeReader.follows g.met.R.TreeReader.follows_on

pub returns-clause-tell : goal.returns-clause-tell
returns-clause-tell g c = tell_on g.R.TreeReader.follows g.R.TreeReader.view g.met.R.TreeReader.keeps

pub returns-clause-rose_first : goal.returns-clause-rose_first
returns-clause-rose_first g c = rose_first g.R.TreeReader.follows g.R.TreeReader.view g.met.R.TreeReader.keeps

pub returns-clause-rose_then : goal.returns-clause-rose_then
returns-clause-rose_then g c = rose_then g.R.TreeReader.follows g.R.TreeReader.view g.met.R.TreeReader.keeps
