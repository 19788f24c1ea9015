use Rattle.std.proofs.Common.{◌≡◌, length}
use Rattle.pack_run.specs.inner.Fresh.{AreFresh}
use Rattle.pack_run.proofs.sample_readers.sample_readers.Given as goal

abbrev pub invariant-loop : goal.invariant-loop
invariant-loop l = record {
  many : length l.readers.items ≡ l.counter;
  fresh : AreFresh l.tree l.readers.items;
}
