use Rattle.std.proofs.Common.{◌≡◌, ℕ, ◌<◌, [], length, slice_index_or}
use Rattle.split_plan.specs.Shares.{sharers}
use Rattle.split_plan.specs.inner.Rows.{AreChunkRows}
use Rattle.split_plan.proofs.form.all_sharers.Given as goal

abbrev pub invariant-loop-module : goal.invariant-loop-module
invariant-loop-module l = record {
  rows : AreChunkRows l.state (length l.columns) l.shares.items;
  here : (m : ℕ) → m < l.module → slice_index_or l.shares.items m [] ≡ sharers l.rule l.forced l.state m;
}
