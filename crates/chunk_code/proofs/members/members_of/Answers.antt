use Rattle.std.proofs.Common.{ℕ, ◌≡◌, ◌<◌, List, Vec, Global, length, slice_index}
use Rattle.std.specs.Prelude.{Bool, IfOk, Result, Ok, Err}
use Rattle.chunk_code.proofs.Rows.{members_below}
use Rattle.chunk_code.specs.Texts.{members_in}
use Rattle.chunk_code.proofs.members.members_of.Goals as goal

all_below : {E : Type 0} (row : List Bool) (width : ℕ) → length row ≡ width → (result : Result (Vec ℕ Global) E) → IfOk result (λ members. members.items ≡ members_in row)
    → IfOk result (λ members. (i : ℕ) → i < length members.items → slice_index members.items i < width)
all_below row width len (Ok members) is = λ i within. rw is (rw (← len) (members_below row i (rw is at within)))
all_below row width len (Err end) is = tt

pub returns-then-c-count-clause-within : goal.returns-then-c-count-clause-within
returns-then-c-count-clause-within c = all_below c.mods.result.now c.args.chunks.now.width c.mods.ensures.len c.members_in.result c.members_in.ensures
