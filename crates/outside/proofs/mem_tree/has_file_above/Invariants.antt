use Rattle.std.proofs.Common.{◌≡◌, ℕ, ◌<◌, take, get_or, None}
use Rattle.std.specs.FinMap.Entries.{find}
use Rattle.outside.proofs.Orders.{order}
use Rattle.outside.proofs.mem_tree.has_file_above.Given as goal

-- no file stands at a slash so far
abbrev pub invariant-loop-end : goal.invariant-loop-end
invariant-loop-end l = (k : ℕ) → k < l.end → get_or l.path k 0 ≡ 47 → find order (take k l.path) l.files ≡ None
