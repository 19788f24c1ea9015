use Rattle.std.proofs.Common.{rules, refl, [], tests}
use Rattle.tree_listing.proofs.kept.keep.Goals as goal

pub returns-then-len-number : goal.returns-then-len-number
returns-then-len-number c =
    record { done = []; entry = c.args.entry; rest = []; split = refl; segment = search (rules, tests); over = search (rules, tests) }

pub returns-then-len-number-2 : goal.returns-then-len-number-2
returns-then-len-number-2 c =
    record { done = []; entry = c.args.entry; rest = []; split = refl; segment = search (rules, tests); over = search (rules, tests) }
