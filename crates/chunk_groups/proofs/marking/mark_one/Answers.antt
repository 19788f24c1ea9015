use Rattle.std.proofs.Common.{sym, ◌∙◌}
use Rattle.chunk_groups.proofs.Marks.{marked-before, marked-now}
use Rattle.chunk_groups.proofs.marking.mark_one.Goals as goal

pub returns-then-get : goal.returns-then-get
returns-then-get c = marked-before c.args.row.now c.args.waiting.now.items c.args.m (sym c.get.ensures ∙ c.if-get.true)

pub returns : goal.returns
returns c =
    let now = marked-now c.args.row.now c.args.waiting.now.items c.args.m c.requires (sym c.get.ensures ∙ c.if-get.false) in
    rw (c.set.ensures, c.in_ok-push.ensures.items) now
