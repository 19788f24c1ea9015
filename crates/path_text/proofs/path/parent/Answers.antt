use Rattle.std.proofs.Common.{lit<, Some, None, ◌∙◌}
use Rattle.std.proofs.lemmas.Str.Pattern.{rfind_char}
use Rattle.path_text.proofs.Parents.{parent_of-at, parent_of-none}
use Rattle.path_text.proofs.path.parent.Goals as goal

pub returns-in-Some : goal.returns-in-Some
returns-in-Some c =
    let at = rfind_char 47 c.args.path.now (Some c.in-Some.end) c.in-Some.ensures.cases (lit< tt) in
    c.range.ensures.value ∙ parent_of-at c.args.path.now c.in-Some.end at.0 at.1 at.2

pub returns-in-None : goal.returns-in-None
returns-in-None c = parent_of-none c.args.path.now (rfind_char 47 c.args.path.now None c.in-None.ensures.cases (lit< tt))
