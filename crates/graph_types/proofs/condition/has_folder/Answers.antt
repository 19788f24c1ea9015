use Rattle.std.proofs.Common.{lit<, bytes_eq, Some, None, ap, ◌∙◌}
use Rattle.std.specs.List.{list_any, slice_split}
use Rattle.std.proofs.lemmas.Str.Pattern.{rfind_char}
use Rattle.graph_types.specs.Condition.{is_separator}
use Rattle.graph_types.proofs.Paths.{no_folder, folders_before}
use Rattle.graph_types.proofs.condition.has_folder.Goals as goal

pub returns-in-Some : goal.returns-in-Some
returns-in-Some c =
    let at = rfind_char 47 c.args.path.now (Some c.in-Some.end) c.in-Some.ensures.cases (lit< tt) in
    c.has_segment.ensures
    ∙ ap (λ folder. list_any (λ segment. bytes_eq segment c.args.name.now) (slice_split is_separator folder)) c.range.ensures.value
    ∙ ap (list_any (λ segment. bytes_eq segment c.args.name.now)) (folders_before c.args.path.now c.in-Some.end at.0 at.1 at.2)

pub returns-in-None : goal.returns-in-None
returns-in-None c = no_folder c.args.name.now c.args.path.now (rfind_char 47 c.args.path.now None c.in-None.ensures.cases (lit< tt))
