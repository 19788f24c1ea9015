use Rattle.std.proofs.Common.{◌≡◌, ◌++◌, ◌∷◌, [], None, rules, ap, ◌∙◌, lit<}
use Rattle.std.proofs.lemmas.Str.Pattern.{strip_prefix_char}
use Rattle.outside.specs.Tree.{within}
use Rattle.outside.specs.inner.Walk.{rest_within}
use Rattle.outside.proofs.Within.{not_root, rest_none, rest_after, slash_after}
use Rattle.outside.proofs.folder.rest_within.Goals as goal

pub returns-in_err-strip_prefix : goal.returns-in_err-strip_prefix
returns-in_err-strip_prefix c =
    let folder = c.args.folder.now in
    let path = c.args.path.now in
    let slash : within folder ≡ folder ++ 47 ∷ [] = not_root folder (search rules) in
    let none : rest_within folder path ≡ None = rest_none folder path (λ rest e. c.in_err-strip_prefix.ensures.cases (47 ∷ rest) (e ∙ ap (λ xs. xs ++ rest) slash ∙ slash_after folder rest)) in
    rw none (search rules)

pub returns : goal.returns
returns c =
    let folder = c.args.folder.now in
    let path = c.args.path.now in
    let tail = c.in_ok-strip_prefix.field-0.now in
    let slash : within folder ≡ folder ++ 47 ∷ [] = not_root folder (search rules) in
    let cut : path ≡ folder ++ tail = search rules in
    rest_after folder path tail c.strip_prefix-2.result slash cut (strip_prefix_char 47 tail c.strip_prefix-2.result c.strip_prefix-2.ensures.cases (lit< tt))
