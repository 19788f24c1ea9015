use Rattle.std.proofs.Common.{List, Some, None, option_and_then, ap, ◌∙◌, lit<}
use Rattle.std.proofs.Math.Logic.{⊎_map}
use Rattle.std.proofs.lemmas.Result.{err_from_is_err_and}
use Rattle.std.proofs.lemmas.Str.Pattern.{split_once_first}
use Rattle.std.specs.List.{slice_split}
use Rattle.graph_types.specs.declared.part.Part.{Part}
use Rattle.asset_names.specs.Reading.{is_open, with_all}
use Rattle.asset_names.proofs.Steps.{starts-cut, starts-uncut}
use Rattle.asset_names.proofs.reading.read_parts.Goals as goal

pub returns-in_err-push_fixed : goal.returns-in_err-push_fixed
returns-in_err-push_fixed c =
    let uncut = split_once_first 91 c.args.text.now None c.in_default.ensures.cases (lit< tt) in
    let whole = starts-uncut c.args.digits c.args.text.now c.new-parts.result.items c.new-parts.ensures.items uncut in
    let p = err_from_is_err_and c.from_residual.result c.from_residual.ensures.1 in
    rw (p.1, p.2) (⊎_map (λ e. e) (λ e. (e.0, whole ∙ e.1)) c.in_err-push_fixed.ensures)

pub returns-in_default : goal.returns-in_default
returns-in_default c =
    let uncut = split_once_first 91 c.args.text.now None c.in_default.ensures.cases (lit< tt) in
    starts-uncut c.args.digits c.args.text.now c.new-parts.result.items c.new-parts.ensures.items uncut ∙ c.in_ok-push_fixed.ensures

pub returns-in_err-push_fixed-2 : goal.returns-in_err-push_fixed-2
returns-in_err-push_fixed-2 c =
    let cut = split_once_first 91 c.args.text.now (Some (c.in-Some.fixed, c.in-Some.marked)) c.in-Some.ensures.cases (lit< tt) in
    let whole = starts-cut c.args.digits c.args.text.now _ _ c.new-parts.result.items c.new-parts.ensures.items cut.0 cut.1 cut.2 in
    let p = err_from_is_err_and c.from_residual-in_err-push_fixed-2.result c.from_residual-in_err-push_fixed-2.ensures.1 in
    rw (p.1, p.2) (⊎_map (λ e. e) (λ e. (e.0, whole ∙ ap (option_and_then (λ (next : List Part). with_all c.args.digits next (slice_split is_open c.in-Some.marked.now))) e.1)) c.in_err-push_fixed-2.ensures)

pub returns-in_err-push_all : goal.returns-in_err-push_all
returns-in_err-push_all c =
    let cut = split_once_first 91 c.args.text.now (Some (c.in-Some.fixed, c.in-Some.marked)) c.in-Some.ensures.cases (lit< tt) in
    let whole = starts-cut c.args.digits c.args.text.now _ _ c.new-parts.result.items c.new-parts.ensures.items cut.0 cut.1 cut.2
    ∙ ap (option_and_then (λ (next : List Part). with_all c.args.digits next (slice_split is_open c.in-Some.marked.now))) c.in_ok-push_fixed-2.ensures in
    let p = err_from_is_err_and c.from_residual-in_err-push_all.result c.from_residual-in_err-push_all.ensures.1 in
    rw (p.1, p.2) (⊎_map (λ e. e) (λ e. (e.0, whole ∙ e.1)) c.in_err-push_all.ensures)

pub returns : goal.returns
returns c =
    let cut = split_once_first 91 c.args.text.now (Some (c.in-Some.fixed, c.in-Some.marked)) c.in-Some.ensures.cases (lit< tt) in
    starts-cut c.args.digits c.args.text.now _ _ c.new-parts.result.items c.new-parts.ensures.items cut.0 cut.1 cut.2
    ∙ ap (option_and_then (λ (next : List Part). with_all c.args.digits next (slice_split is_open c.in-Some.marked.now))) c.in_ok-push_fixed-2.ensures
    ∙ c.in_ok-push_all.ensures
