use Rattle.std.proofs.Common.{◌≡◌, List, ap, ◌∙◌, sym, subst, inr, refl, true}
use Rattle.std.proofs.Math.Logic.{⊎_map}
use Rattle.std.proofs.lemmas.Result.{err_from_is_err_and}
use Rattle.std.specs.List.{flat_map, list_all}
use Rattle.graph_types.specs.declared.part.Part.{Part}
use Rattle.graph_types.specs.Parts.{is_part}
use Rattle.path_text.specs.Path.{is_normal}
use Rattle.asset_names.specs.Template.{IsTemplateOf, letter_for}
use Rattle.asset_names.proofs.Templates.{none_read, not_normal, is_template, read-written}
use Rattle.asset_names.proofs.reading.read_template.Goals as goal

pub returns-in_err-parts : goal.returns-in_err-parts
returns-in_err-parts c =
    let p = err_from_is_err_and c.from_residual.result c.from_residual.ensures.1 in
    rw (p.1, p.2) (⊎_map (λ e. e) (λ e. (e.0, none_read c.args.digits c.args.text.now e.1)) c.in_err-parts.ensures)

pub returns-then-not-is_normal : goal.returns-then-not-is_normal
returns-then-not-is_normal c =
    let letters = c.as_str.ensures.value ∙ c.in_ok-with_letters.ensures ∙ ap (flat_map letter_for) c.deref.ensures.value in
    inr (refl, not_normal c.args.digits c.args.text.now c.in_ok-parts.parts.items c.in_ok-parts.ensures (ap is_normal (sym letters) ∙ sym c.is_normal.ensures ∙ c.if-not-is_normal.true))

pub invariant_of-result : goal.invariant_of-result
invariant_of-result c =
    let written = read-written c.args.digits c.args.text.now _ c.requires.at_least_one c.requires.at_most_all c.in_ok-parts.ensures in
    record { in_range = subst (λ (parts : List Part). list_all is_part parts ≡ true) (sym c.from_vec.ensures) written.in_range }

pub returns : goal.returns
returns c =
    let letters = c.as_str.ensures.value ∙ c.in_ok-with_letters.ensures ∙ ap (flat_map letter_for) c.deref.ensures.value in
    subst (IsTemplateOf c.args.digits c.args.text.now) (sym c.from_vec.ensures)
    (is_template c.args.digits c.args.text.now c.in_ok-parts.parts.items c.requires.at_least_one c.requires.at_most_all c.in_ok-parts.ensures
    (ap is_normal (sym letters) ∙ sym c.is_normal.ensures ∙ c.if-not-is_normal.false))
