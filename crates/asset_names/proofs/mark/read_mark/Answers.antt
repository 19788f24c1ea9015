use Rattle.std.proofs.Common.{ℕ, ◌∙◌, sym, ap, codes}
use Rattle.std.specs.Option.{option_map}
use Rattle.graph_types.specs.declared.part.Part.TheVariants.{Hash}
use Rattle.asset_names.proofs.Marks.{number_mark, number_behind-none}
use Rattle.asset_names.proofs.mark.read_mark.Goals as goal

pub returns-in_err-number-in_default : goal.returns-in_err-number-in_default
returns-in_err-number-in_default c =
    c.from_residual.ensures
    ∙ sym (number_mark c.args.digits c.args.word.now c.in_default.not-name c.in_default.not-id c.in_default.not-contenthash
    ∙ ap (option_map (λ (n : ℕ). Hash n)) (number_behind-none (codes "contenthash:") c.args.word.now c.in_err-number-in_default.ensures.cases))
