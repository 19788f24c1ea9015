use Rattle.std.proofs.Common.{◌≡◌, codes, ap, ◌∙◌}
use Rattle.std.specs.Option.{option_copied, unwrap_or}
use Rattle.pack_config.specs.Grammar.{digits_of, public_path}
use Rattle.pack_config.specs.Values.{text_value, whole_value}
use Rattle.pack_config.proofs.Clean.{templates_clean}
use Rattle.pack_config.proofs.Written.{same_template}
use Rattle.pack_config.proofs.output.read_output.Goals as goal

pub returns-clause-value : goal.returns-clause-value
returns-clause-value c = λ none.
    let clean = templates_clean (option_copied c.args.value) none in
    let digits : c.unwrap_or-digits.result ≡ digits_of (option_copied c.args.value) =
    c.unwrap_or-digits.ensures ∙ ap (λ n. unwrap_or n 20) (c.whole.ensures.value ∙ ap (whole_value 1 64) c.value_at-2.ensures) in
    record {
      filename = same_template c.unwrap_or-digits.result _ _ _ (codes "[name].js") c.in_ok-template.field-0.parts digits c.value_at-3.ensures c.in_ok-template.ensures.value clean.0;
      chunk_filename = same_template c.unwrap_or-digits.result _ _ _ (codes "[id].js") c.in_ok-template-2.field-0.parts digits c.value_at-4.ensures c.in_ok-template-2.ensures.value clean.1;
      public_path = c.in_ok-public_path.ensures ∙ ap public_path (c.text.ensures.value ∙ ap text_value c.value_at-5.ensures);
    }
