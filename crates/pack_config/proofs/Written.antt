-- Texts that are templates.
use Rattle.std.proofs.Common.{◌≡◌, ℕ, ◌≤◌, Bool, true, false, List, Option, Some, None, refl, ap, ◌∙◌, [], subst, ◌⊎◌, inl, inr}
use Rattle.std.specs.List.{slice_split}
use Rattle.asset_names.specs.Reading.{is_open, read_pieces}
use Rattle.asset_names.specs.Template.{IsTemplateOf}
use Rattle.asset_names.proofs.Templates as templates
use Rattle.asset_names.specs.declared.template_end.TemplateEnd.{TemplateEnd}
use Rattle.asset_names.specs.declared.template_end.TemplateEnd.TheVariants.{BadTemplate, NoMemory}
use Rattle.graph_types.specs.declared.part.Part.{Part}
use Rattle.json_order.specs.declared.tree.JsonTree.{JsonTree}
use Rattle.pack_config.specs.Templates.{are_template, is_template, template_rule, template_text}
use Rattle.pack_config.specs.Values.{where_given}

pub has_template : (digits : ℕ) (text : List ℕ) (parts : List Part) → IsTemplateOf digits text parts → is_template digits text ≡ true
has_template digits text parts is = ap are_template (templates.template-read digits text parts is) ∙ is.normal

by_parts : (digits : ℕ) (text : List ℕ) (read : Option (List Part)) → 1 ≤ digits → digits ≤ 64 → read_pieces digits (slice_split is_open text) ≡ read →
    are_template read ≡ true → (parts : List Part) × IsTemplateOf digits text parts
by_parts digits text None low high is e = absurd (cc)
by_parts digits text (Some parts) low high is e = (parts, templates.is_template digits text parts low high is e)

pub template_there : (digits : ℕ) (text : List ℕ) → 1 ≤ digits → digits ≤ 64 → is_template digits text ≡ true → (parts : List Part) × IsTemplateOf digits text parts
template_there digits text low high e = by_parts digits text (read_pieces digits (slice_split is_open text)) low high refl e

by_answer : (b : Bool) → (b ≡ true → ⊥) → b ≡ false
by_answer true h = absurd (h refl)
by_answer false h = refl

pub no_template : (digits : ℕ) (text : List ℕ) → 1 ≤ digits → digits ≤ 64 → ((parts : List Part) → IsTemplateOf digits text parts → ⊥) → is_template digits text ≡ false
no_template digits text low high none =
    by_answer (is_template digits text) (λ e. let there = template_there digits text low high e in none there.0 there.1)

pub of_bad_end : {P : Type 0} (end : TemplateEnd) → end ≡ BadTemplate → ((end ≡ NoMemory) ⊎ ((end ≡ BadTemplate) × P)) → P
of_bad_end end is (inl e) = absurd (cc)
of_bad_end end is (inr w) = w.1

pub both_ways : (b : Bool) → b ≡ false → b ≡ true → ⊥
both_ways b no_ yes_ = cc

-- a template for the same number of digits and the same value
pub same_template : (digits other_digits : ℕ) (value other : Option JsonTree) (text : List ℕ) (parts : List Part) → digits ≡ other_digits → value ≡ other →
    (where_given (template_rule digits) value ≡ [] → IsTemplateOf digits (template_text text value) parts) →
    where_given (template_rule other_digits) other ≡ [] → IsTemplateOf other_digits (template_text text other) parts
same_template digits other_digits value other text parts same_digits same_value is none =
    let back = ap (λ n. where_given (template_rule n) value) same_digits ∙ ap (where_given (template_rule other_digits)) same_value ∙ none in
    subst (λ (v : Option JsonTree). IsTemplateOf other_digits (template_text text v) parts) same_value
    (subst (λ (n : ℕ). IsTemplateOf n (template_text text value) parts) same_digits (is back))
