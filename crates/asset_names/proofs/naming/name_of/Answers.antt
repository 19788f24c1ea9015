use Rattle.std.proofs.Common.{◌≡◌, ap, subst, sym, ◌∙◌, List, ℕ}
use Rattle.std.specs.Prelude.{IfOk}
use Rattle.std.specs.Option.{option_copied}
use Rattle.std.specs.Str.{IsAscii}
use Rattle.graph_types.specs.declared.part.Part.{Part}
use Rattle.asset_names.specs.Names.{name_from}
use Rattle.asset_names.proofs.Shown.{hash_in-ascii, shown-name_from}
use Rattle.asset_names.proofs.naming.name_of.Goals as goal

pub put_together-requires : goal.put_together-requires
put_together-requires c =
    subst IsAscii (sym (c.as_str.ensures.value ∙ c.in_ok-hash.ensures)) (hash_in-ascii c.as_slice-parts.result.now c.args.bytes.now)

pub returns : goal.returns
returns c =
    let name = option_copied c.args.name in
    let shown = shown-name_from name c.args.id c.args.bytes.now c.as_str.result.now c.as_slice-parts.result.now (c.as_str.ensures.value ∙ c.in_ok-hash.ensures)
    ∙ ap (λ (parts : List Part). name_from parts name c.args.id c.args.bytes.now) c.as_slice-parts.ensures in
    subst (λ (xs : List ℕ). IfOk c.put_together.result (λ text. text ≡ xs)) shown c.put_together.ensures
