use Rattle.std.proofs.Common.{◌≡◌, ◌<◌, length, List, subst, sym, ap, ◌∙◌, arith}
use Rattle.std.proofs.lemmas.List.Elements.{recursion_from_All}
use Rattle.pack_util.specs.declared.number.ModuleNo.{ModuleNo}
use Rattle.graph_types.specs.Modules.{AreNumbersOf}
use Rattle.stats_text.specs.Lists.{held_modules}
use Rattle.stats_text.proofs.Held.{few-held, held-within}
use Rattle.stats_text.proofs.chunks.modules_and_size.Goals as goal

pub total_size-size-requires-clause-there : goal.total_size-size-requires-clause-there
total_size-size-requires-clause-there c =
    let records = c.args.graph.now.records in
    let row = c.mods.result.now in
    let len : length row ≡ length records = c.mods.ensures.len ∙ c.requires.width in
    let are : c.deref.result.now ≡ held_modules row = c.deref.ensures.value ∙ c.in_ok-held.ensures in
    let Within : List ModuleNo → Type 0 = λ modules. AreNumbersOf records modules in
    subst Within (sym are) (recursion_from_All (λ m. m.0 < length records) (held_modules row) (λ i d lt. omega (arith, len, held-within row i d lt)))

pub total_size-size-requires-clause-few : goal.total_size-size-requires-clause-few
total_size-size-requires-clause-few c =
    let are = ap length (c.deref.ensures.value ∙ c.in_ok-held.ensures) in
    omega (arith, are, few-held c.mods.result.now, c.mods.ensures.len, c.requires.width, c.count-count.ensures.modules.few)
