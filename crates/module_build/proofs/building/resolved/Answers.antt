use Rattle.std.proofs.Common.{◌≡◌, map, length, sym, ap, subst, ◌∙◌}
use Rattle.path_text.specs.Path.{parent_of}
use Rattle.resolve_path.specs.Resolution.{resolution_of}
use Rattle.module_build.specs.Record.{answered, asked_by}
use Rattle.module_build.specs.Shape.{IsSimple}
use Rattle.module_build.specs.declared.asked.Asked.{Asked}
use Rattle.module_build.proofs.Shapes.{asked_places, simple_by}
use Rattle.module_build.proofs.building.resolved.Goals as goal

pub answered-requires : goal.answered-requires
answered-requires g c =
    let same : map (λ (one : Asked). one.item) c.in_ok-asked.asked.items ≡ c.args.rec.items = c.in_ok-asked.ensures.items ∙ c.as_slice.ensures in
    asked_places c.args.rec c.in_ok-asked.asked.items same c.requires.parsed.places

pub returns-clause-shape : goal.returns-clause-shape
returns-clause-shape g c =
    let count = length c.args.listing.now.files in
    let same : map (λ (one : Asked). one.item) c.in_ok-asked.asked.items ≡ c.args.rec.items = c.in_ok-asked.ensures.items ∙ c.as_slice.ensures in
    subst (IsSimple count c.args.file) (sym c.in_ok-answered.ensures)
    (simple_by count c.args.file c.args.rec c.in_ok-asked.asked.items c.targets_keep_a_scan_whole.ensures.rec c.requires.parsed same c.in_ok-asked.ensures.within)

pub returns-clause-is : goal.returns-clause-is
returns-clause-is g c = λ tree told listed true reading is.
    let found = c.in_ok-asked.ensures.finds tree told listed true reading is in
    c.in_ok-answered.ensures
    ∙ ap (answered c.args.rec)
    (found
    ∙ ap (λ folder. map (asked_by (λ request kind. resolution_of reading tree c.args.config.now folder request kind)) c.as_slice.result.now) c.parent.ensures
    ∙ ap (map (asked_by (λ request kind. resolution_of reading tree c.args.config.now (parent_of c.args.path.now) request kind))) c.as_slice.ensures)
