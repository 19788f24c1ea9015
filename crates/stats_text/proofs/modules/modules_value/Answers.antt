use Rattle.std.proofs.Common.{◌≡◌, ◌<◌, length, get_or, ap, ◌∙◌, map, arith}
use Rattle.std.proofs.lemmas.List.{take_all}
use Rattle.std.proofs.lemmas.List.FromFn.{get_or-map-range_with_len, length-map-range_with_len}
use Rattle.std.specs.List.{enumerate_from}
use Rattle.stats_text.proofs.Lists.{view-pushed, view-list}
use Rattle.stats_text.proofs.Numbered.{map-more}
use Rattle.stats_text.specs.Lists.{loaded_groups}
use Rattle.stats_text.specs.Stats.{module_stats, module_told}
use Rattle.stats_text.proofs.modules.modules_value.Goals as goal

pub index-requires : goal.index-requires
index-requires c =
    let records = c.args.graph.now.records in
    let size = ap length c.in_ok-loaded.ensures ∙ length-map-range_with_len (loaded_groups c.args.groups.now.of_block records) 0 (length records) in
    omega (arith, size, c.in_ok-loaded.loaded.ok, c.loop-place-test.true, c.count-place-end.ensures.count)

pub loop-place-preserved : goal.loop-place-preserved
loop-place-preserved c =
    let records = c.args.graph.now.records in
    let named = c.args.named in
    let place = c.loop-place.place in
    let rec = c.rec.result.now in
    let blocks = c.as_slice-blocks.result.now in
    let loaded = loaded_groups c.args.groups.now.of_block records in
    let within : place < length records = omega (arith, c.loop-place-test.true, c.count-place-end.ensures.count) in
    let own : blocks ≡ loaded place =
    c.as_slice-blocks.ensures ∙ c.index.ensures ∙ ap (λ all. get_or all place c.index.result.now) c.in_ok-loaded.ensures
    ∙ get_or-map-range_with_len loaded 0 (length records) place place c.index.result.now within (omega arith) in
    view-pushed _ _ _ _ _ _ c.in_ok-push.ensures.items c.loop-place.invariant
    (c.in_ok-module_value.ensures ∙ ap (λ groups. module_stats named records groups (place, rec)) own)
    (map-more (module_told named c.args.groups.now records) records place rec within c.rec.ensures)

pub returns : goal.returns
returns c =
    let records = c.args.graph.now.records in
    view-list c.loop-place.modules _ (c.loop-place.invariant
    ∙ ap (λ front. map (module_told c.args.named c.args.groups.now records) (enumerate_from 0 front)) (take_all c.loop-place.place records (omega (arith, c.loop-place-test.false, c.count-place-end.ensures.count))))
