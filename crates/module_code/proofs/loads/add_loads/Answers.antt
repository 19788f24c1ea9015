use Rattle.std.proofs.Common.{◌≡◌, ◌++◌, false, take, get_or, length, sym, ap, ◌∙◌, append_assoc, arith}
use Rattle.std.proofs.lemmas.List.{get_or_read_under}
use Rattle.std.specs.List.{enumerate_from, flat_map}
use Rattle.std.specs.Prelude.{slice_index}
use Rattle.graph_types.proofs.Numbering.{flat_map-more}
use Rattle.module_code.specs.Loads.{item_load, numbered_load}
use Rattle.module_code.proofs.Numbering.{length-load_numbers}
use Rattle.module_code.specs.Numbers.{load_numbers, is_starred}
use Rattle.module_code.proofs.loads.add_loads.Goals as goal

pub bounds-numbers-place : goal.bounds-numbers-place
bounds-numbers-place c =
    let as_many : length c.args.numbers.now ≡ length c.args.rec.now.items = ap length c.requires ∙ length-load_numbers c.args.rec.now.items in
    let all : length c.as_slice-items.result.now ≡ length c.args.rec.now.items = ap length c.as_slice-items.ensures in
    omega arith

pub loop-place-preserved : goal.loop-place-preserved
loop-place-preserved c =
    let rec = c.args.rec.now in
    let view = c.args.view.now in
    let items = c.as_slice-items.result.now in
    let place = c.loop-place.place in
    let item = c.index-items-place.result in
    let h = numbered_load view rec in
    let front = flat_map h (enumerate_from 0 (take place items)) in
    let starred : c.index.result.now ≡ is_starred rec.stars place =
    get_or_read_under c.in_ok-starred.starred.items place c.in_ok-starred.starred.len c.index.result.now false c.index.ensures (rw c.in_ok-starred.ensures.len c.loop-place-test.true) (omega (arith, c.in_ok-starred.starred.ok.0)) ∙ c.in_ok-starred.ensures.value place c.loop-place-test.true ∙ ap (λ stars. is_starred stars place) c.as_slice.ensures in
    let part : item_load view (get_or c.args.numbers.now place 0) c.index.result.now item ≡ h (place, get_or items place item) =
    ap (λ numbers. item_load view (slice_index numbers place) c.index.result.now item) c.requires
    ∙ ap (λ star. item_load view (slice_index (load_numbers rec.items) place) star item) starred
    ∙ ap (λ one. h (place, one)) c.index-items-place.is in
    c.in_ok-add_item_load.ensures
    ∙ ap (λ text. text ++ item_load view (get_or c.args.numbers.now place 0) c.index.result.now item) c.loop-place.invariant
    ∙ append_assoc c.args.text.now.items front _
    ∙ ap (λ last. c.args.text.now.items ++ (front ++ last)) part
    ∙ ap (λ rest. c.args.text.now.items ++ rest) (sym (flat_map-more h items place item c.loop-place-test.true))
