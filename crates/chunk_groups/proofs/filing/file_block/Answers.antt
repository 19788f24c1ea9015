use Rattle.std.proofs.Common.{ap, sym, subst, ◌∙◌, arith, rules, List}
use Rattle.std.specs.List.Sorted.{IsSorted}
use Rattle.std.specs.Cmp.Lexicographic.{slice_cmp}
use Rattle.std.specs.Ordering.{nat_cmp}
use Rattle.std.specs.Option.{option_copied}
use Rattle.std.specs.Prelude.{◌≡◌, ℕ, ◌<◌, length, slice_index_or, Contains}
use Rattle.chunk_groups.specs.Grouped.{no_block}
use Rattle.chunk_groups.proofs.Filed.{name-there, named-has-room, put-in, step-named, step-unnamed}
use Rattle.chunk_groups.proofs.Names.{ascending-sorted, keys-ascend}
use Rattle.chunk_groups.proofs.Standing.{stands-at}
use Rattle.chunk_groups.proofs.filing.file_block.Goals as goal

pub chunk_name-requires : goal.chunk_name-requires
chunk_name-requires c = stands-at c.args.graph.now.records c.blocks-2.result.now c.args.number _ c.blocks-2.ensures (subst (λ l. c.args.number < length l) (sym c.blocks-2.ensures) c.requires.within)

pub returns-in_default-clause-more : goal.returns-in_default-clause-more
returns-in_default-clause-more c =
    step-unnamed c.args.graph.now c.args.entries.now c.blocks-2.result.now c.args.number no_block c.blocks-2.ensures (subst (λ l. c.args.number < length l) (sym c.blocks-2.ensures) c.requires.within)
    _ _ _ c.requires.so_far (sym c.chunk_name.ensures ∙ ap option_copied c.in_default.is) c.in_ok-push.ensures.items c.in_ok-unnamed.ensures

pub place_of-requires-clause-sorted : goal.place_of-requires-clause-sorted
place_of-requires-clause-sorted c = subst (IsSorted (slice_cmp nat_cmp)) (sym c.requires.names) (ascending-sorted _ (keys-ascend _))

pub place_of-requires-clause-there : goal.place_of-requires-clause-there
place_of-requires-clause-there c = subst (λ (l : List (List ℕ)). Contains l c.in-Some.name.now) (sym c.requires.names)
    (name-there c.args.graph.now.records c.blocks-2.result.now c.args.number no_block c.in-Some.name.now c.blocks-2.ensures
    (subst (λ l. c.args.number < length l) (sym c.blocks-2.ensures) c.requires.within) (sym c.chunk_name.ensures ∙ ap option_copied c.in-Some.is))

pub index_mut-requires : goal.index_mut-requires
index_mut-requires c =
    let room = named-has-room c.args.graph.now c.args.entries.now c.args.number _ c.place_of.result c.requires.so_far (subst (λ l. c.place_of.result < length l) c.requires.names c.place_of.ensures.in_range) in
    search (rules, room)

pub overflow_cast-result-2 : goal.overflow_cast-result-2
overflow_cast-result-2 c =
    let room = named-has-room c.args.graph.now c.args.entries.now c.args.number _ c.place_of.result c.requires.so_far (subst (λ l. c.place_of.result < length l) c.requires.names c.place_of.ensures.in_range) in
    omega (arith, room, c.requires.few)

pub returns-clause-put : goal.returns-clause-put
returns-clause-put c =
    let room = named-has-room c.args.graph.now c.args.entries.now c.args.number _ c.place_of.result c.requires.so_far (subst (λ l. c.place_of.result < length l) c.requires.names c.place_of.ensures.in_range) in
    put-in _ _ _ _ c.index_mut.result.now _ room c.index_mut.ensures.value c.in_ok-add_to.ensures

pub returns-clause-more : goal.returns-clause-more
returns-clause-more c =
    let inside = subst (λ l. c.place_of.result < length l) c.requires.names c.place_of.ensures.in_range in
    let at = subst (λ (l : List (List ℕ)). slice_index_or l c.place_of.result c.in-Some.name.now ≡ c.in-Some.name.now) c.requires.names (c.place_of.ensures.found c.in-Some.name.now) in
    step-named c.args.graph.now c.args.entries.now c.blocks-2.result.now c.args.number no_block c.blocks-2.ensures (subst (λ l. c.args.number < length l) (sym c.blocks-2.ensures) c.requires.within)
    _ c.in-Some.name.now c.place_of.result c.index_mut.result.now c.add_to.new.info c.requires.so_far (sym c.chunk_name.ensures ∙ ap option_copied c.in-Some.is) inside at c.index_mut.ensures.value c.in_ok-add_to.ensures
