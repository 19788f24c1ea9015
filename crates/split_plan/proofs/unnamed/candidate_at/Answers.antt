use Rattle.std.proofs.Common.{ℕ, ◌&&◌, List, Bool, map, length, sym, ap, subst, ◌∙◌, arith}
use Rattle.std.specs.List.{range_with_len}
use Rattle.chunk_graph.specs.Chunks.{is_in}
use Rattle.split_plan.specs.Candidates.{size_of}
use Rattle.split_plan.specs.inner.Search.{IsEarlier, goes_with}
use Rattle.split_plan.proofs.Found.{chunk_below, exit_none, exit_few, exit_earlier, exit_small, exit_found}
use Rattle.split_plan.proofs.unnamed.candidate_at.Goals as goal

pub returns-in_default : goal.returns-in_default
returns-in_default c = exit_none _ _ _ _ _ _ c.args.module _ c.requires.search c.requires.within c.index-shares-module.is c.in_default.ensures

pub mods-mods-requires : goal.mods-mods-requires
mods-mods-requires c = chunk_below _ _ _ _ _ _ c.args.module c.in-Some.first _ c.requires.search c.requires.within c.index-shares-module.is c.in-Some.ensures.is_true

pub returns-then-count-rule : goal.returns-then-count-rule
returns-then-count-rule c = exit_few _ _ _ _ _ _ c.args.module _ c.requires.search c.requires.within c.index-shares-module.is (omega (arith, c.count.ensures))

pub returns-then-not-is_first : goal.returns-then-not-is_first
returns-then-not-is_first c = exit_earlier _ _ _ _ _ _ _ c.args.module c.requires.search c.requires.within c.if-not-is_first.ensures

pub returns-then-not-is_large : goal.returns-then-not-is_large
returns-then-not-is_large c =
    let rule = c.args.rule.now in
    let shares = c.args.shares.now in
    let chunks = c.index-shares-module.result in
    let is = c.in_ok-modules.ensures ∙ ap (λ mods. map (λ m. is_in mods m && goes_with rule shares chunks m) (range_with_len 0 (length shares))) c.mods-mods.ensures.mods in
    let size = c.size_of-size.ensures ∙ ap (λ sizes. size_of sizes c.in_ok-modules.modules) c.sizes.ensures in
    exit_small _ _ _ _ _ _ c.args.module c.in-Some.first chunks _ _ c.requires.search c.requires.within c.requires.unnamed c.index-shares-module.is c.in-Some.ensures.is_true is size
    (sym c.if-not-is_large.ensures)

pub returns : goal.returns
returns c =
    let rule = c.args.rule.now in
    let shares = c.args.shares.now in
    let chunks = c.index-shares-module.result in
    let is = c.in_ok-modules.ensures ∙ ap (λ mods. map (λ m. is_in mods m && goes_with rule shares chunks m) (range_with_len 0 (length shares))) c.mods-mods.ensures.mods in
    let size = c.size_of-size.ensures ∙ ap (λ sizes. size_of sizes c.in_ok-modules.modules) c.sizes.ensures in
    let P : List Bool → Type 0 = λ mods. (m : ℕ) → ¬ (IsEarlier rule shares mods c.args.module m) in
    exit_found _ _ _ _ _ _ c.args.module c.in-Some.first chunks _ _ _ c.requires.search c.requires.within c.requires.unnamed c.index-shares-module.is c.in-Some.ensures.is_true
    (sym c.if-not-get.ensures) (omega (arith, c.count.ensures))
    (subst P c.mods-mods.ensures.mods c.if-not-is_first.ensures) is size (sym c.if-not-is_large.ensures) c.in_ok-copy_row.ensures
