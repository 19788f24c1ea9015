use Rattle.std.proofs.Common.{◌<◌, length, refl, sym, ap, ◌∙◌, arith}
use Rattle.std.proofs.lemmas.Result.{err_from_is_err_and}
use Rattle.chunk_graph.specs.Chunks.{chunk_at}
use Rattle.module_code.specs.View.{Sealing}
use Rattle.seal_build.specs.Assets.{asset_bytes, is_later, later_asset, with_id}
use Rattle.seal_build.proofs.Bytes.{later-too-large, more_bytes}
use Rattle.seal_build.proofs.Growing.{picked-more, skipped-more}
use Rattle.seal_build.proofs.assets.later_assets.Goals.{then-is_later+in_ok-add_later, else-is_later}
use Rattle.seal_build.proofs.assets.later_assets.Goals as goal

pub loop-place-preserved : goal.loop-place-preserved
loop-place-preserved c =
    let view = c.args.view.now in
    let n = c.loop-place.place in
    let before = c.loop-place.invariant in
    let tested = ap (λ (v : Sealing). is_later (chunk_at v.chunks n)) (sym c.view.view_is) ∙ sym c.is_later.ensures in
    elim c.if-is_later.branch [
      | then-is_later+in_ok-add_later w ↦
          let added = w.in_ok-add_later.ensures.added in
          record {
            assets = ap (λ made. made.assets.items) w.made-is
                ∙ picked-more (λ i. is_later (chunk_at view.chunks i)) (later_asset view) n _ _ _ (tested ∙ w.if-is_later.true) before.assets added.assets refl;
            names = ap (λ made. made.names.items) w.made-is
                ∙ picked-more (λ i. is_later (chunk_at view.chunks i)) (with_id view (later_asset view)) n _ _ _ (tested ∙ w.if-is_later.true) before.names added.names refl;
            bytes = ap (λ made. made.bytes) w.made-is ∙ more_bytes (later_asset view n) _ _ _ _ before.bytes added.assets added.bytes ∙ ap (λ made. asset_bytes made.assets.items) (sym w.made-is);
          }
      | else-is_later w ↦ record {
        assets = ap (λ made. made.assets.items) w.made-is
            ∙ skipped-more (λ i. is_later (chunk_at view.chunks i)) (later_asset view) n _ (tested ∙ w.if-is_later.false) before.assets;
        names = ap (λ made. made.names.items) w.made-is
            ∙ skipped-more (λ i. is_later (chunk_at view.chunks i)) (with_id view (later_asset view)) n _ (tested ∙ w.if-is_later.false) before.names;
        bytes = ap (λ made. made.bytes) w.made-is ∙ before.bytes ∙ ap (λ made. asset_bytes made.assets.items) (sym w.made-is);
      }
    ]

pub returns-in_err-add_later-clause-err : goal.returns-in_err-add_later-clause-err
returns-in_err-add_later-clause-err c =
    let view = c.args.view.now in
    let n = c.loop-place.place in
    let within : n < length view.chunks.chunks = omega (arith, c.loop-place-test.true, c.count-place-end.ensures.count, ap (λ (v : Sealing). length v.chunks.chunks) c.view.view_is) in
    let later = ap (λ (v : Sealing). is_later (chunk_at v.chunks n)) (sym c.view.view_is) ∙ sym c.is_later.ensures ∙ c.if-is_later.true in
    let p = err_from_is_err_and c.from_residual.result c.from_residual.ensures.1 in
    rw (p.1, p.2) (later-too-large view n c.loop-place.made.bytes c.loop-place.made.assets.items within later c.loop-place.invariant.bytes c.loop-place.invariant.assets _ c.in_err-add_later.ensures.err)
