use Rattle.std.proofs.Common.{◌<◌, length, refl, ap, arith}
use Rattle.std.proofs.lemmas.Result.{err_from_is_err_and}
use Rattle.chunk_graph.proofs.Lists.{push_range}
use Rattle.module_code.specs.View.{Sealing}
use Rattle.seal_build.specs.Assets.{entry_asset, with_id}
use Rattle.seal_build.proofs.Bytes.{entry-too-large, more_behind}
use Rattle.seal_build.proofs.assets.entry_assets.Goals as goal

pub loop-g-preserved : goal.loop-g-preserved
loop-g-preserved c =
    let view = c.args.view.now in
    let g = c.loop-g.g in
    let added = c.in_ok-add_entry.ensures.added in
    record {
      assets = push_range (entry_asset view) _ _ g _ added.assets c.loop-g.invariant.assets refl;
      names = push_range (with_id view (entry_asset view)) _ _ g _ added.names c.loop-g.invariant.names refl;
      bytes = more_behind c.args.later.now.bytes (entry_asset view g) _ _ _ _ c.loop-g.invariant.bytes added.assets added.bytes;
    }

pub returns-in_err-add_entry-clause-err : goal.returns-in_err-add_entry-clause-err
returns-in_err-add_entry-clause-err c =
    let view = c.args.view.now in
    let g = c.loop-g.g in
    let within : g < length view.config.entries = omega (arith, c.loop-g-test.true, ap length c.as_slice.ensures, ap (λ (v : Sealing). length v.config.entries) c.view.view_is) in
    let p = err_from_is_err_and c.from_residual.result c.from_residual.ensures.1 in
    rw (p.1, p.2) (entry-too-large view g c.loop-g.made.bytes c.args.later.now.bytes c.loop-g.made.assets.items within c.requires.bytes c.loop-g.invariant.bytes c.loop-g.invariant.assets _ c.in_err-add_entry.ensures.err)
