use Rattle.std.proofs.Common.{List, sym, subst}
use Rattle.chunk_graph.specs.declared.split.Split.{Split}
use Rattle.seal_build.specs.Final.{IsFinal}
use Rattle.seal_build.proofs.Grouping.{told-groups}
use Rattle.seal_build.proofs.Preparing.{ready}
use Rattle.seal_build.proofs.Ending.{sealed-by}
use Rattle.seal_build.proofs.sealing.seal_by_one.Goals as goal

pub final_chunks-requires-clause-entries : goal.final_chunks-requires-clause-entries
final_chunks-requires-clause-entries c =
    (told-groups c.args.graph.now c.args.config.now c.args.config_path.now c.in_ok-groups.groups.infos c.in_ok-groups.ensures.groups).0

pub finish-requires : goal.finish-requires
finish-requires c =
    let graph = c.args.graph.now in
    let config = c.args.config.now in
    let groups = c.in_ok-groups.groups in
    let told = told-groups graph config c.args.config_path.now groups.infos c.in_ok-groups.ensures.groups in
    let P : List Split → Type 0 = λ splits. IsFinal graph config groups.infos splits c.in_ok-chunks.chunks in
    ready graph config groups.infos groups.of_block c.deref.result.now c.in_ok-chunks.chunks c.requires.fits c.requires.no_faults c.in_ok-groups.ensures.tells told.0
    (subst P (sym c.deref.ensures.value) c.in_ok-chunks.ensures.is_final) c.in_ok-chunks.ensures.few

pub returns : goal.returns
returns c =
    let graph = c.args.graph.now in
    let config = c.args.config.now in
    let groups = c.in_ok-groups.groups in
    let P : List Split → Type 0 = λ splits. IsFinal graph config groups.infos splits c.in_ok-chunks.chunks in
    sealed-by graph config c.args.config_path.now groups.infos groups.of_block c.deref.result.now c.in_ok-chunks.chunks c.finish.result c.in_ok-groups.ensures.groups c.in_ok-groups.ensures.tells
    (subst P (sym c.deref.ensures.value) c.in_ok-chunks.ensures.is_final) c.in_ok-chunks.ensures.few c.finish.ensures
