use Rattle.module_code.proofs.Commas.{added-more}
use Rattle.chunk_code.specs.Texts.{file_text}
use Rattle.chunk_code.proofs.runtime.add_files.Goals as goal

pub loop-place-preserved : goal.loop-place-preserved
loop-place-preserved c =
    added-more file_text _ _ _ c.loop-place-test.true c.index-files-place.is _ _ _ _ c.loop-place.invariant c.in_ok-add_comma.ensures c.in_ok-add_file.ensures
