use Rattle.pkg_manifest.proofs.ManifestLaws.{one_manifest_of}
use Rattle.pkg_manifest.proofs.reading.one_manifest.Goals as goal

pub returns : goal.returns
returns c = λ text. one_manifest_of text (c.one_answer.ensures text)
