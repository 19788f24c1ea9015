use Rattle.resolve_path.proofs.Caching.{one_manifest}
use Rattle.resolve_path.proofs.Readings.{some_reading}
use Rattle.resolve_path.proofs.laws.one_reading.Goals as goal

pub returns-clause-some : goal.returns-clause-some
returns-clause-some c = some_reading

pub returns-clause-only : goal.returns-clause-only
returns-clause-only c = λ reading other is own i text. one_manifest text (reading text) (other text) (is text) (own text) i
