use Rattle.resolve_path.proofs.Caching.{cache_none}
use Rattle.resolve_path.proofs.cache.ManifestCache.new.Goals as goal

pub invariant_of-result : goal.invariant_of-result
invariant_of-result c = rw c.new.ensures.items cache_none
