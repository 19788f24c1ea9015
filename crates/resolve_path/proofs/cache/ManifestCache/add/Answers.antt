use Rattle.resolve_path.proofs.Caching.{cache_more}
use Rattle.resolve_path.proofs.cache.ManifestCache.add.Goals as goal

pub invariant_of-self-2 : goal.invariant_of-self-2
invariant_of-self-2 c =
    rw c.in_ok-push.ensures.items (cache_more c.self.inside.kept.items c.args.path c.args.answer c.self.invariant (rw c.self.view_is c.requires.room) (rw c.self.view_is c.requires.new))
