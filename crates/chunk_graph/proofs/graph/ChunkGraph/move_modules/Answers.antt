use Rattle.std.proofs.Common.{sym, ap, ◌∙◌}
use Rattle.chunk_graph.proofs.Sound.{sound-moved}
use Rattle.chunk_graph.proofs.graph.ChunkGraph.move_modules.Goals as goal

pub invariant_of-self : goal.invariant_of-self
invariant_of-self c =
    rw c.move_all.ensures (sound-moved _ c.args.modules.now c.args.from.now c.args.to.0 c.self.invariant (c.requires.modules ∙ ap (λ s. s.width) (sym c.self.view_is)))
