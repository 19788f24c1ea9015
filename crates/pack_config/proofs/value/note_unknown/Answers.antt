use Rattle.std.proofs.Common.{◌++◌, List, ℕ, Bor, map, arith}
use Rattle.pack_config.specs.Values.{unknown_key}
use Rattle.pack_config.proofs.After.{each_more}
use Rattle.pack_config.proofs.value.note_unknown.Goals as goal

pub loop-pair-preserved : goal.loop-pair-preserved
loop-pair-preserved c =
    each_more c.args.pairs.now c.loop-pair.pair-index c.pair-item.result (omega arith) c.pair-item.is
    (unknown_key (map (λ (key : Bor (List ℕ)). key.now) c.args.shared.now ++ map (λ (key : Bor (List ℕ)). key.now) c.args.own.now)) _ _ _ c.loop-pair.invariant c.note_key.ensures
