use Rattle.std.proofs.Common.{◌≡◌, ◌+◌, ◌++◌, ◌∷◌, [], take, ap, sym, subst, ◌∙◌, arith}
use Rattle.std.proofs.lemmas.List.{take_more}
use Rattle.pack_config.specs.inner.Seen.{HasNamesOf}
use Rattle.pack_config.proofs.Totals.{repeated_more, repeated_all}
use Rattle.pack_config.proofs.repeated.note_repeated.Goals as goal

pub loop-pair-preserved : goal.loop-pair-preserved
loop-pair-preserved c =
    let pairs = c.args.pairs.now in
    let i = c.loop-pair.pair-index in
    let pair = c.pair-item.result in
    let front : take (i + 1) pairs ≡ take i pairs ++ pair ∷ [] = take_more pairs i pair (omega arith) ∙ ap (λ x. take i pairs ++ x ∷ []) (sym c.pair-item.is) in
    record {
      faults = repeated_more pairs i c.args.found.now c.loop-pair.found c.loop-pair.invariant.faults pair c.note_name.new.found (omega arith) c.pair-item.is
          (c.in_ok-note_name.ensures.faults (take i pairs) c.loop-pair.invariant.names);
      names = subst (HasNamesOf c.note_name.new.names) (sym front) (c.in_ok-note_name.ensures.names (take i pairs) c.loop-pair.invariant.names);
    }

pub returns : goal.returns
returns c = repeated_all c.args.pairs.now c.loop-pair.pair-index c.args.found.now c.loop-pair.found c.loop-pair.invariant.faults (omega arith)
