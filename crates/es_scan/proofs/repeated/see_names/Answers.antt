use Rattle.std.proofs.Common.{◌≡◌, ◌<◌, ◌+◌, ◌++◌, ◌∷◌, [], List, ℕ, take, length, ap, sym, ◌∙◌, arith}
use Rattle.std.proofs.lemmas.List.{take_more}
use Rattle.es_scan.proofs.NameLemmas.{flaws_more, seen_more}
use Rattle.es_scan.proofs.repeated.see_names.Goals as goal

pub loop-name-preserved : goal.loop-name-preserved
loop-name-preserved c = λ earlier held.
    let i : ℕ = c.loop-name.name-index in
    let names : List (List ℕ) = c.args.names.now in
    let name : List ℕ = c.name-item.result in
    let there : i < length names = omega arith in
    let taken : take (i + 1) names ≡ take i names ++ name ∷ [] =
    take_more names i name there ∙ ap (λ x. take i names ++ x ∷ []) (sym c.name-item.is) in (
      flaws_more c.args.offset earlier names i name c.args.flaws.now c.loop-name.flaws c.see_name.new.flaws taken
          (c.loop-name.invariant earlier held).0
          (c.in_ok-see_name.ensures.flaws (earlier ++ take i names) (c.loop-name.invariant earlier held).1),
      seen_more c.see_name.new.seen earlier names i name taken
          (c.in_ok-see_name.ensures.seen (earlier ++ take i names) (c.loop-name.invariant earlier held).1),
    )
