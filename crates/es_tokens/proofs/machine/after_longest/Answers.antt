use Rattle.std.proofs.Common.{arith}
use Rattle.std.proofs.lemmas.Grind.{common_steps}
use Rattle.std.specs.Option.{option_map}
use Rattle.std.specs.Str.{chars}
use Rattle.es_tokens.proofs.LongestLemmas.{longest-stop}
use Rattle.es_tokens.proofs.machine.after_longest.Goals as goal

pub returns-in_default-step-clause-rest : goal.returns-in_default-step-clause-rest
returns-in_default-step-clause-rest g c =
    let stop = longest-stop (g.M.Machine.shape c.loop-c.state) c.in-Some.c (chars c.in-Some.after.now) (option_map (λ rest. chars rest.now) c.loop-c.best) c.in_default-step.ensures in
    grind (arith, common_steps)
