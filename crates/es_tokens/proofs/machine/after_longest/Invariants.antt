use Rattle.std.proofs.Common.{◌≡◌, ◌≤◌, length, IfSome}
use denote.Text.{Utf8}
use denote.Shadow.{shadow}
use Rattle.std.specs.Option.{option_map, option_or}
use Rattle.std.specs.Str.{chars}
use Rattle.es_tokens.specs.Shape.{has_shape}
use Rattle.es_tokens.specs.Longest.{after_longest}
use Rattle.es_tokens.proofs.machine.after_longest.Given as goal

abbrev pub invariant-loop-c : goal.invariant-loop-c
invariant-loop-c g l = record {
  text : shadow (Utf8 l.rest);
  same : after_longest (has_shape (g.M.Machine.shape l.fn.machine)) (chars l.text)
      ≡ option_or (after_longest (has_shape (g.M.Machine.shape l.state)) (chars l.rest)) (option_map (λ rest. chars rest.now) l.best);
  within : length l.rest ≤ length l.text;
  found : IfSome l.best (λ rest. length rest.now ≤ length l.text);
}

abbrev pub decreases-loop-c : goal.decreases-loop-c
decreases-loop-c g l = length l.rest
