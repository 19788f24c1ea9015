use Rattle.std.proofs.Common.{◌≤◌, length}
use Rattle.std.specs.Str.{chars}
use denote.Text.{Utf8}
use denote.Shadow.{shadow}
use Rattle.es_tokens.proofs.TokensLemmas.{Reached}
use Rattle.es_tokens.proofs.list.all_tokens.Given as goal

abbrev pub invariant-loop-tokens : goal.invariant-loop-tokens
invariant-loop-tokens l = record {
  text : shadow (Utf8 l.rest);
  reached : Reached l.text l.tokens.items l.context (chars l.rest);
  within : length l.rest ≤ length l.text;
  deep : length l.context.brackets ≤ 4096;
}

abbrev pub decreases-loop-tokens : goal.decreases-loop-tokens
decreases-loop-tokens l = length (chars l.rest)
