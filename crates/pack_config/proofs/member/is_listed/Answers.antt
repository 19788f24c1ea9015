use Rattle.std.proofs.Common.{List, ℕ, Bor, bytes_eq, sym, ◌∙◌}
use Rattle.pack_config.proofs.Words.{any_map}
use Rattle.pack_config.proofs.member.is_listed.Goals as goal

pub returns : goal.returns
returns c = c.has_word.ensures ∙ sym (any_map (λ listed. bytes_eq listed c.args.key.now) (λ (listed : Bor (List ℕ)). listed.now) c.args.keys.now)
