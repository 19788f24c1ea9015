-- White space and line terminators in Unicode's words.
use Rattle.std.proofs.Common.{ℕ, ◌≡◌, not, ◌&&◌, ◌||◌, arith}
use Rattle.std.specs.Prelude.{◌==◌}
use Rattle.std.specs.Char.{is_whitespace}
use Rattle.std.proofs.lemmas.Grind.{common_steps}
use Rattle.es_tokens.specs.Characters.{is_white, is_terminator, is_blank}

pub blank-unicode : (c : ℕ) → is_blank c ≡ ((is_whitespace c && not (c == 0x85)) || c == 0xfeff)
unfolding is_blank is_white is_terminator
blank-unicode c = grind (arith, common_steps)
