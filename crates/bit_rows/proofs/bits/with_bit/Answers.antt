use Rattle.std.proofs.Common.{ap, sym, ◌∙◌, cond, w64}
use Rattle.std.proofs.lemmas.Nat.Bits.{bit_at_set_same, bit_at_set_other, bit_at_clear_same, bit_at_clear_other}
use Rattle.bit_rows.proofs.bits.with_bit.Goals as goal

pub returns-then-to-clause-here : goal.returns-then-to-clause-here
returns-then-to-clause-here c = bit_at_set_same w64 c.args.word c.args.place c.requires ∙ sym (ap (λ b. cond b 1 0) c.if-to.true)

pub returns-then-to-clause-elsewhere : goal.returns-then-to-clause-elsewhere
returns-then-to-clause-elsewhere c i l n = bit_at_set_other w64 c.args.word c.args.place c.requires i n

pub returns-else-to-clause-here : goal.returns-else-to-clause-here
returns-else-to-clause-here c = bit_at_clear_same w64 c.args.word c.args.place c.requires ∙ sym (ap (λ b. cond b 1 0) c.if-to.false)

pub returns-else-to-clause-elsewhere : goal.returns-else-to-clause-elsewhere
returns-else-to-clause-elsewhere c i l n = bit_at_clear_other w64 c.args.word c.args.place c.requires i l n
