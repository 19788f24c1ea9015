use Rattle.std.proofs.Common.{◌≡◌, ℕ, ◌*◌, ◌%◌, ◌^◌, ◌-◌, min, ap, ◌∙◌, arith, bit_and}
use Rattle.std.specs.Int.{bit_at}
use Rattle.std.proofs.lemmas.Nat.Bits.{bit_at-lt, bit_at_and, ones_shl, bit_at_mask_inside, bit_at_mask_below}
use Rattle.bit_rows.proofs.bits.bits_from.Goals as goal

masked : (word place i : ℕ) → bit_at (bit_and word ((2 ^ 64 - 1) * 2 ^ place % 2 ^ 64)) i ≡ min (bit_at word i) (bit_at ((2 ^ 64 - 1) * 2 ^ place % 2 ^ 64) i)
masked word place i = bit_at_and word _ i

pub returns-clause-below : goal.returns-clause-below
returns-clause-below c i l =
    let mask = ap (λ m. bit_at m i) (ones_shl 64 c.args.place (omega arith)) ∙ bit_at_mask_below c.args.place 64 i l in
    omega (arith, masked c.args.word c.args.place i, mask)

pub returns-clause-kept : goal.returns-clause-kept
returns-clause-kept c i low high =
    let mask = ap (λ m. bit_at m i) (ones_shl 64 c.args.place (omega arith)) ∙ bit_at_mask_inside c.args.place 64 i low high in
    omega (arith, masked c.args.word c.args.place i, mask, bit_at-lt c.args.word i)
