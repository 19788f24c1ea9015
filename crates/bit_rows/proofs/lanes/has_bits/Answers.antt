use Rattle.std.proofs.Common.{refl}
use Rattle.bit_rows.proofs.Blocks.{zero_from_fold, fold_from_zero, zero_from_test, test_from_zero}
use Rattle.bit_rows.proofs.lanes.has_bits.Goals as goal

pub returns : goal.returns
returns c = (
  λ e. (zero_from_fold 0 c.args.lanes (zero_from_test _ e)).1,
  λ h. test_from_zero _ (fold_from_zero 0 c.args.lanes refl h),
)
