-- The order of two texts that are not ASCII: the letters e with an acute accent and u with two dots.
use Rattle.std.specs.Prelude.{◌≡◌, [], ◌∷◌}
use Rattle.std.specs.Cmp.Lexicographic.{slice_cmp}
use Rattle.std.specs.Ordering.{nat_cmp}
use Rattle.std.specs.declared.cmp.Ordering.TheVariants.{Less}

pub record TextsAreOrdered : Type 0 where
  pub accents : slice_cmp nat_cmp (0xc3 ∷ 0xa9 ∷ []) (0xc3 ∷ 0xbc ∷ []) ≡ Less
