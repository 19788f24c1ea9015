use Rattle.std.proofs.Common.{◌≡◌, ℕ, ◌<◌, false, take, vec_len}
use Rattle.std.specs.Prelude.{slice_index_or}
use Rattle.module_code.specs.Numbers.{is_starred}
use Rattle.module_code.proofs.numbers.starred_items.Given as goal

abbrev pub invariant-loop-star : goal.invariant-loop-star
invariant-loop-star l =
    (vec_len l.starred ≡ l.count)
    × ((number : ℕ) → number < l.count → slice_index_or l.starred.items number false ≡ is_starred (take l.star-index l.stars) number)
