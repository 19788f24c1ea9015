-- The places of items among those of all modules (this project).
use Rattle.std.specs.Prelude.{ℕ, ◌+◌, ◌*◌, ◌^◌}

-- the place of the item with this number in the module with that number, where no module has 2^32 items
abbrev pub place_of : ℕ → ℕ → ℕ
place_of number item = number * 2 ^ 32 + item
