-- Numbers in words (this project).
use Rattle.std.specs.Prelude.{◌≡◌, ℕ, ◌≤◌, List, length, IsTrue}
use Rattle.std.specs.Str.{all_ascii_digits}
use Rattle.std.specs.Str.Parse.{digits_value}

-- one to nine decimal digits, which may begin with zeros, and what they write lies within bounds
pub record IsNumber (low high : ℕ) (word : List ℕ) (number : ℕ) : Type 0 where
  pub some : 1 ≤ length word
  pub few : length word ≤ 9
  pub digits : IsTrue (all_ascii_digits word)
  pub value : number ≡ digits_value 10 word
  pub at_least : low ≤ number
  pub at_most : number ≤ high
