-- The keys of `exports` and of the objects in it (Node.js, "Subpath patterns" and "Conditional exports").
use Rattle.std.specs.Prelude.{ℕ, ◌-◌, Bool, not, ◌&&◌, ◌||◌, ◌==◌, nat_eq, nat_lt, nat_le, List, length, count_by, slice_index, slice_range, bytes_eq, codes}
use Rattle.std.specs.List.{list_any, starts_with, ends_with, before_first, after_first, position_or_len}
use Rattle.std.specs.Str.{all_ascii_digits}
use Rattle.std.specs.Str.Parse.{digits_value}

-- the byte `*`
abbrev pub is_star : ℕ → Bool
is_star byte = byte == 42

-- whether the first byte is `.` (of no bytes `slice_index` gives 0)
abbrev pub begins_with_dot : List ℕ → Bool
begins_with_dot key = slice_index key 0 == 46

-- An array index (ECMAScript, "Object type"): `0`, or digits that don't begin with `0`, of a value of at most 2^32 - 2.
abbrev pub is_array_index : List ℕ → Bool
is_array_index key = bytes_eq key (codes "0")
    || (nat_lt 48 (slice_index key 0) && all_ascii_digits key && nat_le (digits_value 10 key) 4294967294)

-- a key that counts: `default`, or a condition that holds
abbrev pub is_met : List (List ℕ) → List ℕ → Bool
is_met conditions key = bytes_eq key (codes "default") || list_any (λ condition. bytes_eq condition key) conditions

-- the parts of a key before and after its first `*`
abbrev pub part_before : List ℕ → List ℕ
part_before key = before_first is_star key

abbrev pub part_after : List ℕ → List ℕ
part_after key = after_first is_star key

-- A key with exactly one `*` matches a subpath that begins with the part before it and goes on, ends with the part after
-- it, and is at least as long as the key.
abbrev pub is_match : List ℕ → List ℕ → Bool
is_match subpath key = count_by is_star key == 1
    && starts_with nat_eq subpath (part_before key) && not (bytes_eq subpath (part_before key))
    && ends_with nat_eq subpath (part_after key) && nat_le (length key) (length subpath)

-- what the `*` of a key that matches stands for
abbrev pub matched_part : List ℕ → List ℕ → List ℕ
matched_part subpath key = slice_range subpath (length (part_before key)) (length subpath - length (part_after key))

-- how many bytes stand before the first `*`
abbrev pub length_before : List ℕ → ℕ
length_before key = position_or_len is_star key

-- a key is tried before another (this project): its part before `*` is longer, or as long where the key is longer
abbrev pub outranks : List ℕ → List ℕ → Bool
outranks key other = nat_lt (length_before other) (length_before key)
    || (length_before key == length_before other && nat_lt (length other) (length key))
