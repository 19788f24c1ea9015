-- The comments of a gap between tokens (ECMA-262 12.4).
use Rattle.std.specs.Prelude.{ℕ, suc, zero, Bool, ◌||◌, ◌+◌, nat_eq, List, [], ◌∷◌, length, take, drop, codes, if◌then◌else◌}
use Rattle.std.specs.List.{starts_with}

-- bytes begin with a front
abbrev pub begins : List ℕ → List ℕ → Bool
begins bytes front = starts_with nat_eq bytes front

-- LF, CR, U+2028 or U+2029 is first
abbrev pub begins_terminator : List ℕ → Bool
begins_terminator bytes =
    begins bytes (codes "\n") || begins bytes (codes "\r") || begins bytes (0xe2 ∷ 0x80 ∷ 0xa8 ∷ []) || begins bytes (0xe2 ∷ 0x80 ∷ 0xa9 ∷ [])

-- so many bytes, and those up to the line's end
abbrev pub line_from : ℕ → List ℕ → ℕ
line_from count [] = count
line_from count (byte ∷ bytes) = if begins_terminator (byte ∷ bytes) then count else line_from (count + 1) bytes

abbrev pub line_length : List ℕ → ℕ
line_length bytes = line_from 0 bytes

-- so many bytes, and those up to the first `*/`
abbrev pub content_from : ℕ → List ℕ → ℕ
content_from count [] = count
content_from count (byte ∷ bytes) = if begins (byte ∷ bytes) (codes "*/") then count else content_from (count + 1) bytes

-- what stands between `/*` and `*/`
abbrev pub content_of : List ℕ → List ℕ
content_of bytes = take (content_from 0 (drop 2 bytes)) (drop 2 bytes)

-- the comments between `/*` and `*/` of the bytes from an offset on, each with its offset, once so many bytes are passed over
abbrev pub block_comments : ℕ → ℕ → List ℕ → List (ℕ × List ℕ)
block_comments (suc passed) at [] = []
block_comments zero at [] = []
block_comments (suc passed) at (byte ∷ bytes) = block_comments passed (at + 1) bytes
block_comments zero at (byte ∷ bytes) =
    if begins (byte ∷ bytes) (codes "/*")
    then (at, content_of (byte ∷ bytes)) ∷ block_comments (length (content_of (byte ∷ bytes)) + 3) (at + 1) bytes
    else (if begins (byte ∷ bytes) (codes "//") then block_comments (line_length bytes) (at + 1) bytes
    else block_comments zero (at + 1) bytes)

-- how many bytes the first of these belongs to: a comment's or its own
abbrev pub front_length : List ℕ → ℕ
front_length bytes =
    if begins bytes (codes "/*") then length (content_of bytes) + 4
    else (if begins bytes (codes "//") then line_length (drop 1 bytes) + 1 else 1)
