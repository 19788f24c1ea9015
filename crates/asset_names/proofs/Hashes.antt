-- The digits of a hash are ASCII, so that they may be cut anywhere.
use Rattle.std.proofs.Common.{◌≡◌, ℕ, ◌≤◌, true, ltb, List, [], ◌∷◌, length, refl, arith}
use Rattle.std.proofs.lemmas.Bool.{and_parts, ltb-true}
use Rattle.std.proofs.lemmas.Str.Ascii.{IsAscii-nil, IsAscii-cons}
use Rattle.std.specs.List.{list_all}
use Rattle.std.specs.Str.{IsAscii}
use Rattle.std.specs.String.Boundary.{IsSplitPoint}
use Rattle.hex.proofs.HexLemmas.{IsAscii-encode_with, length-encode_with}
use Rattle.hex.specs.Hex.{lower_digits}
use Rattle.sha2.proofs.Facts256.{length-sha256}
use Rattle.sha2.specs.Sha256.{sha256}
use Rattle.asset_names.specs.Hash.{whole_hash_of}

ascii_by_test : (text : List ℕ) → list_all (λ byte. ltb byte 128) text ≡ true → IsAscii text
ascii_by_test [] e = IsAscii-nil
ascii_by_test (byte ∷ bytes) e =
    let parts = and_parts (ltb byte 128) (list_all (λ b. ltb b 128) bytes) e in
    IsAscii-cons byte bytes (ltb-true _ _ parts.0) (ascii_by_test bytes parts.1)

pub whole_hash_of-ascii : (bytes : List ℕ) → IsAscii (whole_hash_of bytes)
whole_hash_of-ascii bytes = IsAscii-encode_with lower_digits (sha256 bytes) (ascii_by_test lower_digits refl)

pub length-whole_hash_of : (bytes : List ℕ) → length (whole_hash_of bytes) ≡ 64
length-whole_hash_of bytes =
    let long = length-encode_with lower_digits (sha256 bytes) in
    let short = length-sha256 bytes in
    omega arith

pub ascii_cut : (text : List ℕ) (n : ℕ) → IsAscii text → n ≤ length text → IsSplitPoint text n
ascii_cut text n ascii within = (within, λ _ _ high. absurd (let low = ascii n in omega arith))
