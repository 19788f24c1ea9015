-- The hash in an asset's name: SHA-256 (FIPS 180-4, section 6.2) in lower-case hexadecimal digits (this project).
use Rattle.std.specs.Prelude.{ℕ, List, take}
use Rattle.hex.specs.Hex.{encode_lower}
use Rattle.sha2.specs.Sha256.{sha256}

-- the 64 digits of the hash of some bytes
abbrev pub whole_hash_of : List ℕ → List ℕ
whole_hash_of bytes = encode_lower (sha256 bytes)

-- the first digits of it
abbrev pub hash_of : List ℕ → ℕ → List ℕ
hash_of bytes digits = take digits (whole_hash_of bytes)
