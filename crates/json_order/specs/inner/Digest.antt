-- What the hashes of a text's keys begin with (this project; SipHash-1-3).
use Rattle.std.specs.Prelude.{ℕ, List, fold}
use Rattle.std.specs.Hash.{u64}
use Rattle.std.specs.Hash.DefaultHasher as sip
use Rattle.std.specs.declared.hash.DefaultHasher.{DefaultHasher}

-- a digest of all bytes of the text
abbrev pub digest : List ℕ → ℕ
digest text = sip.finish (sip.write sip.initial text)

-- the hasher of a key, behind the digest
abbrev pub hasher_with : ℕ → DefaultHasher
hasher_with digest = fold sip.write sip.initial (u64 digest)
