use Rattle.std.proofs.Common.{◌≡◌, ◌∙◌, length, ap, subst, sym, arith}
use Rattle.std.specs.Prelude.{string_bytes}
use Rattle.std.specs.Str.{IsAscii}
use Rattle.asset_names.proofs.Hashes.{ascii_cut, whole_hash_of-ascii, length-whole_hash_of}
use Rattle.asset_names.proofs.hash.content_hash.Goals as goal

pub truncate-requires : goal.truncate-requires
truncate-requires c = λ within.
    let long : length (string_bytes c.in_ok-text.text) ≡ 64 = ap length c.in_ok-text.ensures ∙ length-whole_hash_of c.args.bytes.now in
    ascii_cut _ c.args.digits (subst IsAscii (sym c.in_ok-text.ensures) (whole_hash_of-ascii c.args.bytes.now)) (omega (arith, long, c.requires.at_most_all))
