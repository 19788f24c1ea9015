-- The byte order mark in UTF-8 (RFC 8259 section 8.1, The Unicode Standard section 23.8).
use Rattle.std.specs.Prelude.{ℕ, List, [], ◌∷◌}

abbrev pub byte_order_mark : List ℕ
byte_order_mark = 0xEF ∷ 0xBB ∷ 0xBF ∷ []
