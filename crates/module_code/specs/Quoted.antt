-- Texts within JavaScript (RFC 8259 section 7, as serde_json writes a string), and lists with commas.
use Rattle.std.specs.Prelude.{ℕ, List}
use Rattle.std.specs.List.{join_with_byte}
use Rattle.serde_json.specs.Data.{string}
use Rattle.serde_json.specs.Written.{compact_text}

-- a text as a JSON string
unfoldable pub quoted_text : List ℕ → List ℕ
quoted_text text = compact_text (string text)

-- the parts in a row, with a comma (44) between each two
abbrev pub with_commas : List (List ℕ) → List ℕ
with_commas parts = join_with_byte 44 parts
