-- The characters that tokens and gaps are made of (ECMA-262 12.2, 12.3, 12.7; identifiers by XID_Start and XID_Continue).
use Rattle.std.specs.Prelude.{ℕ, Bool, not, ◌||◌, ◌&&◌, ◌==◌, List, nat_le}
use Rattle.std.specs.List.{list_any}
use Rattle.std.specs.Char.{is_ascii_digit, is_ascii_hexdigit}
use Rattle.unicode_ident.specs.Ident.{is_xid_start, is_xid_continue}

-- white space
unfoldable pub is_white : ℕ → Bool
is_white c =
    c == 0x09 || c == 0x0b || c == 0x0c || c == 0x20 || c == 0xa0 || c == 0x1680 || (nat_le 0x2000 c && nat_le c 0x200a)
    || c == 0x202f || c == 0x205f || c == 0x3000 || c == 0xfeff

-- LF, CR, U+2028, U+2029
unfoldable pub is_terminator : ℕ → Bool
is_terminator c = c == 0x0a || c == 0x0d || c == 0x2028 || c == 0x2029

-- a line terminator is among these
abbrev pub holds_terminator : List ℕ → Bool
holds_terminator cs = list_any is_terminator cs

unfoldable pub is_blank : ℕ → Bool
is_blank c = is_white c || is_terminator c

-- `$`, `_` or XID start
unfoldable pub is_name_start : ℕ → Bool
is_name_start c = c == 0x24 || c == 0x5f || is_xid_start c

-- `$`, XID continue, U+200C or U+200D
unfoldable pub is_name_part : ℕ → Bool
is_name_part c = c == 0x24 || is_xid_continue c || c == 0x200c || c == 0x200d

-- XID continue, `$` or `.`
unfoldable pub is_number_part : ℕ → Bool
is_number_part c = c == 0x24 || c == 0x2e || is_xid_continue c

-- XID continue or `$`
unfoldable pub is_flag : ℕ → Bool
is_flag c = c == 0x24 || is_xid_continue c

unfoldable pub is_digit : ℕ → Bool
is_digit c = is_ascii_digit c

unfoldable pub is_hex : ℕ → Bool
is_hex c = is_ascii_hexdigit c

-- in a string: no backslash, LF or CR
unfoldable pub is_string_char : ℕ → Bool
is_string_char c = not (c == 0x5c || c == 0x0a || c == 0x0d)

-- in a template: no backquote, backslash or `$`
unfoldable pub is_template_char : ℕ → Bool
is_template_char c = not (c == 0x60 || c == 0x5c || c == 0x24)

-- in a regular expression: no backslash, `[`, `/` or line terminator
unfoldable pub is_regex_char : ℕ → Bool
is_regex_char c = not (c == 0x5c || c == 0x5b || c == 0x2f || is_terminator c)

-- in a class of a regular expression: no backslash, `]` or line terminator
unfoldable pub is_class_char : ℕ → Bool
is_class_char c = not (c == 0x5c || c == 0x5d || is_terminator c)
