-- The tests of characters at the literals that machines name.
use Rattle.std.proofs.Common.{◌≡◌, true, false, refl, lit<}
use Rattle.unicode_ident.proofs.IdentLemmas.{is_xid_start-ascii, is_xid_continue-ascii}
use Rattle.es_tokens.specs.Characters.{is_white, is_terminator, is_blank, is_name_start, is_name_part, is_number_part, is_digit, is_hex, is_string_char, is_template_char, is_regex_char, is_class_char}

pub is_hex-48 : is_hex 48 ≡ true
unfolding is_hex
is_hex-48 = refl

pub is_hex-49 : is_hex 49 ≡ true
unfolding is_hex
is_hex-49 = refl

pub is_hex-125 : is_hex 125 ≡ false
unfolding is_hex
is_hex-125 = refl

pub is_hex-123 : is_hex 123 ≡ false
unfolding is_hex
is_hex-123 = refl

pub is_name_start-92 : is_name_start 92 ≡ false
unfolding is_name_start
is_name_start-92 = rw (is_xid_start-ascii 92 (lit< tt)) refl

pub is_name_part-92 : is_name_part 92 ≡ false
unfolding is_name_part
is_name_part-92 = rw (is_xid_continue-ascii 92 (lit< tt)) refl

pub is_number_part-43 : is_number_part 43 ≡ false
unfolding is_number_part
is_number_part-43 = rw (is_xid_continue-ascii 43 (lit< tt)) refl

pub is_number_part-45 : is_number_part 45 ≡ false
unfolding is_number_part
is_number_part-45 = rw (is_xid_continue-ascii 45 (lit< tt)) refl

pub is_number_part-101 : is_number_part 101 ≡ true
unfolding is_number_part
is_number_part-101 = rw (is_xid_continue-ascii 101 (lit< tt)) refl

pub is_number_part-69 : is_number_part 69 ≡ true
unfolding is_number_part
is_number_part-69 = rw (is_xid_continue-ascii 69 (lit< tt)) refl

pub is_string_char-92 : is_string_char 92 ≡ false
unfolding is_string_char
is_string_char-92 = refl

pub is_string_char-10 : is_string_char 10 ≡ false
unfolding is_string_char
is_string_char-10 = refl

pub is_string_char-13 : is_string_char 13 ≡ false
unfolding is_string_char
is_string_char-13 = refl

pub is_template_char-96 : is_template_char 96 ≡ false
unfolding is_template_char
is_template_char-96 = refl

pub is_template_char-92 : is_template_char 92 ≡ false
unfolding is_template_char
is_template_char-92 = refl

pub is_template_char-36 : is_template_char 36 ≡ false
unfolding is_template_char
is_template_char-36 = refl

pub is_template_char-123 : is_template_char 123 ≡ true
unfolding is_template_char
is_template_char-123 = refl

pub is_regex_char-92 : is_regex_char 92 ≡ false
unfolding is_regex_char is_terminator
is_regex_char-92 = refl

pub is_regex_char-91 : is_regex_char 91 ≡ false
unfolding is_regex_char is_terminator
is_regex_char-91 = refl

pub is_regex_char-47 : is_regex_char 47 ≡ false
unfolding is_regex_char is_terminator
is_regex_char-47 = refl

pub is_regex_char-42 : is_regex_char 42 ≡ true
unfolding is_regex_char is_terminator
is_regex_char-42 = refl

pub is_class_char-92 : is_class_char 92 ≡ false
unfolding is_class_char is_terminator
is_class_char-92 = refl

pub is_class_char-93 : is_class_char 93 ≡ false
unfolding is_class_char is_terminator
is_class_char-93 = refl

pub is_terminator-92 : is_terminator 92 ≡ false
unfolding is_terminator
is_terminator-92 = refl

pub is_terminator-10 : is_terminator 10 ≡ true
unfolding is_terminator
is_terminator-10 = refl

pub is_terminator-13 : is_terminator 13 ≡ true
unfolding is_terminator
is_terminator-13 = refl

pub is_terminator-47 : is_terminator 47 ≡ false
unfolding is_terminator
is_terminator-47 = refl

pub is_terminator-42 : is_terminator 42 ≡ false
unfolding is_terminator
is_terminator-42 = refl

pub is_terminator-33 : is_terminator 33 ≡ false
unfolding is_terminator
is_terminator-33 = refl

pub is_terminator-35 : is_terminator 35 ≡ false
unfolding is_terminator
is_terminator-35 = refl

pub is_white-47 : is_white 47 ≡ false
unfolding is_white
is_white-47 = refl

pub is_white-42 : is_white 42 ≡ false
unfolding is_white
is_white-42 = refl

pub is_white-10 : is_white 10 ≡ false
unfolding is_white
is_white-10 = refl

pub is_white-13 : is_white 13 ≡ false
unfolding is_white
is_white-13 = refl

pub is_white-35 : is_white 35 ≡ false
unfolding is_white
is_white-35 = refl

pub is_digit-48 : is_digit 48 ≡ true
unfolding is_digit
is_digit-48 = refl

pub is_digit-46 : is_digit 46 ≡ false
unfolding is_digit
is_digit-46 = refl

pub is_blank-47 : is_blank 47 ≡ false
unfolding is_blank is_white is_terminator
is_blank-47 = refl

pub is_blank-35 : is_blank 35 ≡ false
unfolding is_blank is_white is_terminator
is_blank-35 = refl

pub ruleset literals = (is_blank-47, is_blank-35, is_hex-48, is_hex-49, is_hex-125, is_hex-123, is_name_start-92, is_name_part-92, is_number_part-43, is_number_part-45, is_number_part-101, is_number_part-69, is_string_char-92, is_string_char-10, is_string_char-13, is_template_char-96, is_template_char-92, is_template_char-36, is_template_char-123, is_regex_char-92, is_regex_char-91, is_regex_char-47, is_regex_char-42, is_class_char-92, is_class_char-93, is_terminator-92, is_terminator-10, is_terminator-13, is_terminator-47, is_terminator-42, is_terminator-33, is_terminator-35, is_white-47, is_white-42, is_white-10, is_white-13, is_white-35, is_digit-48, is_digit-46)
