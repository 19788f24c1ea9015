-- Templates of asset names (webpack, output.filename and "Template strings"; this project has these four marks).
-- A text is the list of its bytes, and a hash whose mark names no length has `digits` digits.
use Rattle.std.specs.Prelude.{◌≡◌, ℕ, Bool, true, false, not, ◌&&◌, ◌||◌, ◌==◌, ◌⊎◌, List, [], ◌∷◌, ◌++◌, codes, bytes_eq, IsTrue}
use Rattle.std.specs.Fmt.{decimal}
use Rattle.std.specs.List.{AllZip, concat, flat_map, list_all, list_any}
use Rattle.graph_types.specs.declared.part.Part.{Part}
use Rattle.graph_types.specs.declared.part.Part.TheVariants.{Fixed, Name, Id, Hash}
use Rattle.graph_types.specs.Parts.{is_part}
use Rattle.path_text.specs.Path.{IsNormal}

-- how a part may be written
abbrev pub IsSpelling : ℕ → Part → List ℕ → Type 0
IsSpelling digits (Fixed text) spelling = spelling ≡ text
IsSpelling digits Name spelling = spelling ≡ codes "[name]"
IsSpelling digits Id spelling = spelling ≡ codes "[id]"
IsSpelling digits (Hash n) spelling =
    (spelling ≡ codes "[contenthash:" ++ decimal n ++ codes "]") ⊎ ((n ≡ digits) × (spelling ≡ codes "[contenthash]"))

-- the text is what the parts are written as, put end to end
abbrev pub IsSpelled : ℕ → List Part → List ℕ → Type 0
IsSpelled digits parts text =
    (spellings : List (List ℕ)) × AllZip (IsSpelling digits) parts spellings × (text ≡ concat spellings)

-- `[` or `]`
abbrev pub is_bracket : ℕ → Bool
is_bracket byte = byte == 91 || byte == 93

-- a fixed text has a byte and no bracket
abbrev pub is_sound : Part → Bool
is_sound (Fixed text) = not (bytes_eq text []) && not (list_any is_bracket text)
is_sound Name = true
is_sound Id = true
is_sound (Hash n) = true

abbrev pub is_fixed : Part → Bool
is_fixed (Fixed text) = true
is_fixed Name = false
is_fixed Id = false
is_fixed (Hash n) = false

abbrev pub begins_fixed : List Part → Bool
begins_fixed [] = false
begins_fixed (part ∷ parts) = is_fixed part

-- no two fixed texts stand side by side
abbrev pub are_apart : List Part → Bool
are_apart [] = true
are_apart (part ∷ parts) = not (is_fixed part && begins_fixed parts) && are_apart parts

-- a fixed text, or `a` in place of a mark
abbrev pub letter_for : Part → List ℕ
letter_for (Fixed text) = text
letter_for Name = codes "a"
letter_for Id = codes "a"
letter_for (Hash n) = codes "a"

-- the parts are the template of the text
pub record IsTemplateOf (digits : ℕ) (text : List ℕ) (parts : List Part) : Type 0 where
  pub spelled : IsSpelled digits parts text
  pub sound : IsTrue (list_all is_sound parts)
  pub apart : IsTrue (are_apart parts)
  -- a hash has 1 to 64 digits
  pub in_range : IsTrue (list_all is_part parts)
  pub normal : IsNormal (flat_map letter_for parts)
