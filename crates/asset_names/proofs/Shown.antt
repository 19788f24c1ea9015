-- What parts show from the hash that is made for them is what they show of the bytes.
use Rattle.std.proofs.Common.{◌≡◌, ℕ, Bool, true, false, cond, List, [], ◌∷◌, ◌++◌, take, Option, refl, ap, ◌∙◌}
use Rattle.std.proofs.lemmas.Bool.{or_left, or_right}
use Rattle.std.proofs.lemmas.Str.Ascii.{IsAscii-nil}
use Rattle.std.specs.List.{flat_map, list_any}
use Rattle.std.specs.Str.{IsAscii}
use Rattle.graph_types.specs.declared.part.Part.{Part}
use Rattle.graph_types.specs.declared.part.Part.TheVariants.{Fixed, Name, Id, Hash}
use Rattle.asset_names.specs.Hash.{whole_hash_of}
use Rattle.asset_names.specs.Names.{name_from, shown_part}
use Rattle.asset_names.specs.inner.Shown.{hash_in, is_hash, shown_with}
use Rattle.asset_names.proofs.Hashes.{whole_hash_of-ascii}

shown_one : (name : Option (List ℕ)) (id : ℕ) (bytes hash : List ℕ) (part : Part) → (is_hash part ≡ true → hash ≡ whole_hash_of bytes) → shown_with name id hash part ≡ shown_part name id bytes part
shown_one name id bytes hash (Fixed text) needs = refl
shown_one name id bytes hash Name needs = refl
shown_one name id bytes hash Id needs = refl
shown_one name id bytes hash (Hash digits) needs = ap (take digits) (needs refl)

shown_all : (name : Option (List ℕ)) (id : ℕ) (bytes hash : List ℕ) (parts : List Part) → (list_any is_hash parts ≡ true → hash ≡ whole_hash_of bytes) → flat_map (shown_with name id hash) parts ≡ flat_map (shown_part name id bytes) parts
shown_all name id bytes hash [] needs = refl
shown_all name id bytes hash (part ∷ parts) needs =
    let first = shown_one name id bytes hash part (λ e. needs (or_left _ _ e)) in
    let rest = shown_all name id bytes hash parts (λ e. needs (or_right _ _ e)) in
    ap (λ (xs : List ℕ). xs ++ flat_map (shown_with name id hash) parts) first ∙ ap (λ (xs : List ℕ). shown_part name id bytes part ++ xs) rest

pub shown-name_from : (name : Option (List ℕ)) (id : ℕ) (bytes hash : List ℕ) (parts : List Part) → hash ≡ hash_in parts bytes → flat_map (shown_with name id hash) parts ≡ name_from parts name id bytes
shown-name_from name id bytes hash parts e =
    shown_all name id bytes hash parts (λ any. e ∙ ap (λ (b : Bool). cond b (whole_hash_of bytes) []) any)

ascii_by : (bytes : List ℕ) (any : Bool) → IsAscii (cond any (whole_hash_of bytes) [])
ascii_by bytes true = whole_hash_of-ascii bytes
ascii_by bytes false = IsAscii-nil

pub hash_in-ascii : (parts : List Part) (bytes : List ℕ) → IsAscii (hash_in parts bytes)
hash_in-ascii parts bytes = ascii_by bytes (list_any is_hash parts)
