-- The segments that neither a target nor what a `*` stands for may have (Node.js, "Package entry points").
use Rattle.std.specs.Prelude.{ℕ, Bool, ◌||◌, ◌==◌, List, map, bytes_eq, codes}
use Rattle.std.specs.Char.{to_ascii_lowercase}
use Rattle.std.specs.List.{slice_split, list_any}

-- the byte `/`
abbrev pub is_slash : ℕ → Bool
is_slash byte = byte == 47

-- `.`, `..`, or `node_modules` in any ASCII case
abbrev pub is_refused_segment : List ℕ → Bool
is_refused_segment segment = bytes_eq segment (codes ".") || bytes_eq segment (codes "..")
    || bytes_eq (map to_ascii_lowercase segment) (codes "node_modules")

-- whether some segment of a text is one of them; the text is split at `/` alone, and a segment may be
-- empty (this project)
abbrev pub has_refused_segment : List ℕ → Bool
has_refused_segment text = list_any is_refused_segment (slice_split is_slash text)
