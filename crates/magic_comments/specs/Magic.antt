-- What magic comments say (webpack docs, "Magic Comments").
use Rattle.std.specs.Prelude.{ℕ, Bool, true, false, ◌&&◌, ◌==◌, ◌+◌, List, [], ◌∷◌, ◌++◌, None, Some, Result, Ok, Err, codes, length, slice_range, if◌then◌else◌}
use Rattle.std.specs.Str.{bytes_eq}
use Rattle.es_tokens.specs.Answers.{answers_of}
use Rattle.es_tokens.specs.Tokens.{tokens_of}
use Rattle.es_tokens.specs.declared.token.LexToken.{LexToken}
use Rattle.es_tokens.specs.declared.token.Token.{Token}
use Rattle.es_tokens.specs.declared.token.TokenFault.{TokenFault}
use Rattle.form_shapes.specs.Source.{text_at, is_at, end_at, start_at}
use Rattle.form_shapes.specs.declared.standing.Standing.{Standing}
use Rattle.form_shapes.specs.declared.standing.Standing.TheVariants.{ImportCall, OddImport}
use Rattle.form_shapes.specs.declared.sign.Sign.TheVariants as sign
use Rattle.graph_types.specs.declared.note.NoteKind.{NoteKind}
use Rattle.graph_types.specs.declared.note.NoteKind.TheVariants.{N3, N4}
use Rattle.path_text.specs.Path.{is_normal}
use Rattle.magic_comments.specs.Comments.{begins, block_comments, content_of}
use Rattle.magic_comments.specs.Pairs.{pairs, are_pairs, is_clean}
use Rattle.form_shapes.specs.Text.{unquoted}
use Rattle.magic_comments.specs.declared.magic.Magic.{Magic}

abbrev pub no_magic : Magic
no_magic = record { name = None; eager = false; ignored = false; notes = [] }

abbrev pub noted : ℕ → NoteKind → List ℕ → Magic → Magic
noted at kind detail magic = record magic { notes = magic.notes ++ record { at = at; kind = kind; detail = detail } ∷ [] }

-- a value of a key that the key doesn't take
abbrev pub misread : ℕ → Magic → Magic
misread at magic = noted at N4 [] magic

-- a text, of which the empty one is no name
abbrev pub read_name : ℕ → List ℕ → Magic → Magic
read_name at name magic =
    if length name == 0 then record magic { name = None }
    else (if is_normal name then record magic { name = Some name }
    else misread at (record magic { name = None }))

-- `webpackMode`: "lazy" or "eager"
abbrev pub read_mode : ℕ → List ℕ → Magic → Magic
read_mode at mode magic =
    if bytes_eq mode (codes "lazy") then record magic { eager = false }
    else (if bytes_eq mode (codes "eager") then record magic { eager = true }
    else misread at magic)

-- `webpackIgnore`: `true` or `false`
abbrev pub read_ignore : ℕ → List ℕ → Magic → Magic
read_ignore at value magic =
    if bytes_eq value (codes "true") then record magic { ignored = true }
    else (if bytes_eq value (codes "false") then record magic { ignored = false }
    else misread at magic)

-- the value of one of these keys, where it is a string
abbrev pub read_string : Bool → (List ℕ → Magic → Magic) → ℕ → List ℕ → Magic → Magic
read_string is_string read at value magic = if is_string then read (unquoted value) magic else misread at magic

-- a key, whether its value is a string, and the value's bytes
abbrev pub read_value : ℕ → List ℕ → Bool → List ℕ → Magic → Magic
read_value at key is_string value magic =
    if bytes_eq key (codes "webpackChunkName") then read_string is_string (read_name at) at value magic
    else (if bytes_eq key (codes "webpackMode") then read_string is_string (read_mode at) at value magic
    else (if bytes_eq key (codes "webpackIgnore") then read_ignore at value magic
    else noted at N3 key magic))

-- a pair of a key, a colon and a value
unfoldable pub read_pair : List ℕ → ℕ → Magic → List Token → Magic
read_pair content at magic pair =
    read_value at (text_at content pair 0) (is_at content pair sign.Str 2) (text_at content pair 2) magic

-- pairs, one after another
abbrev pub read_pairs : List ℕ → ℕ → Magic → List (List Token) → Magic
read_pairs content at magic [] = magic
read_pairs content at magic (pair ∷ more) = read_pairs content at (read_pair content at magic pair) more

-- the comment's first token is a name that begins with `webpack`, and no comment stands before it
abbrev pub is_magic_token : List ℕ → LexToken → Bool
is_magic_token content token =
    is_clean (slice_range content 0 token.span.start)
    && begins (slice_range content token.span.start token.span.end) (codes "webpack")

abbrev pub is_magic_first : List ℕ → List (Result LexToken TokenFault) → Bool
is_magic_first content [] = false
is_magic_first content (Ok token ∷ answers) = is_magic_token content token
is_magic_first content (Err fault ∷ answers) = false

unfoldable pub is_magic : List ℕ → Bool
is_magic content = is_magic_first content (answers_of 4096 content)

-- a comment of this content, once it is known to be magic
abbrev pub read_tokens : List ℕ → ℕ → Magic → Result (List Token) TokenFault → Magic
read_tokens content at magic (Ok tokens) =
    if are_pairs content tokens then read_pairs content at magic (pairs content tokens) else misread at magic
read_tokens content at magic (Err fault) = misread at magic

-- the comment at an offset
unfoldable pub read_comment : Magic → ℕ × List ℕ → Magic
read_comment magic (at, content) = if is_magic content then read_tokens content at magic (tokens_of content) else magic

-- what stands first in a gap: a comment is read, and all else is passed over
abbrev pub after_front : Magic → ℕ → List ℕ → Magic
after_front magic at bytes = if begins bytes (codes "/*") then read_comment magic (at, content_of bytes) else magic

-- comments, one after another, so that of equal keys the last counts
abbrev pub read_comments : Magic → List (ℕ × List ℕ) → Magic
read_comments magic [] = magic
read_comments magic (comment ∷ comments) = read_comments (read_comment magic comment) comments

-- what the comments between a call's bracket and the token behind it say
abbrev pub magic_behind : List ℕ → List Token → ℕ → Magic
magic_behind text tokens bracket =
    read_comments no_magic (block_comments 0 (end_at tokens bracket) (slice_range text (end_at tokens bracket) (start_at tokens (bracket + 1))))

-- of what stands at a token, where it is a call of `import`
abbrev pub magic_by : List ℕ → List Token → ℕ → Standing → Magic
magic_by text tokens at (ImportCall form) = magic_behind text tokens (at + 1)
magic_by text tokens at OddImport = magic_behind text tokens (at + 1)
magic_by text tokens at _ = no_magic
