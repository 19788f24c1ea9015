-- What a punctuator is to the tokens behind it (this project).
use Rattle.std.specs.Prelude.{ℕ, ◌||◌, List, Option, None, Some, codes, if◌then◌else◌, unwrap_or}
use Rattle.std.specs.Str.{bytes_eq}
use Rattle.es_tokens.specs.declared.role.Bracket.TheVariants.{Round, Square, Curly}
use Rattle.es_tokens.specs.declared.role.Role.{Role}
use Rattle.es_tokens.specs.declared.role.Role.TheVariants.{Value, Dot, Open, Close, Operator, Stop}

abbrev pub bracket_role : List ℕ → Option Role
bracket_role text =
    if bytes_eq text (codes "(") then Some (Open Round)
    else (if bytes_eq text (codes ")") then Some (Close Round)
    else (if bytes_eq text (codes "{") then Some (Open Curly)
    else (if bytes_eq text (codes "}") then Some (Close Curly)
    else (if bytes_eq text (codes "[") then Some (Open Square)
    else (if bytes_eq text (codes "]") then Some (Close Square) else None)))))

-- behind all but these a value has to follow
abbrev pub punctuator_role : List ℕ → Role
punctuator_role text =
    if bytes_eq text (codes ".") || bytes_eq text (codes "?.") then Dot
    else (if bytes_eq text (codes ";") || bytes_eq text (codes "=>") then Stop
    else (if bytes_eq text (codes "++") || bytes_eq text (codes "--") then Value
    else unwrap_or (bracket_role text) Operator))
