-- What the lexer's step shows of the step.
use Rattle.std.specs.Prelude.{ℕ, ◌≡◌, ◌≤◌, List, None, length}
use Rattle.std.specs.Str.{chars}
use Rattle.es_tokens.specs.TokenRole.{role_in}
use Rattle.es_tokens.specs.Misplaced.{misplaced}
use Rattle.es_tokens.specs.Step as step
use Rattle.es_tokens.specs.declared.context.Opened.{Opened}
use Rattle.es_tokens.specs.declared.step.Next.{Next}
use Rattle.es_tokens.specs.declared.step.Next.TheVariants.{End, Token, Fault}

-- a token comes with its role, and its bracket is in place
abbrev pub IsNext : ℕ → List ℕ → List Opened → Next → step.Next → Type 0
IsNext most text brackets End told = told ≡ step.ends
IsNext most text brackets (Token found role rest) told =
    (told ≡ step.token found (chars rest.now)) × (role ≡ role_in text found) × (misplaced most brackets role ≡ None)
    × (length rest.now ≤ length text)
IsNext most text brackets (Fault fault) told = told ≡ step.fails fault
