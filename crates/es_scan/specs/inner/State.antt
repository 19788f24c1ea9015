-- What the scanner keeps once it has read the tokens before a number (this project).
use Rattle.std.specs.Prelude.{◌≡◌, ℕ, List}
use Rattle.es_tokens.specs.declared.token.Token.{Token}
use Rattle.es_scan.specs.Scan.{upto, export_names, local_names, exports_at, binds_at}
use Rattle.es_scan.specs.inner.Given.{given_upto}
use Rattle.es_scan.specs.inner.Seen.{HasNames}
use Rattle.es_scan.specs.declared.scanner.State.{State}

pub record IsUpto (text : List ℕ) (tokens : List Token) (at : ℕ) (state : State) : Type 0 where
  pub given : state.given ≡ given_upto text tokens at
  pub exported : HasNames state.exported (export_names (upto (exports_at text tokens) at))
  pub bound : HasNames state.bound (local_names (upto (binds_at text tokens) at))
