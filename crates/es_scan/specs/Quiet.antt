-- A text without the keywords of forms gives nothing (this project).
use Rattle.std.specs.Prelude.{◌≡◌, ℕ, false, List, []}
use Rattle.es_tokens.specs.declared.token.Token.{Token}
use Rattle.form_shapes.specs.Source.{is_at}
use Rattle.form_shapes.specs.declared.sign.Sign.TheVariants as sign
use Rattle.es_scan.specs.Edits.{hashbang_edits}
use Rattle.es_scan.specs.declared.scanned.Scan.{Scan}

-- no token is `import`, `export` or `require`
pub record IsQuiet (text : List ℕ) (tokens : List Token) : Type 0 where
  pub imports : (at : ℕ) → is_at text tokens sign.Import at ≡ false
  pub exports : (at : ℕ) → is_at text tokens sign.Export at ≡ false
  pub requires : (at : ℕ) → is_at text tokens sign.Require at ≡ false

-- nothing but the edit of a `#!`
abbrev pub quiet_scan : List ℕ → Scan
quiet_scan text = record {
  items = [];
  binds = [];
  exports = [];
  stars = [];
  edits = hashbang_edits text;
  notes = [];
  faults = [];
  es = false;
}
