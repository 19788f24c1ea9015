-- What some tokens give, all lists of it at once (this project).
use Rattle.std.specs.Prelude.{ℕ, false, ◌||◌, List, [], ◌++◌, option_to_list}
use Rattle.es_tokens.specs.declared.token.Token.{Token}
use Rattle.form_shapes.specs.declared.standing.Standing.{Standing}
use Rattle.es_scan.specs.Binds.{binds_by}
use Rattle.es_scan.specs.Edits.{edits_by, hashbang_edits}
use Rattle.es_scan.specs.Exports.{exports_by}
use Rattle.es_scan.specs.Flaws.{flaws_by, repeats}
use Rattle.es_scan.specs.Items.{item_by}
use Rattle.es_scan.specs.Notes.{notes_by}
use Rattle.es_scan.specs.Scan.{upto, any_upto, items_at, binds_at, exports_at, stars_at, edits_at, notes_at, flaws_at, declares_at, export_names, local_names}
use Rattle.es_scan.specs.Stars.{stars_by, is_declaration}
use Rattle.es_scan.specs.declared.given.Given.{Given}
use Rattle.magic_comments.specs.declared.magic.Magic.{Magic}

abbrev pub nothing_given : Given
nothing_given = record { items = []; binds = []; exports = []; stars = []; edits = []; notes = []; flaws = []; es = false }

abbrev pub joined : Given → Given → Given
joined given more = record {
  items = given.items ++ more.items;
  binds = given.binds ++ more.binds;
  exports = given.exports ++ more.exports;
  stars = given.stars ++ more.stars;
  edits = given.edits ++ more.edits;
  notes = given.notes ++ more.notes;
  flaws = given.flaws ++ more.flaws;
  es = given.es || more.es;
}

-- what stands at a token gives, without the names that stand among earlier ones
abbrev pub given_by : List ℕ → List Token → ℕ → ℕ → Magic → Standing → Given
given_by text tokens item at magic standing = record {
  items = option_to_list (item_by text tokens at magic standing);
  binds = binds_by text tokens item at standing;
  exports = exports_by text tokens item at standing;
  stars = stars_by item standing;
  edits = edits_by text tokens item at magic standing;
  notes = notes_by tokens at magic standing;
  flaws = flaws_by text tokens at magic standing;
  es = is_declaration standing;
}

abbrev pub given_at : List ℕ → List Token → ℕ → Given
given_at text tokens at = record {
  items = items_at text tokens at;
  binds = binds_at text tokens at;
  exports = exports_at text tokens at;
  stars = stars_at text tokens at;
  edits = edits_at text tokens at;
  notes = notes_at text tokens at;
  flaws = flaws_at text tokens at;
  es = declares_at text tokens at;
}

-- names that stand among earlier ones, exported and then local ones
abbrev pub with_repeats : ℕ → List (List ℕ) → List (List ℕ) → Given → Given
with_repeats offset exported bound given = record given {
  flaws = given.flaws
      ++ (repeats offset exported (export_names given.exports) ++ repeats offset bound (local_names given.binds));
}

-- the `#!` line, and what the tokens before a number give
abbrev pub given_upto : List ℕ → List Token → ℕ → Given
given_upto text tokens at = record {
  items = upto (items_at text tokens) at;
  binds = upto (binds_at text tokens) at;
  exports = upto (exports_at text tokens) at;
  stars = upto (stars_at text tokens) at;
  edits = hashbang_edits text ++ upto (edits_at text tokens) at;
  notes = upto (notes_at text tokens) at;
  flaws = upto (flaws_at text tokens) at;
  es = any_upto (declares_at text tokens) at;
}
