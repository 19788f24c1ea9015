use Rattle.std.proofs.Common.{List, ℕ, map, ap, ◌∙◌}
use Rattle.std.specs.Borrow.{Bor}
use Rattle.std.specs.List.{join_by}
use Rattle.pkg_exports.specs.Keys.{is_star}
use Rattle.pkg_exports.proofs.Joins.{join_map, join_split}
use Rattle.pkg_exports.proofs.text.filled.Goals as goal

pub returns : goal.returns
returns c =
    c.from_string.ensures ∙ c.in_ok-join.ensures.ok
    ∙ join_map (λ (piece : Bor (List ℕ)). piece.now) c.args.star.now c.deref.result.now
    ∙ ap (λ pieces. join_by (λ x. x) c.args.star.now (map (λ (piece : Bor (List ℕ)). piece.now) pieces)) c.deref.ensures.value
    ∙ ap (join_by (λ x. x) c.args.star.now) c.in_ok-pieces.ensures
    ∙ join_split c.args.star.now is_star c.args.text.now
