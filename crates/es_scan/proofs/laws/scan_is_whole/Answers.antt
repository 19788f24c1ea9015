use Rattle.std.proofs.Common.{subst}
use Rattle.es_tokens.specs.AreTokens.{AreTokens}
use Rattle.es_scan.proofs.HashbangLemmas.{first-edits}
use Rattle.es_scan.proofs.OrderLemmas.{AreKnown, all-lie}
use Rattle.es_scan.proofs.WholeLemmas.{whole}
use Rattle.es_scan.specs.Edits.{hashbang_edits}
use Rattle.es_scan.proofs.laws.scan_is_whole.Goals as goal

pub returns : goal.returns
returns c = λ path text tokens short told.
    let are = (c.one_list_or_one_fault.ensures.tokens text tokens).1 told in
    let order = c.spans_lie_in_order.ensures.order text tokens are in
    let known : AreKnown text tokens = record {
      order = order;
      there = c.parts_stand_behind_the_keyword.ensures.there text tokens;
      parts = c.parts_stand_behind_the_keyword.ensures.parts text tokens;
      words = c.other_words_begin_no_form.ensures text tokens;
      apart = λ at form. c.forms_stand_apart.ensures text tokens at form are;
    } in
    let first = first-edits text tokens (λ more token behind same begins.
    c.tokens_stand_behind_a_hashbang.ensures text more token behind (subst (AreTokens text) same are) begins) in
    whole text tokens path short order (c.spans_lie_in_order.ensures.count text tokens are)
    (all-lie text tokens known (hashbang_edits text) first.base first.lie first.within first.before)
