use Rattle.std.proofs.Common.{◌≡◌, false, length, replicate, sym, ap, subst, ◌∙◌}
use Rattle.std.proofs.lemmas.List.{length-replicate}
use Rattle.graph_types.specs.Reached.{HoldsAll}
use Rattle.make_rounds.specs.inner.Found.{file_counts, marked}
use Rattle.make_rounds.proofs.Rows.{none_marked}
use Rattle.make_rounds.proofs.found.Found.new.Goals as goal

pub returns-clause-counted : goal.returns-clause-counted
returns-clause-counted c =
    let count = c.count-count.result in
    let row : c.in_ok-new.field-0 ≡ replicate count false = c.in_ok-new.ensures in
    record {
      as_many = ap length row ∙ length-replicate count false ∙ c.count-count.ensures.count;
      counts = c.none.ensures ∙ ap (file_counts c.args.listing.now.files) (sym (ap marked row ∙ none_marked 0 count));
    }

pub returns-clause-none : goal.returns-clause-none
returns-clause-none c = λ set. subst (HoldsAll set) (sym (ap marked c.in_ok-new.ensures ∙ none_marked 0 c.count-count.result)) tt
