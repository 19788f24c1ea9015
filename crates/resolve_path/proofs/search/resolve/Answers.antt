use Rattle.std.proofs.Common.{[], cond, Some, sym, ap, ◌∙◌}
use Rattle.resolve_path.proofs.Asking.{asked_none, asked_some, resolution_is}
use Rattle.resolve_path.proofs.Finding.{answer_end}
use Rattle.resolve_path.specs.Requests.{is_relative}
use Rattle.resolve_path.specs.inner.Parts.{replaced_by}
use Rattle.resolve_path.proofs.search.resolve.Goals as goal

pub returns-in-Some-clause-keeps : goal.returns-in-Some-clause-keeps
returns-in-Some-clause-keeps g c = λ tree told. (c.located.ensures.told tree told).keeps

pub returns-in-Some-clause-finds : goal.returns-in-Some-clause-finds
returns-in-Some-clause-finds g c = λ tree told of all reading is.
    answer_end c.located.result _ _
    (resolution_is tree c.args.listing.now of reading c.args.config.now c.args.kind c.args.folder.now c.args.request.now (record { base = c.base_of-base.result.now; request = c.get-in-Some.result.now })
    (asked_some c.args.config.now.alias c.args.folder.now c.args.request.now c.get-in-Some.result.now c.base_of-base.result.now
    (ap Some c.get-in-Some.ensures ∙ sym c.in-Some.is ∙ c.in_ok-other.ensures ∙ ap (λ aliases. replaced_by aliases c.args.request.now) c.as_slice.ensures)
    (c.base_of-base.ensures ∙ ap (λ other. cond (is_relative other) [] c.args.folder.now) (c.get.ensures ∙ sym c.get-in-Some.ensures))))
    ((c.located.ensures.told tree told).is of all reading is)

pub returns-in-None-clause-keeps : goal.returns-in-None-clause-keeps
returns-in-None-clause-keeps g c = λ tree told. (c.located-in-None.ensures.told tree told).keeps

pub returns-in-None-clause-finds : goal.returns-in-None-clause-finds
returns-in-None-clause-finds g c = λ tree told of all reading is.
    answer_end c.located-in-None.result _ _
    (resolution_is tree c.args.listing.now of reading c.args.config.now c.args.kind c.args.folder.now c.args.request.now (record { base = c.args.folder.now; request = c.args.request.now })
    (asked_none c.args.config.now.alias c.args.folder.now c.args.request.now
    (sym c.in-None.is ∙ c.in_ok-other.ensures ∙ ap (λ aliases. replaced_by aliases c.args.request.now) c.as_slice.ensures)))
    ((c.located-in-None.ensures.told tree told).is of all reading is)
