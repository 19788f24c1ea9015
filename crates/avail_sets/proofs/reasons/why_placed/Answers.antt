use Rattle.std.proofs.Common.{◌≡◌, ℕ, true, Bool, List, sym, ap, subst, ◌∙◌}
use Rattle.std.specs.Prelude.{Option, Some}
use Rattle.chunk_groups.specs.Grouped.{net_of}
use Rattle.chunk_groups.specs.Rows.{bit, bit_in}
use Rattle.avail_sets.specs.inner.Layers.{IsSearched}
use Rattle.avail_sets.proofs.Whys.{no-reason, not-reached, start-layers, reason-read}
use Rattle.avail_sets.proofs.reasons.why_placed.Goals as goal

pub returns-then-not-get : goal.returns-then-not-get
returns-then-not-get c =
    not-reached c.args.graph.now c.args.groups.now.infos c.args.reach.now c.requires.reach c.args.g.0 c.args.m.0
    (sym (c.get.ensures ∙ ap (λ (r : List Bool). bit r c.args.m.0) c.row.ensures.row) ∙ c.if-not-get.true)

pub returns-in_default : goal.returns-in_default
returns-in_default c =
    let graph = c.args.graph.now in
    let infos = c.args.groups.now.infos in
    let held : bit_in c.args.reach.now.rows c.args.g.0 c.args.m.0 ≡ true = sym (c.get.ensures ∙ ap (λ (r : List Bool). bit r c.args.m.0) c.row.ensures.row) ∙ c.if-not-get.false in
    let start = start-layers graph infos c.args.reach.now c.requires.reach c.args.g.0 c.args.m.0 c.in_ok-left.left c.in_ok-layers.layers.items c.count.result c.requires.in_range.0 held c.count.ensures c.in_ok-layers.ensures
    c.in_ok-left.ensures.len c.in_ok-left.ensures.lacking in
    let searched = c.in_ok-first.ensures.found (net_of graph infos) c.args.g.0 c.args.m.0 c.in_ok-opened.ensures.opened c.in_ok-entries.ensures.places c.in_ok-entries.ensures.entries start in
    no-reason graph infos c.args.reach.now c.requires.reach c.args.g.0 c.args.m.0 (subst (λ (o : Option ℕ). IsSearched (net_of graph infos) c.args.g.0 c.args.m.0 c.search.new.layers.items o) c.in_default.is searched)

pub returns : goal.returns
returns c =
    let graph = c.args.graph.now in
    let infos = c.args.groups.now.infos in
    let held : bit_in c.args.reach.now.rows c.args.g.0 c.args.m.0 ≡ true = sym (c.get.ensures ∙ ap (λ (r : List Bool). bit r c.args.m.0) c.row.ensures.row) ∙ c.if-not-get.false in
    let start = start-layers graph infos c.args.reach.now c.requires.reach c.args.g.0 c.args.m.0 c.in_ok-left.left c.in_ok-layers.layers.items c.count.result c.requires.in_range.0 held c.count.ensures c.in_ok-layers.ensures
    c.in_ok-left.ensures.len c.in_ok-left.ensures.lacking in
    let searched = c.in_ok-first.ensures.found (net_of graph infos) c.args.g.0 c.args.m.0 c.in_ok-opened.ensures.opened c.in_ok-entries.ensures.places c.in_ok-entries.ensures.entries start in
    let found = subst (λ (o : Option ℕ). IsSearched (net_of graph infos) c.args.g.0 c.args.m.0 c.search.new.layers.items o) c.in-Some.is searched in
    let ((left, a), first) = subst (λ (l : List (List Bool)). IsSearched (net_of graph infos) c.args.g.0 c.args.m.0 l (Some c.in-Some.first)) (sym c.deref.ensures.value) found in
    let (rest, listed, best) = c.in_ok-reason.ensures (net_of graph infos) c.args.g.0 c.args.m.0 left c.in_ok-opened.ensures.opened a first.in_last in (
      reason-read graph infos c.args.reach.now c.requires.reach c.args.g.0 c.args.m.0 c.deref.result.now left c.in-Some.first rest c.in_ok-reason.reason.items a first listed best,
      (c.requires.reach.exact c.args.g.0 c.args.m.0).0 held,
    )
