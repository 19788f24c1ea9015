use Rattle.std.proofs.Common.{arith, ◌≡◌, ◌≤◌, ◌∙◌, ◌+◌, length, ap}
use Rattle.es_scan.specs.Scan.{upto, items_at}
use Rattle.es_scan.specs.inner.Given.{with_repeats, joined}
use Rattle.es_scan.specs.inner.State.{IsUpto}
use Rattle.es_scan.specs.declared.scanner.State.{State}
use Rattle.es_scan.proofs.NameLemmas.{on_ok_by}
use Rattle.es_scan.proofs.ScanLemmas.{few_items, found_here, found_more}
use Rattle.es_scan.proofs.scanner.add_found.Goals as goal

pub overflow_cast-item : goal.overflow_cast-item
overflow_cast-item c =
    let same : length c.as_slice.result.now ≡ length c.args.state.now.given.items = ap length c.as_slice.ensures in
    let held : length c.args.state.now.given.items ≡ length (upto (items_at c.args.source.text.now c.args.source.tokens.now) c.args.at)
    = ap (λ given. length given.items) c.requires.upto.given in
    let few : length (upto (items_at c.args.source.text.now c.args.source.tokens.now) c.args.at) ≤ c.args.at
    = few_items c.args.source.text.now c.args.source.tokens.now c.args.at in
    omega arith

pub returns : goal.returns
returns c =
    let new : State = record { given = c.join.new.given; exported = c.with_repeats.new.exported; bound = c.with_repeats.new.bound } in
    on_ok_by c.join.result
    (c.join.new.given ≡ joined c.args.state.now.given c.in_ok-more.more)
    (IsUpto c.args.source.text.now c.args.source.tokens.now (c.args.at + 1) new)
    (λ is_joined.
    found_more c.args.source.text.now c.args.source.tokens.now c.args.at c.args.state.now new c.in_ok-found.found c.in_ok-more.more
    c.requires.upto
    (found_here c.args.source.text.now c.args.source.tokens.now c.args.at (length c.as_slice.result.now)
    (length c.args.state.now.given.items) c.args.standing c.in_ok-found.found
    (ap length c.as_slice.ensures) c.requires.standing c.in_ok-found.ensures)
    (λ before own names locals.
    c.in_ok-more.ensures.given before own names locals
    ∙ ap (λ offset. with_repeats offset before own c.in_ok-found.found) c.start_at-offset.ensures)
    c.in_ok-more.ensures.exported
    c.in_ok-more.ensures.bound
    is_joined)
    c.join.ensures
