use Rattle.std.proofs.Common.{◌≡◌, ◌+◌, ◌++◌, append_assoc, take, sym, ap, ◌∙◌}
use Rattle.std.specs.Prelude.{filter_map, option_to_list}
use Rattle.module_build.specs.Answers.{request_fault}
use Rattle.module_build.proofs.Lists.{filter_map-next}
use Rattle.module_build.proofs.answering.with_request_faults.Goals as goal

pub loop-one-preserved : goal.loop-one-preserved
loop-one-preserved c =
    let h = request_fault c.args.path.now c.args.text.now in
    let asked = c.args.asked.now in
    let place = c.loop-one.one-index in
    let front = filter_map h (take place asked) in
    let found = c.in_ok-request_fault.field-0 in
    let is : found ≡ h c.one-item.result = c.in_ok-request_fault.ensures.fault ∙ ap (λ text. request_fault c.args.path.now text c.one-item.result) c.loop-one.invariant.places in
    let more : filter_map h (take (place + 1) asked) ≡ front ++ option_to_list found =
    filter_map-next h asked place c.one-item.result c.loop-one-test.true
    ∙ ap (λ one. front ++ option_to_list (h one)) (sym c.one-item.is)
    ∙ ap (λ fault. front ++ option_to_list fault) (sym is) in
    record {
      places = c.in_ok-request_fault.ensures.text ∙ c.loop-one.invariant.places;
      all =
          c.in_ok-add_some.ensures ∙ ap (λ faults. faults ++ option_to_list found) c.loop-one.invariant.all
          ∙ append_assoc c.args.faults front (option_to_list found) ∙ ap (λ rest. c.args.faults ++ rest) (sym more);
    }
