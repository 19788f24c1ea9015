use Rattle.std.proofs.Common.{◌≡◌, ◌+◌, ◌<◌, ◌∙◌, ap, sym, not, true, false, None, Some, length, arith}
use Rattle.std.proofs.lemmas.Bool.{cond-true, cond-false}
use Rattle.std.proofs.lemmas.List.Sums.{count_by_more_yes, count_by_more_no}
use Rattle.chunk_graph.proofs.Lists.{push_range}
use Rattle.chunk_graph.specs.Chunks.{chunk_at, no_chunk}
use Rattle.chunk_graph.specs.Moves.{id_of}
use Rattle.stats_text.proofs.ids.all_ids.Goals.{then-is_gone+in_ok-push, else-is_gone+in_ok-push-2}
use Rattle.stats_text.proofs.ids.all_ids.Goals as goal

pub loop-place-preserved : goal.loop-place-preserved
loop-place-preserved c =
    let s = c.args.chunks.now in
    let place = c.loop-place.place in
    let before = c.loop-place.invariant in
    let within : place < length s.chunks = omega (arith, c.loop-place-test.true, c.count-place-end.ensures.count) in
    elim c.if-is_gone.branch [
      | then-is_gone+in_ok-push w ↦
          let gone : (chunk_at s place).gone ≡ true = sym c.is_gone.ensures ∙ w.if-is_gone.true in
          record {
            ids = ap (λ ids. ids.items) w.ids-is ∙ push_range (id_of s) _ _ place None w.in_ok-push.ensures.items before.ids (sym (cond-true (chunk_at s place).gone _ _ gone));
            next = w.next-is ∙ before.next ∙ sym (count_by_more_no (λ d. not d.gone) s.chunks place no_chunk within (ap not gone));
            low = omega (arith, w.next-is, before.low);
          }
      | else-is_gone+in_ok-push-2 w ↦
          let there : (chunk_at s place).gone ≡ false = sym c.is_gone.ensures ∙ w.if-is_gone.false in
          record {
            ids = ap (λ ids. ids.items) w.ids-is ∙ push_range (id_of s) _ _ place (Some c.loop-place.next) w.in_ok-push-2.ensures.items before.ids
                (ap Some before.next ∙ sym (cond-false (chunk_at s place).gone _ _ there));
            next = w.next-is ∙ ap (λ n. n + 1) before.next ∙ sym (count_by_more_yes (λ d. not d.gone) s.chunks place no_chunk within (ap not there));
            low = omega (arith, w.next-is, before.low);
          }
    ]
