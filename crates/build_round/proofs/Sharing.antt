-- What the workers of a round share may be read by all threads at once, and what each has may be sent to its thread (this
-- project).
use denote.RattleType.{RattleType}
use denote.Param.Send.{IsSend, IsSync, recorded_send, sendable, struct_send}
use denote.Struct.Struct.{Struct}
use denote.Struct.Declared.{shape}
use Rattle.std.proofs.Crossing.{crosses}
use Rattle.claim_board.proofs.seat.ClaimSeat.TheSendSync.{the_field_send as seat_field}
use Rattle.draw_board.proofs.seat.DrawSeat.TheSendSync.{the_field_send as hand_field}
use Rattle.pack_util.proofs.number.FileId.TheSendSync.{the_send as file_send}
use Rattle.pack_util.proofs.seq.Seq.TheSendSync.{the_send as seq_send, the_sync as seq_sync}
use Rattle.pack_util.proofs.text.Text.TheSendSync.{the_send as text_send, the_sync as text_sync}
use Rattle.graph_types.proofs.condition.Condition.TheLaws.TheKnot.{crosses as condition_crosses}
use Rattle.graph_types.proofs.entry.EntrySpec.TheSendSync.{the_sync as entry_sync}
use Rattle.graph_types.specs.contracts.cache_group.CacheGroup as group
use Rattle.graph_types.specs.contracts.config.Config as config
use Rattle.outside.proofs.outside_end.OutsideEnd.TheSendSync.{the_send as end_send}
use Rattle.resolve_path.specs.contracts.cache.ManifestCache as cache
use Rattle.resolve_path.below.json_order.proofs.tree.JsonNode.TheLaws.TheKnot.{crosses as json_crosses}
use Rattle.std.proofs.result.Result.TheSendSync.{the_field_send as result_field}
use Rattle.build_round.specs.contracts.part.Bench as bench
use Rattle.build_round.specs.contracts.part.Part as part
use Rattle.build_round.specs.declared.part.Part.{Part}

group_sync : IsSync group.the_row
group_sync = search (sendable, crosses, condition_crosses, text_sync) depth 40

pub config_sync : IsSync config.the_row
config_sync = search (sendable, crosses, group_sync, seq_sync, text_sync, entry_sync) depth 40

cache_send : IsSend cache.the_row
cache_send = search (sendable, crosses, json_crosses, seq_send, text_send) depth 40

-- what a part holds
bench_send : (R : RattleType) → IsSend R → IsSend (Struct (shape (bench.the_type R)))
bench_send R sent = struct_send (shape (bench.the_type R)) (sent, (seat_field, (cache_send, (search (sendable, crosses, file_send) depth 20, tt))))

pub part_send : (R : RattleType) → IsSend R → IsSend (part.the_row R)
part_send R sent = recorded_send (Struct (shape (part.the_type R))) (Part R.Denot) (part.the_type R).to (part.the_type R).to_one
    (struct_send (shape (part.the_type R)) (bench_send R sent, (hand_field, (search (sendable, crosses, result_field, end_send) depth 20, tt))))
