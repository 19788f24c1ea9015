use Rattle.std.proofs.Common.{◌<◌, length, arith}
use Rattle.runs_seal.proofs.Few.{small-more}
use Rattle.runs_seal.proofs.graphs.add_record.Goals as goal

pub returns : goal.returns
returns c =
    let room : length c.args.records.now.items < 32_768 = omega (arith, c.requires.room) in
    let more = small-more c.args.records.now.items c.in_ok-rec.rec c.requires.small room (omega (arith, c.in_ok-rec.ensures.file)) c.in_ok-rec.ensures.small in
    rw c.in_ok-push.ensures.items more
