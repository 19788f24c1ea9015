use Rattle.std.proofs.Common.{rules}
use Rattle.std.proofs.lemmas.List.{take_rest}
use Rattle.outside.proofs.Cuts.{find_at, find_at_end}
use Rattle.outside.proofs.files.find_file.Goals as goal

pub returns-in_err-file : goal.returns-in_err-file
returns-in_err-file c =
    let files = c.args.files.now in
    let n = c.count_before.result in
    let path = c.args.path.now in
    let none = find_at_end path files n c.count_before.ensures (rw (take_rest files n) at c.in_err-file.ensures.value) in
    rw none (search rules)

pub returns : goal.returns
returns c =
    let files = c.args.files.now in
    let n = c.count_before.result in
    let path = c.args.path.now in
    let found = find_at path files n c.in_ok-file.file.now c.requires c.count_before.ensures (rw (take_rest files n) at c.in_ok-file.ensures.value) in
    rw found (search rules)
