use Rattle.std.proofs.Common.{◌++◌, codes, decimal}
use Rattle.chunk_code.proofs.Parts.{added}
use Rattle.chunk_code.specs.Texts.{members_text}
use Rattle.chunk_code.proofs.chunk.add_modules.Goals as goal

pub returns : goal.returns
returns c =
    let old = c.args.text.now.items in
    let first = codes "self.__chunkpack.a(" ++ decimal c.args.id ++ codes ",{\n" in
    let members = members_text c.args.view.now c.args.members.now in
    added old (first ++ members) (codes "});\n") _ _ (added old first members _ _ c.in_ok-add_around.ensures c.in_ok-add_members.ensures) c.in_ok-add.ensures
