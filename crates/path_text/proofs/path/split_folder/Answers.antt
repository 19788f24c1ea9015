use Rattle.std.proofs.Common.{lit<, sym}
use Rattle.std.proofs.lemmas.Iterator.Consumers.{map_from_collect}
use Rattle.std.proofs.lemmas.Iterator.Splits.{YieldsList-from_str_split}
use Rattle.path_text.proofs.Walks.{folder_segments_full}
use Rattle.path_text.proofs.path.split_folder.Goals as goal

pub returns : goal.returns
returns c =
    rw (folder_segments_full c.args.folder.now (sym c.if-is_empty.ensures))
    (map_from_collect _ c.collect.ensures.ran (YieldsList-from_str_split 47 c.args.folder.now (lit< tt) c.split.ensures.text c.split.ensures.has_more c.split.ensures.pattern))
