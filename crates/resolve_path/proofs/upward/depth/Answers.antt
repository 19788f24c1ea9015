use Rattle.std.proofs.Common.{lit<, sym}
use Rattle.std.proofs.lemmas.Iterator.Consumers.{count_from_yields_List}
use Rattle.std.proofs.lemmas.Iterator.Splits.{YieldsList-from_str_split}
use Rattle.path_text.proofs.Walks.{folder_segments_full}
use Rattle.resolve_path.proofs.upward.depth.Goals as goal

pub returns : goal.returns
returns c =
    rw (folder_segments_full c.args.folder.now (sym c.if-is_empty.ensures))
    (count_from_yields_List _ c.count.result c.count.ensures.ran (YieldsList-from_str_split 47 c.args.folder.now (lit< tt) c.split.ensures.text c.split.ensures.has_more c.split.ensures.pattern))
