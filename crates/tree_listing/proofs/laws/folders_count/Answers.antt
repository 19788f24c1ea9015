use Rattle.tree_listing.proofs.LastNames.{each_counts}
use Rattle.tree_listing.proofs.laws.folders_count.Goals as goal

pub returns : goal.returns
returns c = each_counts
