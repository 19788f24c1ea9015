use Rattle.resolve_path.proofs.Above.{folder_path, listed_is}
use Rattle.resolve_path.proofs.upward.is_listed.Goals as goal

pub returns-clause-is : goal.returns-clause-is
returns-clause-is c = listed_is c.args.listing.now.folders c.args.path.now c.is_folder.result c.is_folder.ensures

pub returns-clause-folder : goal.returns-clause-folder
returns-clause-folder c = λ own. folder_path c.args.listing.now c.args.path.now c.count-count.ensures.is (c.is_folder.ensures.0 own)
