use Rattle.tree_listing.proofs.LastNames.{file_named, folder_named}
use Rattle.tree_listing.proofs.laws.others_are_passed_over.Goals as goal

pub returns : goal.returns
returns c = record { files = file_named; folders = folder_named }
