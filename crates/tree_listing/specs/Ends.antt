-- How a listing ends where a reader's call gave nothing (this project).
use Rattle.outside.specs.declared.outside_end.OutsideEnd.{OutsideEnd}
use Rattle.outside.specs.declared.outside_end.OutsideEnd.TheVariants.{Failed as ReaderFailed, NoMemory as ReaderNoMemory}
use Rattle.tree_listing.specs.declared.list_end.ListEnd.{ListEnd}
use Rattle.tree_listing.specs.declared.list_end.ListEnd.TheVariants.{Failed, NoMemory}

abbrev pub end_of : OutsideEnd → ListEnd
end_of ReaderFailed = Failed
end_of ReaderNoMemory = NoMemory
