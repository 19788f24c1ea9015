-- The chunk groups as lists (this project).
use Rattle.std.specs.Prelude.{List}
use Rattle.pack_util.specs.declared.number.GroupNo.{GroupNo}
use Rattle.graph_types.specs.declared.groups.GroupInfo.{GroupInfo}

-- the groups by number, and the group of each block
pub record GroupList : Type 0 where
  pub infos : List GroupInfo
  pub of_block : List GroupNo
