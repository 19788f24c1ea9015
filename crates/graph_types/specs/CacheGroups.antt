-- Cache groups (webpack, SplitChunksPlugin).
use Rattle.std.specs.Prelude.{Bool, nat_le}
use Rattle.graph_types.specs.declared.cache_group.CacheGroup.{CacheGroup}

-- a module must be in some chunk: `minChunks` is at least 1
abbrev pub is_counted : CacheGroup → Bool
is_counted group = nat_le 1 group.min_chunks
