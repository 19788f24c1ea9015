-- What contracts see of a `MemReader` (this project).
use Rattle.outside.specs.Readings.{Reading}
use Rattle.outside.specs.declared.mem_reader.MemReader.{MemReader}

abbrev pub reading : MemReader → Reading
reading reader = record {
  tree = reader.tree.now;
  plan = reader.plan;
  paths = reader.paths.items;
  log = reader.log.items;
  listed = reader.listed.items;
  strays = reader.strays;
}
