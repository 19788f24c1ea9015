use Rattle.std.proofs.Common.{◌≡◌, map, take}
use Rattle.es_scan.specs.Flaws.{fault_of_flaw}
use Rattle.es_scan.proofs.scanner.place_all.Given as goal

abbrev pub invariant-loop-flaw : goal.invariant-loop-flaw
invariant-loop-flaw l = record {
  places : l.places ≡ l.text;
  faults : l.faults ≡ map (fault_of_flaw l.path l.text) (take l.flaw-index l.flaws);
}
