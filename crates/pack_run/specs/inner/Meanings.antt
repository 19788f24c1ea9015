-- What the text of a configuration means (this project).
use Rattle.std.specs.Prelude.{◌≡◌, ℕ, List, [], Ok, Err}
use Rattle.fault_place.specs.Place.{place_in}
use Rattle.outside.specs.declared.entry.ReadGot.{ReadGot}
use Rattle.outside.specs.declared.entry.ReadGot.TheVariants.{Whole, TooLong as Above}
use Rattle.pack_config.specs.Answer.{IsConfigAnswer}
use Rattle.pack_config.specs.declared.fault.ConfigFault.{ConfigFault}
use Rattle.pack_config.specs.declared.fault.ConfigKind.TheVariants.{TooLong}
use Rattle.pack_run.specs.declared.decide.Meaning.{Meaning}
use Rattle.pack_run.specs.declared.decide.Meaning.TheVariants.{Config, Fault}

-- the configuration that a text is, or its fault at its place
abbrev pub Means : List ℕ → List ℕ → Meaning → Type 0
Means path text (Config config) = IsConfigAnswer text (Ok config)
Means path text (Fault place kind) = (fault : ConfigFault) × IsConfigAnswer text (Err fault) × (place ≡ place_in path text fault.offset) × (kind ≡ fault.kind)

-- the same of what a read gave
abbrev pub MeansGot : List ℕ → ReadGot → Meaning → Type 0
MeansGot path (Whole text) meaning = Means path text meaning
MeansGot path Above meaning = meaning ≡ Fault (place_in path [] 0) TooLong
