-- How texts are told to be JSON values and manifests (RFC 8259; Node.js, "package.json"). There is one way to tell each, by
-- laws of `json_order` and `resolve_path`, so that a record is a function of its file.
use Rattle.module_parse.specs.Parsed.{Reading as JsonReading, IsReading as IsJsonReading}
use Rattle.resolve_path.specs.Manifests.{IsReading as IsManifestReading, ManifestReading}

pub record Readings : Type 0 where
  pub json : JsonReading
  pub manifest : ManifestReading

pub record AreReadings (readings : Readings) : Type 0 where
  pub json : IsJsonReading readings.json
  pub manifest : IsManifestReading readings.manifest
