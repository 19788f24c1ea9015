pub mod ManifestLaws
