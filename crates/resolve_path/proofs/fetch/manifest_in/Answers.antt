use Rattle.std.proofs.Common.{sym, subst, ◌∙◌}
use Rattle.pkg_manifest.specs.Manifest.{ManifestAnswersBy, IsManifestOf}
use Rattle.std.specs.Prelude.{Some, None, Err}
use Rattle.resolve_path.proofs.Caching.{whole_is}
use Rattle.resolve_path.proofs.fetch.manifest_in.Goals as goal

pub returns-in-Ok : goal.returns-in-Ok
returns-in-Ok c = λ bytes got. subst (λ text. IsManifestOf text (Some c.in-Ok.manifest)) (c.get.ensures ∙ whole_is _ bytes (sym c.in-Whole.is ∙ got)) c.in-Ok.ensures.found

pub returns-in-Err-BadManifest : goal.returns-in-Err-BadManifest
returns-in-Err-BadManifest c = λ bytes got. subst (λ text. IsManifestOf text None) (c.get.ensures ∙ whole_is _ bytes (sym c.in-Whole.is ∙ got)) (subst (λ end. ManifestAnswersBy (IsManifestOf c.get.result.now) (Err end)) c.in-Err-BadManifest.field-0-is c.in-Err-BadManifest.ensures.found)
