-- The body of the log entry of a checked bundle, by what the bundle holds.
use Rattle.std.proofs.Common.{sym, subst}
use Rattle.std.specs.Prelude.{◌↔◌}
use Rattle.sig_certificate.specs.Pem.{pem_of}
use Rattle.sig_checked_bundle.proofs.LoggedArtifacts.{artifact_logged}
use Rattle.sig_checked_bundle.proofs.LoggedEnvelopes.{envelopes_are_logged}
use Rattle.sig_checked_bundle.specs.LogBody.{IsBodyAbout}
use Rattle.sig_checked_bundle.specs.LoggedArtifact.{ArtifactsAreLogged, IsLoggedArtifact}
use Rattle.sig_checked_bundle.specs.LoggedEnvelope.{EnvelopesAreLogged, IsLoggedEnvelope}

pub checked_artifacts : ArtifactsAreLogged
checked_artifacts c digest is =
    subst
    (λ content. IsBodyAbout content digest c.signature c.certificate.whole c.entry.canonicalized_body ↔
    IsLoggedArtifact digest c.signature (pem_of c.certificate.whole) c.entry.canonicalized_body) (sym is)
    (artifact_logged digest c.signature (pem_of c.certificate.whole) c.entry.canonicalized_body)

pub checked_envelopes : EnvelopesAreLogged
checked_envelopes c digest encoding digests envelope payload is =
    subst
    (λ content. IsBodyAbout content digest c.signature c.certificate.whole c.entry.canonicalized_body ↔
    IsLoggedEnvelope envelope payload c.signature (pem_of c.certificate.whole) c.entry.canonicalized_body) (sym is)
    (envelopes_are_logged envelope payload c.signature (pem_of c.certificate.whole) c.entry.canonicalized_body)
