-- *Signer*: the signer that a certificate names: its key, its subject and its claims, if a pool finds its issuer and it
-- passes the checks of a certificate that signed.
use Rattle.std.specs.Prelude.{◌≡◌, ◌⊎◌, ℕ, ℤ, List, Option, Some, None, Result, Ok, Err}
use Rattle.sig_base.specs.ResultSteps.{◌>>=◌}
use Rattle.sig_base.specs.declared.error.SigstoreError.{SigstoreError}
use Rattle.sig_base.specs.declared.error.SigstoreError.TheVariants.{CertificatePoolError, OutOfMemory, X509Error}
use Rattle.sig_base.specs.declared.fault.PoolError.{PoolError}
use Rattle.sig_base.specs.declared.fault.PoolError.TheVariants as pool
use Rattle.sig_base.specs.declared.scheme.VerifyScheme.{VerifyScheme}
use Rattle.sig_certificate.specs.Certificate.{Cert, IsCertificate}
use Rattle.sig_certificate.specs.Trust.{trust_refusal}
use Rattle.sig_key.specs.Kind.{key_kind, key_parts, kind_answer}
use Rattle.sig_x509.specs.Issuance.{Accepts}
use Rattle.sig_x509.specs.PathSearch.{path_issuer}
use Rattle.sig_x509.specs.PathText.{OfCertificate}
use Rattle.sig_x509.specs.Pool.{Pool}
use Rattle.sig_x509.specs.declared.issuer.Issuer.{Issuer}
use Rattle.sig_signer.specs.Claims.{claims_answer}
use Rattle.sig_signer.specs.Subject.{subject_answer}
use Rattle.sig_signer.specs.declared.certificate_signature.CertificateSignature.{CertificateSignature}
use Rattle.sig_signer.specs.declared.subject.CertificateSubject.{CertificateSubject}

-- the key by its scheme and its SubjectPublicKeyInfo
pub record Signer : Type 0 where
  pub key : VerifyScheme × List ℕ
  pub subject : CertificateSubject
  pub issuer : Option (List ℕ)
  pub trigger : Option (List ℕ)
  pub sha : Option (List ℕ)
  pub name : Option (List ℕ)
  pub repository : Option (List ℕ)
  pub reference : Option (List ℕ)

-- the signer that a value of the code is
abbrev pub seen_signer : CertificateSignature → Signer
seen_signer s = record {
  key = key_parts s.verification_key;
  subject = s.subject;
  issuer = s.issuer;
  trigger = s.github_workflow_trigger;
  sha = s.github_workflow_sha;
  name = s.github_workflow_name;
  repository = s.github_workflow_repository;
  reference = s.github_workflow_ref;
}

-- ---- of a certificate

abbrev pub of_pool : PoolError → SigstoreError
of_pool pool.OutOfMemory = OutOfMemory
of_pool error = CertificatePoolError error

abbrev pub from_pool : Result Issuer PoolError → Result (Unit {0}) SigstoreError
from_pool (Ok issuer) = Ok tt
from_pool (Err error) = Err (of_pool error)

-- the pool finds its issuer, at the first second of its validity
abbrev pub issued_answer : Accepts → Pool → Cert → Result (Unit {0}) SigstoreError
issued_answer accepts pool c = from_pool (path_issuer accepts pool c c.not_before)

abbrev pub unless_refused : Option SigstoreError → Result (Unit {0}) SigstoreError
unless_refused None = Ok tt
unless_refused (Some error) = Err error

-- its key, where signatures can be checked with it
abbrev pub from_kind : Result (VerifyScheme × List ℕ) SigstoreError → Result (VerifyScheme × List ℕ) SigstoreError
from_kind (Ok key) = Ok key
from_kind (Err error) = Err X509Error

abbrev pub certified_key : List ℕ → Result (VerifyScheme × List ℕ) SigstoreError
certified_key spki = from_kind (kind_answer spki (key_kind spki))

unfoldable pub certified_answer : Cert → Result Signer SigstoreError
certified_answer c = do
  subject ← subject_answer c
  key ← certified_key c.spki
  claims ← claims_answer c
  Ok (record {
    key = key;
    subject = subject;
    issuer = claims.issuer;
    trigger = claims.trigger;
    sha = claims.sha;
    name = claims.workflow.name;
    repository = claims.workflow.repository;
    reference = claims.workflow.reference;
  })

abbrev pub signer_answer : Accepts → Pool → Cert → ℤ → ℤ → Result Signer SigstoreError
signer_answer accepts pool c at now = do
  _ ← issued_answer accepts pool c
  _ ← unless_refused (trust_refusal c at now)
  certified_answer c

-- ---- of bytes

-- the bytes are not a certificate
abbrev pub IsUnreadable : List ℕ → Type 0
IsUnreadable der = (c : Cert) → ¬ IsCertificate der c

-- the result for the bytes: that of the certificate that they are, or that they are not one
abbrev pub IsSignerOf : Accepts → Pool → List ℕ → ℤ → ℤ → Result Signer SigstoreError → Type 0
IsSignerOf accepts pool der at now meant =
    OfCertificate der (λ c. signer_answer accepts pool c at now ≡ meant) ⊎ (IsUnreadable der × (meant ≡ Err X509Error))
