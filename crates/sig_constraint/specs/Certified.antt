-- *Certified key*: which certificate's key a layer has to be signed by, and when a log has to have taken it.
use Rattle.std.specs.Prelude.{◌≡◌, ◌⊎◌, ℕ, ℤ, List, [], Bool, not, ◌&&◌, Option, Some, None, is_none, Result, Ok, Err}
use Rattle.std.specs.Prelude.{IfOk, IfErr}
use Rattle.sig_base.specs.Answers.{Answers, OrMemory, UnlessMemory}
use Rattle.sig_base.specs.OptionSteps.{or_else}
use Rattle.sig_base.specs.ResultSteps.{◌>>=◌}
use Rattle.sig_base.specs.declared.error.SigstoreError.{SigstoreError}
use Rattle.sig_base.specs.declared.error.SigstoreError.TheVariants.{CertificatePoolError, OutOfMemory, X509Error}
use Rattle.sig_base.specs.declared.fault.PoolError.TheVariants as pool_error
use Rattle.sig_base.specs.declared.scheme.VerifyScheme.{VerifyScheme}
use Rattle.sig_certificate.specs.Certificate.{Cert, IsCertificate}
use Rattle.sig_certificate.specs.Trust.{expiration_refusal, names_refusal, usages_refusal, validity_refusal}
use Rattle.sig_key.specs.Kind.{key_kind, key_parts, kind_answer}
use Rattle.sig_key.specs.declared.verification_key.CosignVerificationKey.{CosignVerificationKey}
use Rattle.sig_payload.specs.Bundles.{AcceptsSpki}
use Rattle.sig_x509.specs.Issuance.{Accepts, AreAnchors, IsFirstNoAnchor}
use Rattle.sig_x509.specs.PathSearch.{path_issuer}
use Rattle.sig_x509.specs.Pool.{Pool}
use Rattle.sig_signer.specs.Signer.{from_pool}
use Rattle.sig_cosign.specs.Layer.{Layer, time_of}
use Rattle.sig_cosign.specs.Signed.{is_signed_by}
use Rattle.sig_cosign.specs.declared.bundle_content.BundleContent.{BundleContent}

-- ---- what is required of a layer

-- a log took the layer while the certificate was valid; or no log says anything of it, and that is not required
abbrev pub is_timely : Cert → Bool → Option BundleContent → Bool
is_timely c required None = not required
is_timely c required (Some bundle) = is_none (expiration_refusal c (time_of bundle))

abbrev pub is_certified : AcceptsSpki → CosignVerificationKey → Cert → Bool → Layer → Bool
is_certified spki key c required l = is_signed_by spki key l && is_timely c required l.bundle

-- ---- what is required of the certificate

-- the first cause against it by itself: key usages, one subject alternative name, validity by now
abbrev pub signer_refusal : Cert → ℤ → Option SigstoreError
signer_refusal c now = or_else (usages_refusal c) (or_else (names_refusal c) (validity_refusal c now))

abbrev pub pool_of : List Cert → Pool
pool_of anchors = record { anchors = anchors; intermediates = [] }

-- what a pool of these trust anchors says of it now
abbrev pub issued_answer : Accepts → List Cert → Cert → ℤ → Result (Unit {0}) SigstoreError
issued_answer accepts anchors c now = from_pool (path_issuer accepts (pool_of anchors) c now)

-- the error of a chain for it: none without a chain; or that of the pool of its certificates; or that one of these is
-- not a trust anchor
abbrev pub IsChainAnswer : Accepts → Option (List (List ℕ)) → Cert → ℤ → Result (Unit {0}) SigstoreError → Type 0
IsChainAnswer accepts None c now meant = meant ≡ Ok tt
IsChainAnswer accepts (Some ders) c now meant =
    ((anchors : List Cert) × (AreAnchors ders anchors × (meant ≡ issued_answer accepts anchors c now)))
    ⊎ ((index : ℕ) × (IsFirstNoAnchor ders index × (meant ≡ Err (CertificatePoolError (pool_error.Anchor index)))))

-- what a call returns is what a chain says, unless memory ran out
pub record IsChainResult (accepts : Accepts) (chain : Option (List (List ℕ))) (c : Cert) (now : ℤ)
    (result : Result (Unit {0}) SigstoreError) : Type 0 where
  pub found : IfOk result (λ done. IsChainAnswer accepts chain c now (Ok done))
  pub err : IfErr result (λ e. OrMemory OutOfMemory e (IsChainAnswer accepts chain c now (Err e)))
  pub only : (meant : Result (Unit {0}) SigstoreError) → IsChainAnswer accepts chain c now meant
      → Answers OutOfMemory (λ done. done) result meant

-- a key by its scheme and its SubjectPublicKeyInfo
abbrev pub Key : Type 0
Key = VerifyScheme × List ℕ

-- its key, or why it is not supported
abbrev pub spki_answer : Cert → Result Key SigstoreError
spki_answer c = kind_answer c.spki (key_kind c.spki)

-- the first refusal of these, or the key
abbrev pub IsKeyUnless : Option SigstoreError → Accepts → Option (List (List ℕ)) → Cert → ℤ
    → Result Key SigstoreError → Type 0
IsKeyUnless (Some error) accepts chain c now meant = meant ≡ Err error
IsKeyUnless None accepts chain c now meant =
    (trusted : Result (Unit {0}) SigstoreError)
    × (IsChainAnswer accepts chain c now trusted × (meant ≡ (trusted >>= λ _. spki_answer c)))

abbrev pub IsKeyAnswer : Accepts → Option (List (List ℕ)) → Cert → ℤ → Result Key SigstoreError → Type 0
IsKeyAnswer accepts chain c now meant = IsKeyUnless (signer_refusal c now) accepts chain c now meant

-- what a call returns is the key or the first refusal, unless memory ran out
pub record IsKeyResult (accepts : Accepts) (chain : Option (List (List ℕ))) (c : Cert) (now : ℤ)
    (result : Result CosignVerificationKey SigstoreError) : Type 0 where
  pub found : IfOk result (λ key. IsKeyAnswer accepts chain c now (Ok (key_parts key)))
  pub err : IfErr result (λ e. OrMemory OutOfMemory e (IsKeyAnswer accepts chain c now (Err e)))
  pub only : (meant : Result Key SigstoreError) → IsKeyAnswer accepts chain c now meant
      → Answers OutOfMemory key_parts result meant

-- ---- of bytes

-- a call returns the certificate that the bytes are, or that they are not one, unless memory ran out
pub record IsReadResult (der : List ℕ) (result : Result Cert SigstoreError) : Type 0 where
  pub found : IfOk result (λ c. IsCertificate der c)
  pub err : IfErr result (λ e. OrMemory OutOfMemory e ((e ≡ X509Error) × ((c : Cert) → ¬ IsCertificate der c)))
  pub only : (c : Cert) → IsCertificate der c → UnlessMemory OutOfMemory result (result ≡ Ok c)
  pub none : ((c : Cert) → ¬ IsCertificate der c) → UnlessMemory OutOfMemory result (result ≡ Err X509Error)

-- the bytes are not a certificate, and this is the error
abbrev pub IsUnreadable : List ℕ → Result Key SigstoreError → Type 0
IsUnreadable der meant = (meant ≡ Err X509Error) × ((c : Cert) → ¬ IsCertificate der c)

-- the result for the bytes: that of the certificate that they are, or that they are not one
abbrev pub IsCertifiedKey : Accepts → List ℕ → Option (List (List ℕ)) → ℤ → Result Key SigstoreError → Type 0
IsCertifiedKey accepts der chain now meant =
    ((c : Cert) × (IsCertificate der c × IsKeyAnswer accepts chain c now meant)) ⊎ IsUnreadable der meant

-- what a call returns is the certificate with its key or the first refusal, unless memory ran out
pub record IsCertifiedResult (accepts : Accepts) (der : List ℕ) (chain : Option (List (List ℕ))) (now : ℤ)
    (result : Result (Cert × CosignVerificationKey) SigstoreError) : Type 0 where
  pub found : IfOk result (λ p. IsCertificate der p.0 × IsKeyAnswer accepts chain p.0 now (Ok (key_parts p.1)))
  pub err : IfErr result (λ e. OrMemory OutOfMemory e (IsCertifiedKey accepts der chain now (Err e)))
  pub only : (meant : Result Key SigstoreError) → IsCertifiedKey accepts der chain now meant
      → Answers OutOfMemory (λ p. key_parts p.1) result meant

-- the verifier of the certificate that the bytes are, with its key, holds of these layers
pub record IsCertificateVerifier (spki : AcceptsSpki) (accepts : Accepts) (der : List ℕ) (chain : Option (List (List ℕ)))
    (now : ℤ) (required : Bool) (holds : Layer → Bool) : Type 0 where
  pub certificate : Cert
  pub read : IsCertificate der certificate
  pub key : CosignVerificationKey
  pub certified : IsKeyAnswer accepts chain certificate now (Ok (key_parts key))
  pub holds_of : (l : Layer) → holds l ≡ is_certified spki key certificate required l
