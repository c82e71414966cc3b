-- Where each fault of a certificate's profiles and of its trust comes: the rules before it hold, and its own does not
-- hold. The rules are in the words of RFC 5280.
use Rattle.std.specs.Prelude.{◌≡◌, ◌≢◌, ◌⊎◌, ℕ, ◌≤◌, ℤ, ◌<ℤ◌, ◌≤ℤ◌, List, [], ◌∷◌, length, Bool, true, false, Option}
use Rattle.std.specs.Prelude.{Some, None}
use Rattle.sig_base.specs.declared.error.SigstoreError.{SigstoreError}
use Rattle.sig_base.specs.declared.error.SigstoreError.TheVariants.{CertificateValidityError}
use Rattle.sig_base.specs.declared.error.SigstoreError.TheVariants.{CertificateExpiredBeforeSignaturesSubmittedToRekor}
use Rattle.sig_base.specs.declared.error.SigstoreError.TheVariants.{CertificateIssuedAfterSignaturesSubmittedToRekor}
use Rattle.sig_base.specs.declared.error.SigstoreError.TheVariants.{CertificateWithoutDigitalSignatureKeyUsage}
use Rattle.sig_base.specs.declared.error.SigstoreError.TheVariants.{CertificateWithoutCodeSigningKeyUsage}
use Rattle.sig_base.specs.declared.error.SigstoreError.TheVariants.{CertificateWithoutSubjectAlternativeName}
use Rattle.sig_der.specs.ObjectIdentifiers as oid
use Rattle.sig_certificate.specs.declared.profile_error.CertificateValidationError.{CertificateValidationError}
use Rattle.sig_certificate.specs.declared.profile_error.CertificateValidationError.TheVariants.{VersionUnsupported}
use Rattle.sig_certificate.specs.declared.profile_error.CertificateValidationError.TheVariants.{Malformed, NotLeaf}
use Rattle.sig_certificate.specs.declared.profile_error.CertificateValidationError.TheVariants.{NotCA}
use Rattle.sig_certificate.specs.declared.profile_error.CertificateValidationError.TheVariants.{Extension as OfPart}
use Rattle.sig_certificate.specs.declared.profile_error.NotLeafErrorKind.TheVariants.{IsCA}
use Rattle.sig_certificate.specs.declared.profile_error.NotCAErrorKind.TheVariants.{NotCA as Neither, NotRootCA}
use Rattle.sig_certificate.specs.declared.profile_error.NotCAErrorKind.TheVariants.{Invalid}
use Rattle.sig_certificate.specs.declared.profile_error.ExtensionErrorKind.TheVariants.{Missing, NotCritical, BitUnset}
use Rattle.sig_certificate.specs.declared.profile_error.PartName.TheVariants.{BasicConstraints, KeyUsage}
use Rattle.sig_certificate.specs.declared.profile_error.PartName.TheVariants.{KeyUsageDigitalSignature}
use Rattle.sig_certificate.specs.declared.profile_error.PartName.TheVariants.{ExtendedKeyUsage}
use Rattle.sig_certificate.specs.declared.profile_error.PartName.TheVariants.{ExtendedKeyUsageDigitalSignature}
use Rattle.sig_certificate.specs.Certificate.{Extension, Cert}
use Rattle.sig_certificate.specs.Lookups.{with_oid}
use Rattle.sig_certificate.specs.Values.{key_usage_of, purposes_of, has_purpose, basic_constraints_of}
use Rattle.sig_certificate.specs.Names.{general_names_of}

-- ---- what the extensions of one object identifier say

-- there is exactly one, and its value says this
abbrev pub Says : {A : Type 0} → List Extension → (List ℕ → Option A) → (Extension → A → Type 0) → Type 0
Says {A} es read P = (e : Extension) × ((x : A) × ((es ≡ e ∷ []) × ((read e.value ≡ Some x) × P e x)))

-- there are several, or the only one has a value that says nothing
abbrev pub SayNothing : {A : Type 0} → List Extension → (List ℕ → Option A) → Type 0
SayNothing es read = (2 ≤ length es) ⊎ ((e : Extension) × ((es ≡ e ∷ []) × (read e.value ≡ None)))

-- ---- the extensions that decide

abbrev pub usages : Cert → List Extension
usages c = with_oid oid.key_usage c.extensions

abbrev pub constraint_lists : Cert → List Extension
constraint_lists c = with_oid oid.basic_constraints c.extensions

abbrev pub purpose_lists : Cert → List Extension
purpose_lists c = with_oid oid.extended_key_usage c.extensions

-- key usage: digitalSignature and keyCertSign
abbrev pub SaysUsage : Cert → Bool → Bool → Type 0
SaysUsage c digital_signature key_cert_sign =
    Says (usages c) key_usage_of (λ e u. (u.digital_signature ≡ digital_signature) × (u.key_cert_sign ≡ key_cert_sign))

-- basic constraints: whether they are critical, and cA
abbrev pub SaysConstraints : Cert → Bool → Bool → Type 0
SaysConstraints c critical ca =
    Says (constraint_lists c) basic_constraints_of (λ e b. (e.critical ≡ critical) × (b.ca ≡ ca))

-- extended key usage: whether code signing is among the purposes
abbrev pub SaysCodeSigning : Cert → Bool → Type 0
SaysCodeSigning c is = Says (purpose_lists c) purposes_of (λ e ids. has_purpose oid.code_signing_purpose ids ≡ is)

-- ---- authorities

-- an authority: version 3, critical basic constraints with cA, and key usage with keyCertSign
pub record IsAuthority (c : Cert) : Type 0 where
  pub version : c.version ≡ 3
  pub constraints : SaysConstraints c true true
  pub digital_signature : Bool
  pub usage : SaysUsage c digital_signature true

pub data IsAuthorityFault : Cert → CertificateValidationError → Type 0 where
  other_version : {c : Cert} → c.version ≢ 3 → IsAuthorityFault c VersionUnsupported
  constraints_malformed : {c : Cert} → c.version ≡ 3 → SayNothing (constraint_lists c) basic_constraints_of
      → IsAuthorityFault c Malformed
  constraints_missing : {c : Cert} → c.version ≡ 3 → constraint_lists c ≡ []
      → IsAuthorityFault c (OfPart (Missing BasicConstraints))
  constraints_not_critical : {c : Cert} (ca : Bool) → c.version ≡ 3 → SaysConstraints c false ca
      → IsAuthorityFault c (OfPart (NotCritical BasicConstraints))
  usage_malformed : {c : Cert} (ca : Bool) → c.version ≡ 3 → SaysConstraints c true ca
      → SayNothing (usages c) key_usage_of
      → IsAuthorityFault c Malformed
  usage_missing : {c : Cert} (ca : Bool) → c.version ≡ 3 → SaysConstraints c true ca → usages c ≡ []
      → IsAuthorityFault c (OfPart (Missing KeyUsage))
  neither : {c : Cert} (digital_signature : Bool) → c.version ≡ 3 → SaysConstraints c true false
      → SaysUsage c digital_signature false
      → IsAuthorityFault c (NotCA Neither)
  one_alone : {c : Cert} (digital_signature ca key_cert_sign : Bool) → c.version ≡ 3 → SaysConstraints c true ca
      → SaysUsage c digital_signature key_cert_sign → ca ≢ key_cert_sign
      → IsAuthorityFault c (NotCA (Invalid ca key_cert_sign))

-- ---- roots

-- a root: an authority that names itself as its issuer
pub record IsRoot (c : Cert) : Type 0 where
  pub authority : IsAuthority c
  pub same : c.issuer ≡ c.subject

pub data IsRootFault : Cert → CertificateValidationError → Type 0 where
  no_authority : {c : Cert} (e : CertificateValidationError) → IsAuthorityFault c e → IsRootFault c e
  other_issuer : {c : Cert} → IsAuthority c → c.issuer ≢ c.subject → IsRootFault c (NotCA NotRootCA)

-- ---- leaves

-- a leaf that may sign code: version 3, no authority, key usage with digitalSignature, and extended key usage with code
-- signing
pub record IsLeaf (c : Cert) : Type 0 where
  pub version : c.version ≡ 3
  pub end_entity : ¬ IsAuthority c
  pub key_cert_sign : Bool
  pub usage : SaysUsage c true key_cert_sign
  pub code_signing : SaysCodeSigning c true

pub data IsLeafFault : Cert → CertificateValidationError → Type 0 where
  leaf_version : {c : Cert} → c.version ≢ 3 → IsLeafFault c VersionUnsupported
  is_authority : {c : Cert} → IsAuthority c → IsLeafFault c (NotLeaf IsCA)
  leaf_usage_malformed : {c : Cert} → c.version ≡ 3 → ¬ IsAuthority c → SayNothing (usages c) key_usage_of
      → IsLeafFault c Malformed
  leaf_usage_missing : {c : Cert} → c.version ≡ 3 → ¬ IsAuthority c → usages c ≡ []
      → IsLeafFault c (OfPart (Missing KeyUsage))
  no_digital_signature : {c : Cert} (key_cert_sign : Bool) → c.version ≡ 3 → ¬ IsAuthority c
      → SaysUsage c false key_cert_sign
      → IsLeafFault c (OfPart (BitUnset KeyUsageDigitalSignature))
  purposes_malformed : {c : Cert} (key_cert_sign : Bool) → c.version ≡ 3 → ¬ IsAuthority c
      → SaysUsage c true key_cert_sign
      → SayNothing (purpose_lists c) purposes_of → IsLeafFault c Malformed
  purposes_missing : {c : Cert} (key_cert_sign : Bool) → c.version ≡ 3 → ¬ IsAuthority c
      → SaysUsage c true key_cert_sign
      → purpose_lists c ≡ [] → IsLeafFault c (OfPart (Missing ExtendedKeyUsage))
  no_code_signing : {c : Cert} (key_cert_sign : Bool) → c.version ≡ 3 → ¬ IsAuthority c
      → SaysUsage c true key_cert_sign
      → SaysCodeSigning c false → IsLeafFault c (OfPart (BitUnset ExtendedKeyUsageDigitalSignature))

-- ---- trust

abbrev pub MaySign : Cert → Type 0
MaySign c = (key_cert_sign : Bool) × SaysUsage c true key_cert_sign

abbrev pub MaySignCode : Cert → Type 0
MaySignCode c = SaysCodeSigning c true

-- exactly one extension of alternative names, and it is well formed
abbrev pub IsNamed : Cert → Type 0
IsNamed c = Says (with_oid oid.subject_alternative_name c.extensions) general_names_of (λ e names. Unit {0})

pub data IsUsagesFault : Cert → SigstoreError → Type 0 where
  may_not_sign : {c : Cert} → ¬ MaySign c → IsUsagesFault c CertificateWithoutDigitalSignatureKeyUsage
  may_not_sign_code : {c : Cert} → MaySign c → ¬ MaySignCode c → IsUsagesFault c CertificateWithoutCodeSigningKeyUsage

pub data IsNamesFault : Cert → SigstoreError → Type 0 where
  unnamed : {c : Cert} → ¬ IsNamed c → IsNamesFault c CertificateWithoutSubjectAlternativeName

-- the validity has not begun at this time
pub data IsValidityFault : Cert → ℤ → SigstoreError → Type 0 where
  not_begun : {c : Cert} {now : ℤ} → now <ℤ c.not_before
      → IsValidityFault c now (CertificateValidityError c.not_before)

-- the time of the entry is before the validity, or after it
pub data IsExpirationFault : Cert → ℤ → SigstoreError → Type 0 where
  too_early : {c : Cert} {at : ℤ} → at <ℤ c.not_before
      → IsExpirationFault c at (CertificateExpiredBeforeSignaturesSubmittedToRekor at c.not_before)
  too_late : {c : Cert} {at : ℤ} → c.not_before ≤ℤ at → c.not_after <ℤ at
      → IsExpirationFault c at (CertificateIssuedAfterSignaturesSubmittedToRekor at c.not_after)

-- the time of the entry is within the validity
pub record IsWithinValidity (c : Cert) (at : ℤ) : Type 0 where
  pub begun : c.not_before ≤ℤ at
  pub not_ended : at ≤ℤ c.not_after

-- all four checks pass
pub record IsTrusted (c : Cert) (at now : ℤ) : Type 0 where
  pub signs : MaySign c
  pub signs_code : MaySignCode c
  pub named : IsNamed c
  pub begun : c.not_before ≤ℤ now
  pub logged : IsWithinValidity c at

-- the four checks in their order
pub data IsTrustFault : Cert → ℤ → ℤ → SigstoreError → Type 0 where
  of_usages : {c : Cert} {at now : ℤ} (e : SigstoreError) → IsUsagesFault c e → IsTrustFault c at now e
  of_names : {c : Cert} {at now : ℤ} (e : SigstoreError) → MaySign c → MaySignCode c → IsNamesFault c e
      → IsTrustFault c at now e
  of_validity : {c : Cert} {at now : ℤ} (e : SigstoreError) → MaySign c → MaySignCode c → IsNamed c
      → IsValidityFault c now e
      → IsTrustFault c at now e
  of_expiration : {c : Cert} {at now : ℤ} (e : SigstoreError) → MaySign c → MaySignCode c → IsNamed c
      → c.not_before ≤ℤ now
      → IsExpirationFault c at e → IsTrustFault c at now e
