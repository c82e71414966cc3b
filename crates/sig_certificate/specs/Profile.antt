-- *Certificate profiles*: what a certificate may be, or the first cause against it.
use Rattle.std.specs.Prelude.{List, [], ◌∷◌, Bool, true, false, Option, Some, None, option_map, Result, Ok, Err, ◌==◌}
use Rattle.std.specs.Prelude.{if◌then◌else◌}
use Rattle.std.specs.Str.{bytes_eq}
use Rattle.sig_base.specs.OptionSteps.{or_else}
use Rattle.sig_der.specs.ObjectIdentifiers as oid
use Rattle.sig_certificate.specs.declared.values.KeyUsage.{KeyUsage as Usage}
use Rattle.sig_certificate.specs.declared.values.BasicConstraints.{BasicConstraints as Constraints}
use Rattle.sig_certificate.specs.declared.profile_error.CertificateValidationError.{CertificateValidationError}
use Rattle.sig_certificate.specs.declared.profile_error.CertificateValidationError.TheVariants.{VersionUnsupported}
use Rattle.sig_certificate.specs.declared.profile_error.CertificateValidationError.TheVariants.{Malformed, NotLeaf}
use Rattle.sig_certificate.specs.declared.profile_error.CertificateValidationError.TheVariants.{NotCA}
use Rattle.sig_certificate.specs.declared.profile_error.CertificateValidationError.TheVariants.{Extension as OfPart}
use Rattle.sig_certificate.specs.declared.profile_error.NotLeafErrorKind.TheVariants.{IsCA}
use Rattle.sig_certificate.specs.declared.profile_error.NotCAErrorKind.TheVariants.{NotCA as Neither, NotRootCA}
use Rattle.sig_certificate.specs.declared.profile_error.NotCAErrorKind.TheVariants.{Invalid}
use Rattle.sig_certificate.specs.declared.profile_error.ExtensionErrorKind.TheVariants.{Missing, NotCritical, BitUnset}
use Rattle.sig_certificate.specs.declared.profile_error.PartName.TheVariants.{BasicConstraints, KeyUsage}
use Rattle.sig_certificate.specs.declared.profile_error.PartName.TheVariants.{KeyUsageDigitalSignature}
use Rattle.sig_certificate.specs.declared.profile_error.PartName.TheVariants.{ExtendedKeyUsage}
use Rattle.sig_certificate.specs.declared.profile_error.PartName.TheVariants.{ExtendedKeyUsageDigitalSignature}
use Rattle.sig_certificate.specs.Certificate.{Extension, Cert}
use Rattle.sig_certificate.specs.Lookups.{with_oid}
use Rattle.sig_certificate.specs.Values.{key_usage_of, purposes_of, has_purpose, basic_constraints_of}

-- the error of a call that failed
abbrev pub error_of : {X E : Type 0} → Result X E → Option E
error_of (Ok x) = None
error_of (Err e) = Some e

-- What the extensions of one object identifier say: nothing where there is none, what the reader returns for the only
-- one, and that they are malformed where it makes nothing of it, or where there are several.
abbrev pub Held : Type 0 → Type 0
Held A = Result (Option A) CertificateValidationError

abbrev pub read_as : {A : Type 0} → Option A → Held A
read_as None = Err Malformed
read_as (Some x) = Ok (Some x)

abbrev pub held : {A : Type 0} → (Extension → Option A) → List Extension → Held A
held read [] = Ok None
held read (e ∷ []) = read_as (read e)
held read (e ∷ f ∷ es) = Err Malformed

-- ---- what a certificate's extensions say

abbrev pub usage : Cert → Held Usage
usage c = held (λ e. key_usage_of e.value) (with_oid oid.key_usage c.extensions)

-- whether code signing is among the purposes
abbrev pub code_signing : Cert → Held Bool
code_signing c =
    held (λ e. option_map (has_purpose oid.code_signing_purpose) (purposes_of e.value))
    (with_oid oid.extended_key_usage c.extensions)

-- whether they are critical, and what they say
abbrev pub constraints : Cert → Held (Bool × Constraints)
constraints c =
    held (λ e. option_map (λ b. (e.critical, b)) (basic_constraints_of e.value))
    (with_oid oid.basic_constraints c.extensions)

-- ---- the tables

-- cA and keyCertSign, set or not
abbrev pub agreement : Bool → Bool → Option CertificateValidationError
agreement true true = None
agreement false false = Some (NotCA Neither)
agreement true false = Some (NotCA (Invalid true false))
agreement false true = Some (NotCA (Invalid false true))

abbrev pub signs : Bool → Held Usage → Option CertificateValidationError
signs ca (Err e) = Some e
signs ca (Ok None) = Some (OfPart (Missing KeyUsage))
signs ca (Ok (Some u)) = agreement ca u.key_cert_sign

abbrev pub authority : Held (Bool × Constraints) → Held Usage → Option CertificateValidationError
authority (Err e) u = Some e
authority (Ok None) u = Some (OfPart (Missing BasicConstraints))
authority (Ok (Some b)) u = if b.0 then signs b.1.ca u else Some (OfPart (NotCritical BasicConstraints))

-- where the version is 3
abbrev pub of_version_3 : Cert → Option CertificateValidationError → Option CertificateValidationError
of_version_3 c other = if c.version == 3 then other else Some VersionUnsupported

-- the first cause against an authority
abbrev pub ca_refusal : Cert → Option CertificateValidationError
ca_refusal c = of_version_3 c (authority (constraints c) (usage c))

abbrev pub signs_code : Held Bool → Option CertificateValidationError
signs_code (Err e) = Some e
signs_code (Ok None) = Some (OfPart (Missing ExtendedKeyUsage))
signs_code (Ok (Some is)) = if is then None else Some (OfPart (BitUnset ExtendedKeyUsageDigitalSignature))

abbrev pub signer : Held Usage → Held Bool → Option CertificateValidationError
signer (Err e) p = Some e
signer (Ok None) p = Some (OfPart (Missing KeyUsage))
signer (Ok (Some u)) p =
    if u.digital_signature then signs_code p else Some (OfPart (BitUnset KeyUsageDigitalSignature))

-- no authority
abbrev pub unless_authority : Option CertificateValidationError → Option CertificateValidationError
    → Option CertificateValidationError
unless_authority None other = Some (NotLeaf IsCA)
unless_authority (Some e) other = other

-- the first cause against a leaf
abbrev pub leaf_refusal : Cert → Option CertificateValidationError
leaf_refusal c = of_version_3 c (unless_authority (ca_refusal c) (signer (usage c) (code_signing c)))

-- the first cause against a root
abbrev pub root_refusal : Cert → Option CertificateValidationError
root_refusal c = or_else (ca_refusal c) (if bytes_eq c.issuer c.subject then None else Some (NotCA NotRootCA))
