-- *Certificate profiles*: the four checks of a certificate that signed, and all of them in order.
use Rattle.std.specs.Prelude.{ℤ, List, [], ◌∷◌, Bool, false, Option, Some, None, Ok, Err, int_lt, is_some}
use Rattle.std.specs.Prelude.{if◌then◌else◌}
use Rattle.sig_base.specs.declared.error.SigstoreError.{SigstoreError}
use Rattle.sig_base.specs.declared.error.SigstoreError.TheVariants.{CertificateValidityError}
use Rattle.sig_base.specs.declared.error.SigstoreError.TheVariants.{CertificateExpiredBeforeSignaturesSubmittedToRekor}
use Rattle.sig_base.specs.declared.error.SigstoreError.TheVariants.{CertificateIssuedAfterSignaturesSubmittedToRekor}
use Rattle.sig_base.specs.declared.error.SigstoreError.TheVariants.{CertificateWithoutDigitalSignatureKeyUsage}
use Rattle.sig_base.specs.declared.error.SigstoreError.TheVariants.{CertificateWithoutCodeSigningKeyUsage}
use Rattle.sig_base.specs.declared.error.SigstoreError.TheVariants.{CertificateWithoutSubjectAlternativeName}
use Rattle.sig_der.specs.ObjectIdentifiers.{subject_alternative_name}
use Rattle.sig_certificate.specs.declared.values.KeyUsage.{KeyUsage as Usage}
use Rattle.sig_certificate.specs.Certificate.{Extension, Cert}
use Rattle.sig_certificate.specs.Lookups.{with_oid}
use Rattle.sig_certificate.specs.Names.{general_names_of}
use Rattle.sig_base.specs.OptionSteps.{or_else}
use Rattle.sig_certificate.specs.Profile.{Held, usage, code_signing}

abbrev pub may_sign : Held Usage → Bool
may_sign (Err e) = false
may_sign (Ok None) = false
may_sign (Ok (Some u)) = u.digital_signature

abbrev pub may_sign_code : Held Bool → Bool
may_sign_code (Err e) = false
may_sign_code (Ok None) = false
may_sign_code (Ok (Some is)) = is

abbrev pub usages_refusal : Cert → Option SigstoreError
usages_refusal c =
    if may_sign (usage c)
    then (if may_sign_code (code_signing c) then None else Some CertificateWithoutCodeSigningKeyUsage)
    else Some CertificateWithoutDigitalSignatureKeyUsage

-- exactly one, and well formed
abbrev pub is_named : List Extension → Bool
is_named [] = false
is_named (e ∷ []) = is_some (general_names_of e.value)
is_named (e ∷ f ∷ es) = false

abbrev pub names_refusal : Cert → Option SigstoreError
names_refusal c =
    if is_named (with_oid subject_alternative_name c.extensions) then None
    else Some CertificateWithoutSubjectAlternativeName

abbrev pub validity_refusal : Cert → ℤ → Option SigstoreError
validity_refusal c now = if int_lt now c.not_before then Some (CertificateValidityError c.not_before) else None

abbrev pub expiration_refusal : Cert → ℤ → Option SigstoreError
expiration_refusal c at =
    if int_lt at c.not_before then Some (CertificateExpiredBeforeSignaturesSubmittedToRekor at c.not_before)
    else if int_lt c.not_after at then Some (CertificateIssuedAfterSignaturesSubmittedToRekor at c.not_after)
    else None

-- the first cause of the four
abbrev pub trust_refusal : Cert → ℤ → ℤ → Option SigstoreError
trust_refusal c at now =
    or_else (usages_refusal c) (or_else (names_refusal c) (or_else (validity_refusal c now) (expiration_refusal c at)))
