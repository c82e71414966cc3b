-- The SCT of a certificate: RFC 6962 section 3.3.
use Rattle.std.specs.Prelude.{◌≡◌, ◌≢◌, ℕ, List, [], ◌∷◌, length, Option, Some, None, Result, Ok, Err, ◌⊎◌}
use Rattle.sig_der.specs.ObjectIdentifiers.{sct_list}
use Rattle.sig_timestamp.specs.declared.sct_error.CertificateErrorKind.{CertificateErrorKind}
use Rattle.sig_timestamp.specs.declared.sct_error.CertificateErrorKind.TheVariants.{LeafSCTMissing, LeafSCTMalformed}
use Rattle.sig_certificate.specs.Certificate.{Extension, Cert}
use Rattle.sig_certificate.specs.Lookups.{with_oid}
use Rattle.sig_timestamp.specs.SctList.{Sct, IsSct, IsSctList, sct_at, sct_list_at}

-- ---- what it is

-- the extensions that list SCTs
abbrev pub sct_extensions : Cert → List Extension
sct_extensions c = with_oid sct_list c.extensions

-- The certificate has this SCT: one extension lists SCTs, and it lists only this one.
pub record HasSct (c : Cert) (s : Sct) : Type 0 where
  pub extension : Extension
  pub text : List ℕ
  pub one : sct_extensions c ≡ extension ∷ []
  pub lists : IsSctList extension.value (text ∷ [])
  pub is : IsSct text s

-- The only extension that lists SCTs does not list exactly one.
pub record ListsOthers (c : Cert) : Type 0 where
  pub extension : Extension
  pub texts : List (List ℕ)
  pub one : sct_extensions c ≡ extension ∷ []
  pub lists : IsSctList extension.value texts
  pub others : length texts ≢ 1

-- The certificate does not have exactly one SCT.
abbrev pub LacksSct : Cert → Type 0
LacksSct c = (length (sct_extensions c) ≢ 1) ⊎ ListsOthers c

-- The value is not a list of SCTs.
abbrev pub IsNoList : List ℕ → Type 0
IsNoList value = (texts : List (List ℕ)) → ¬ IsSctList value texts

-- The value lists one SCT, which is malformed.
pub record ListsNoSct (value : List ℕ) : Type 0 where
  pub text : List ℕ
  pub lists : IsSctList value (text ∷ [])
  pub none : (s : Sct) → ¬ IsSct text s

-- The only extension that lists SCTs is malformed.
pub record HasBadSct (c : Cert) : Type 0 where
  pub extension : Extension
  pub one : sct_extensions c ≡ extension ∷ []
  pub bad : IsNoList extension.value ⊎ ListsNoSct extension.value

-- ---- how it is read

-- the only SCT of a list
abbrev pub only_one : Option (List (List ℕ)) → Result (List ℕ) CertificateErrorKind
only_one None = Err LeafSCTMalformed
only_one (Some []) = Err LeafSCTMissing
only_one (Some (text ∷ [])) = Ok text
only_one (Some (text ∷ other ∷ texts)) = Err LeafSCTMissing

abbrev pub sct_or_not : Option Sct → Result Sct CertificateErrorKind
sct_or_not None = Err LeafSCTMalformed
sct_or_not (Some s) = Ok s

abbrev pub sct_in : Result (List ℕ) CertificateErrorKind → Result Sct CertificateErrorKind
sct_in (Err e) = Err e
sct_in (Ok text) = sct_or_not (sct_at text)

-- the SCT of an extension's value
unfoldable pub sct_of_value : List ℕ → Result Sct CertificateErrorKind
sct_of_value value = sct_in (only_one (sct_list_at value))

abbrev pub sct_of_list : List Extension → Result Sct CertificateErrorKind
sct_of_list [] = Err LeafSCTMissing
sct_of_list (e ∷ []) = sct_of_value e.value
sct_of_list (e ∷ f ∷ es) = Err LeafSCTMissing

unfoldable pub sct_of : Cert → Result Sct CertificateErrorKind
sct_of c = sct_of_list (sct_extensions c)
