-- *Subject*, in the words of RFC 5280 section 4.2.1.6: the first of a certificate's alternative names that is an email
-- or a URI.
use Rattle.std.specs.Prelude.{◌≡◌, ⊤, List, ◌∷◌, [], ◌++◌, Some}
use Rattle.std.specs.List.{AllByRecursion}
use Rattle.std.specs.Str.{IsUtf8}
use Rattle.sig_certificate.specs.Certificate.{Extension, Cert}
use Rattle.sig_certificate.specs.Lookups.{with_oid}
use Rattle.sig_certificate.specs.Names.{Name, Email, Uri, Other, Unread, general_names_of}
use Rattle.sig_der.specs.ObjectIdentifiers.{subject_alternative_name}
use Rattle.sig_signer.specs.declared.subject.CertificateSubject.{CertificateSubject}
use Rattle.sig_signer.specs.declared.subject.CertificateSubject.TheVariants.{Email as ByEmail, Uri as ByUri}

-- exactly one extension has alternative names, and these are the names
pub record HasNames (c : Cert) (names : List Name) : Type 0 where
  pub extension : Extension
  pub one : with_oid subject_alternative_name c.extensions ≡ extension ∷ []
  pub are : general_names_of extension.value ≡ Some names

-- the name is neither an email nor a URI. Both are ASCII (IA5String), and so UTF-8
abbrev pub IsNobody : Name → Type 0
IsNobody (Email text) = ¬ IsUtf8 text
IsNobody (Uri text) = ¬ IsUtf8 text
IsNobody (Other oid value) = ⊤
IsNobody Unread = ⊤

-- the name is this subject
abbrev pub IsSubject : Name → CertificateSubject → Type 0
IsSubject (Email text) subject = (subject ≡ ByEmail text) × IsUtf8 text
IsSubject (Uri text) subject = (subject ≡ ByUri text) × IsUtf8 text
IsSubject (Other oid value) subject = ⊥
IsSubject Unread subject = ⊥

-- the first of the names that is an email or a URI
pub record IsFirstSubject (names : List Name) (subject : CertificateSubject) : Type 0 where
  pub before : List Name
  pub name : Name
  pub after : List Name
  pub split : names ≡ before ++ name ∷ after
  pub others : AllByRecursion IsNobody before
  pub is : IsSubject name subject

abbrev pub HasSubject : Cert → CertificateSubject → Type 0
HasSubject c subject = (names : List Name) × HasNames c names × IsFirstSubject names subject

abbrev pub HasNoNames : Cert → Type 0
HasNoNames c = (names : List Name) → ¬ HasNames c names

abbrev pub NamesNobody : Cert → Type 0
NamesNobody c = (names : List Name) × HasNames c names × AllByRecursion IsNobody names
