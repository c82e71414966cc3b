-- *Subject*: what a certificate names: the first email or URI of its subject alternative name (RFC 5280 section
-- 4.2.1.6).
use Rattle.std.specs.Prelude.{List, [], ◌∷◌, Option, Some, None, option_map, Result, Err}
use Rattle.std.specs.Option.{ok_or}
use Rattle.sig_base.specs.OptionSteps.{or_else}
use Rattle.sig_base.specs.declared.error.SigstoreError.{SigstoreError}
use Rattle.sig_base.specs.declared.error.SigstoreError.TheVariants.{CertificateParsingError}
use Rattle.sig_base.specs.declared.error.SigstoreError.TheVariants.{CertificateWithIncompleteSubjectAlternativeName}
use Rattle.sig_certificate.specs.Certificate.{Extension, Cert}
use Rattle.sig_certificate.specs.Lookups.{with_oid}
use Rattle.sig_certificate.specs.Names.{Name, Email, Uri, Other, Unread, general_names_of}
use Rattle.sig_der.specs.ObjectIdentifiers.{subject_alternative_name}
use Rattle.sig_policy.specs.Texts.{utf8_text}
use Rattle.sig_signer.specs.declared.subject.CertificateSubject.{CertificateSubject}
use Rattle.sig_signer.specs.declared.subject.CertificateSubject.TheVariants.{Email as ByEmail, Uri as ByUri}

-- the names of the only extension; absent if there is none, if there are several, and if it is malformed
abbrev pub only_names : List Extension → Option (List Name)
only_names [] = None
only_names (e ∷ []) = general_names_of e.value
only_names (e ∷ f ∷ es) = None

abbrev pub names_in : Cert → Option (List Name)
names_in c = only_names (with_oid subject_alternative_name c.extensions)

-- the subject that a name is; emails and URIs are ASCII, and so UTF-8
abbrev pub subject_in : Name → Option CertificateSubject
subject_in (Email text) = option_map (λ t. ByEmail t) (utf8_text text)
subject_in (Uri text) = option_map (λ t. ByUri t) (utf8_text text)
subject_in (Other oid value) = None
subject_in Unread = None

abbrev pub first_subject : List Name → Option CertificateSubject
first_subject [] = None
first_subject (n ∷ ns) = or_else (subject_in n) (first_subject ns)

abbrev pub subject_of_names : Option (List Name) → Result CertificateSubject SigstoreError
subject_of_names None = Err CertificateParsingError
subject_of_names (Some names) = ok_or (first_subject names) CertificateWithIncompleteSubjectAlternativeName

abbrev pub subject_answer : Cert → Result CertificateSubject SigstoreError
subject_answer c = subject_of_names (names_in c)
