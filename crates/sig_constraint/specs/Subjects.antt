-- *Asked subject*: the subject and the issuer that the certificate of a layer has to name.
use Rattle.std.specs.Prelude.{◌≡◌, ◌⊎◌, ℕ, List, Bool, true, false, ◌&&◌, Option, Some, None}
use Rattle.std.specs.Str.{bytes_eq}
use Rattle.sig_signer.specs.Signer.{Signer}
use Rattle.sig_signer.specs.declared.subject.CertificateSubject.{CertificateSubject}
use Rattle.sig_signer.specs.declared.subject.CertificateSubject.TheVariants.{Email, Uri}
use Rattle.sig_constraint.specs.Texts.{accepts}
use Rattle.sig_constraint.specs.declared.string_verifier.StringVerifier.{StringVerifier}

-- ---- an email

abbrev pub names_email : StringVerifier → CertificateSubject → Bool
names_email email (Email text) = accepts email text
names_email email (Uri text) = false

-- no issuer is asked for, or there is one that is accepted
abbrev pub accepts_issuer : Option StringVerifier → Option (List ℕ) → Bool
accepts_issuer None issuer = true
accepts_issuer (Some asked) None = false
accepts_issuer (Some asked) (Some issuer) = accepts asked issuer

abbrev pub is_of_email : StringVerifier → Option StringVerifier → Option Signer → Bool
is_of_email email issuer None = false
is_of_email email issuer (Some s) = names_email email s.subject && accepts_issuer issuer s.issuer

-- ---- a URI

abbrev pub names_url : List ℕ → CertificateSubject → Bool
names_url url (Email text) = false
names_url url (Uri text) = bytes_eq text url

-- the text is there, and is this one
abbrev pub is_text : List ℕ → Option (List ℕ) → Bool
is_text asked None = false
is_text asked (Some text) = bytes_eq text asked

abbrev pub is_of_url : List ℕ → List ℕ → Option Signer → Bool
is_of_url url issuer None = false
is_of_url url issuer (Some s) = names_url url s.subject && is_text issuer s.issuer

-- ---- in words

-- there is a signer, whose subject is an email that is accepted; and no issuer is asked for, or there is one that is
-- accepted
pub record IsOfEmail (email : StringVerifier) (issuer : Option StringVerifier) (signer : Option Signer) : Type 0 where
  pub by : Signer
  pub there : signer ≡ Some by
  pub text : List ℕ
  pub subject : by.subject ≡ Email text
  pub accepted : accepts email text ≡ true
  pub issued : (issuer ≡ None) ⊎ ((asked : StringVerifier) × ((issuer ≡ Some asked)
      × ((said : List ℕ) × ((by.issuer ≡ Some said) × (accepts asked said ≡ true)))))

-- there is a signer, whose subject is this URI, and whose issuer is this one
pub record IsOfUrl (url issuer : List ℕ) (signer : Option Signer) : Type 0 where
  pub by : Signer
  pub there : signer ≡ Some by
  pub subject : by.subject ≡ Uri url
  pub issued : by.issuer ≡ Some issuer
