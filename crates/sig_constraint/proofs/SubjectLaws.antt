-- The verifiers of subjects, in words.
use Rattle.std.proofs.Common.{◌≡◌, ◌↔◌, ◌⊎◌, ℕ, Bool, true, false, ◌&&◌, List, Option, Some, None, refl, sym, ap, ◌∙◌, inl, inr}
use Rattle.std.specs.Str.{bytes_eq}
use Rattle.std.proofs.lemmas.Bool.{true≢false}
use Rattle.std.proofs.lemmas.Slice.Eq.{bytes_eq-Decides}
use Rattle.sig_signer.specs.Signer.{Signer}
use Rattle.sig_signer.specs.declared.subject.CertificateSubject.{CertificateSubject}
use Rattle.sig_signer.specs.declared.subject.CertificateSubject.TheVariants.{Email, Uri}
use Rattle.sig_constraint.specs.Subjects.{IsOfEmail, IsOfUrl, accepts_issuer, is_of_email, is_of_url, is_text}
use Rattle.sig_constraint.specs.Subjects.{names_email, names_url}
use Rattle.sig_constraint.specs.Texts.{accepts}
use Rattle.sig_constraint.specs.declared.string_verifier.StringVerifier.{StringVerifier}

both : (a b : Bool) → (a && b) ≡ true → (a ≡ true) × (b ≡ true)
both true b e = (refl, e)
both false b e = absurd (true≢false (sym e))

and : (a b : Bool) → a ≡ true → b ≡ true → (a && b) ≡ true
and true b first second = second
and false b first second = absurd (true≢false (sym first))

-- ---- an email

named : (email : StringVerifier) (subject : CertificateSubject) → names_email email subject ≡ true
    → (text : List ℕ) × ((subject ≡ Email text) × (accepts email text ≡ true))
named email (Email text) e = (text, (refl, e))
named email (Uri text) e = absurd (true≢false (sym e))

issued : (issuer : Option StringVerifier) (said : Option (List ℕ)) → accepts_issuer issuer said ≡ true
    → (issuer ≡ None) ⊎ ((asked : StringVerifier) × ((issuer ≡ Some asked)
    × ((text : List ℕ) × ((said ≡ Some text) × (accepts asked text ≡ true)))))
issued None said e = inl refl
issued (Some asked) None e = absurd (true≢false (sym e))
issued (Some asked) (Some text) e = inr (asked, (refl, (text, (refl, e))))

is_issued : (issuer : Option StringVerifier) (said : Option (List ℕ))
    → (issuer ≡ None) ⊎ ((asked : StringVerifier) × ((issuer ≡ Some asked)
    × ((text : List ℕ) × ((said ≡ Some text) × (accepts asked text ≡ true)))))
    → accepts_issuer issuer said ≡ true
is_issued issuer said (inl none) = rw none refl
is_issued issuer said (inr (asked, (is, (text, (there, accepted))))) = rw (is, there) accepted

pub email_law : (email : StringVerifier) (issuer : Option StringVerifier) (signer : Option Signer)
    → (is_of_email email issuer signer ≡ true) ↔ IsOfEmail email issuer signer
email_law email issuer signer = (to signer, from) where
  to : (signer : Option Signer) → is_of_email email issuer signer ≡ true → IsOfEmail email issuer signer
  to None e = absurd (true≢false (sym e))
  to (Some s) e =
      let parts = both (names_email email s.subject) (accepts_issuer issuer s.issuer) e in
      let name = named email s.subject parts.0 in
      record {
        by = s;
        there = refl;
        text = name.0;
        subject = name.1.0;
        accepted = name.1.1;
        issued = issued issuer s.issuer parts.1;
      }

  from : IsOfEmail email issuer signer → is_of_email email issuer signer ≡ true
  from is =
      let first : names_email email is.by.subject ≡ true = rw is.subject is.accepted in
      rw is.there
      (and (names_email email is.by.subject) (accepts_issuer issuer is.by.issuer) first
      (is_issued issuer is.by.issuer is.issued))

-- ---- a URI

url_is : (url : List ℕ) (subject : CertificateSubject) → names_url url subject ≡ true → subject ≡ Uri url
url_is url (Email text) e = absurd (true≢false (sym e))
url_is url (Uri text) e = ap (λ (t : List ℕ). Uri t) ((bytes_eq-Decides text url).0 e)

text_is : (asked : List ℕ) (said : Option (List ℕ)) → is_text asked said ≡ true → said ≡ Some asked
text_is asked None e = absurd (true≢false (sym e))
text_is asked (Some text) e = ap (λ (t : List ℕ). Some t) ((bytes_eq-Decides text asked).0 e)

pub url_law : (url issuer : List ℕ) (signer : Option Signer)
    → (is_of_url url issuer signer ≡ true) ↔ IsOfUrl url issuer signer
url_law url issuer signer = (to signer, from) where
  to : (signer : Option Signer) → is_of_url url issuer signer ≡ true → IsOfUrl url issuer signer
  to None e = absurd (true≢false (sym e))
  to (Some s) e =
      let parts = both (names_url url s.subject) (is_text issuer s.issuer) e in
      record {
        by = s;
        there = refl;
        subject = url_is url s.subject parts.0;
        issued = text_is issuer s.issuer parts.1;
      }

  from : IsOfUrl url issuer signer → is_of_url url issuer signer ≡ true
  from is =
      let first : names_url url is.by.subject ≡ true = rw is.subject ((bytes_eq-Decides url url).1 refl) in
      let second : is_text issuer is.by.issuer ≡ true = rw is.issued ((bytes_eq-Decides issuer issuer).1 refl) in
      rw is.there (and (names_url url is.by.subject) (is_text issuer is.by.issuer) first second)
