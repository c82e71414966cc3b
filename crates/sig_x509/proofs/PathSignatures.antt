-- Of the signatures that are on no path, were each genuine, the checker's word does not matter.
use Rattle.std.proofs.Common.{◌≡◌, ◌⊎◌, ℤ, List, [], ◌∷◌, Option, Some, None, inl, inr}
use Rattle.std.proofs.Common.{refl, sym, ◌∙◌}
use Rattle.sig_certificate.specs.Certificate.{Cert}
use Rattle.sig_x509.specs.Issuance.{Accepts}
use Rattle.sig_x509.specs.Issued.{HasProfile, IsSignedBy}
use Rattle.sig_x509.specs.Path.{AgreeOnPaths, AreSignedUp, HasPath, IsNext, IsPath}
use Rattle.sig_x509.specs.Path.{every_signature}
use Rattle.sig_x509.specs.PathSearch.{first_issuer, found_issuer, path_issuer}
use Rattle.sig_x509.specs.Pool.{Pool}
use Rattle.sig_x509.specs.declared.issuer.Issuer.{Issuer}
use Rattle.sig_x509.proofs.PathAnswers.{failed_has_none, first_is_issued, has_or_not, issued_is_first, none_is_failed}
use Rattle.sig_x509.proofs.PathAnswers.{profiled, unprofiled}

pub every_genuine : (accepts : Accepts) (c : Cert) (over : List Cert) (anchor : Cert) → AreSignedUp accepts c over anchor
    → AreSignedUp every_signature c over anchor
every_genuine accepts c [] anchor is = record { issuer = is.issuer; genuine = refl }
every_genuine accepts c (x ∷ xs) anchor is =
    (record { issuer = is.0.issuer; genuine = refl }, every_genuine accepts x xs anchor is.1)

-- the two say the same of this signature
abbrev pub Agree : Accepts → Accepts → Cert → Cert → Type 0
Agree accepts other y x = accepts x.spki y.algorithm y.tbs y.signature ≡ other x.spki y.algorithm y.tbs y.signature

also_signed : (accepts other : Accepts) (y x : Cert) → Agree accepts other y x → IsSignedBy accepts y x
    → IsSignedBy other y x
also_signed accepts other y x agree is = record { issuer = is.issuer; genuine = sym agree ∙ is.genuine }

pub also_signed_up : (accepts other : Accepts) (c : Cert) (over : List Cert) (anchor : Cert)
    → ((y x : Cert) → IsNext c over anchor y x → Agree accepts other y x)
    → AreSignedUp accepts c over anchor → AreSignedUp other c over anchor
also_signed_up accepts other c [] anchor agree is = also_signed accepts other c anchor (agree c anchor (refl, refl)) is
also_signed_up accepts other c (x ∷ xs) anchor agree is = (
  also_signed accepts other c x (agree c x (inl (refl, refl))) is.0,
  also_signed_up accepts other x xs anchor (λ y z next. agree y z (inr next)) is.1,
)

module _ (pool : Pool) (c : Cert) (t : ℤ) (profile : HasProfile c) where
  also_path : (accepts other : Accepts) → AgreeOnPaths accepts other pool c t → (over : List Cert) (anchor : Cert)
      → IsPath accepts pool c t over anchor → IsPath other pool c t over anchor
  also_path accepts other agree over anchor is =
      let were_genuine : IsPath every_signature pool c t over anchor =
      record {
        begun = is.begun;
        lasting = is.lasting;
        purpose = is.purpose;
        few = is.few;
        trusted = is.trusted;
        given = is.given;
        may_issue = is.may_issue;
        path_length = is.path_length;
        signed = every_genuine accepts c over anchor is.signed;
      } in
      record {
        begun = is.begun;
        lasting = is.lasting;
        purpose = is.purpose;
        few = is.few;
        trusted = is.trusted;
        given = is.given;
        may_issue = is.may_issue;
        path_length = is.path_length;
        signed = also_signed_up accepts other c over anchor
            (λ y x next. agree y x (record {
              profile = profile;
              over = over;
              anchor = anchor;
              path = were_genuine;
              next = next;
            }))
            is.signed;
      }

  also_has : (accepts other : Accepts) → AgreeOnPaths accepts other pool c t → (issuer : Issuer)
      → HasPath accepts pool c t issuer → HasPath other pool c t issuer
  also_has accepts other agree issuer has =
      record {
        certificate = has.certificate;
        there = has.there;
        over = has.over;
        anchor = has.anchor;
        path = also_path accepts other agree has.over has.anchor has.path;
        is = has.is;
      }

  agree_back : (accepts other : Accepts) → AgreeOnPaths accepts other pool c t → AgreeOnPaths other accepts pool c t
  agree_back accepts other agree y x asked = sym (agree y x asked)

  same_issuer : (accepts other : Accepts) → AgreeOnPaths accepts other pool c t
      → path_issuer accepts pool c t ≡ path_issuer other pool c t
  same_issuer accepts other agree = by (first_issuer accepts pool c t) (profiled accepts pool c t profile)
    where
      back : (issuer : Issuer) → HasPath other pool c t issuer → HasPath accepts pool c t issuer
      back issuer has = also_has other accepts (agree_back accepts other agree) issuer has

      by : (o : Option Issuer) → path_issuer accepts pool c t ≡ found_issuer o
          → path_issuer accepts pool c t ≡ path_issuer other pool c t
      by None e =
          let none = failed_has_none accepts pool c t e in
          e ∙ sym (none_is_failed other pool c t profile (λ issuer has. none.1 issuer (back issuer has)))
      by (Some issuer) e =
          let first = issued_is_first accepts pool c t issuer e in
          e ∙ sym (first_is_issued other pool c t issuer profile (record {
            path = also_has accepts other agree issuer first.1.path;
            first = λ earlier before has. first.1.first earlier before (back earlier has);
          }))

pub asked_alone : (accepts other : Accepts) (pool : Pool) (c : Cert) (t : ℤ) → AgreeOnPaths accepts other pool c t
    → path_issuer accepts pool c t ≡ path_issuer other pool c t
asked_alone accepts other pool c t agree = by (has_or_not accepts pool c t)
  where
    by : HasProfile c ⊎ (HasProfile c → ⊥) → path_issuer accepts pool c t ≡ path_issuer other pool c t
    by (inl profile) = same_issuer pool c t profile accepts other agree
    by (inr not_so) = unprofiled accepts pool c t not_so ∙ sym (unprofiled other pool c t not_so)
