-- Two checkers that say the same of the signatures of paths that would hold have the same issuer.
use Rattle.std.proofs.Common.{◌≡◌, ℤ, List, [], ◌∷◌, Option, Some, None, refl, sym}
use Rattle.std.proofs.Common.{ap, ◌∙◌}
use Rattle.sig_certificate.specs.Certificate.{Cert}
use Rattle.sig_verify.specs.CertificateLinks.{OfIssuer}
use Rattle.sig_x509.proofs.Elements.{at_contained}
use Rattle.sig_x509.proofs.PathAnswers.{Tells, tells}
use Rattle.sig_x509.proofs.PathSignatures.{also_signed_up, every_genuine}
use Rattle.sig_x509.specs.Issuance.{Accepts}
use Rattle.sig_x509.specs.Issued.{IsSignedBy}
use Rattle.sig_x509.specs.Path.{AreSignedUp, HasPath, IsFirstInPath, IsNext, IsPath, every_signature}
use Rattle.sig_x509.specs.PathSearch.{first_issuer}
use Rattle.sig_x509.specs.Pool.{Pool, intermediate_in}
use Rattle.sig_x509.specs.declared.issuer.Issuer.{Issuer}
use Rattle.sig_x509.specs.declared.issuer.Issuer.TheVariants.{Anchor, Intermediate}
use Rattle.sig_questions.specs.Asked.{issuer_in}

-- ---- a path and its issuer

pub first_signed : (accepts : Accepts) (c : Cert) (path : List Cert) (anchor : Cert) → AreSignedUp accepts c path anchor
    → IsSignedBy accepts c (issuer_in path anchor)
first_signed accepts c [] anchor signed = signed
first_signed accepts c (x ∷ xs) anchor signed = signed.0

module _ (pool : Pool) (c : Cert) (t : ℤ) where
  -- the same path, whose signatures are genuine under another checker
  abbrev pub with_signatures : (accepts other : Accepts) (path : List Cert) (anchor : Cert)
      → IsPath accepts pool c t path anchor → AreSignedUp other c path anchor → IsPath other pool c t path anchor
  with_signatures accepts other path anchor is signed = record {
    begun = is.begun;
    lasting = is.lasting;
    purpose = is.purpose;
    few = is.few;
    trusted = is.trusted;
    given = is.given;
    may_issue = is.may_issue;
    path_length = is.path_length;
    signed = signed;
  }

  abbrev pub would_hold : (accepts : Accepts) (path : List Cert) (anchor : Cert)
      → IsPath accepts pool c t path anchor → IsPath every_signature pool c t path anchor
  would_hold accepts path anchor is =
      with_signatures accepts every_signature path anchor is (every_genuine accepts c path anchor is.signed)

  -- it has an issuer
  pub has_issuer : (accepts : Accepts) (path : List Cert) (anchor : Cert) → IsPath accepts pool c t path anchor
      → (issuer : Issuer) × HasPath accepts pool c t issuer
  has_issuer accepts [] anchor is = (
    Anchor is.trusted.0,
    record {
      certificate = anchor;
      there = at_contained pool.anchors anchor is.trusted;
      over = [];
      anchor = anchor;
      path = is;
      is = (refl, refl);
    },
  )
  has_issuer accepts (x ∷ xs) anchor is =
      let has = is.given 0 x refl in (
        Intermediate has.0,
        record {
          certificate = x;
          there = ap intermediate_in (at_contained pool.intermediates (Some x) has);
          over = x ∷ xs;
          anchor = anchor;
          path = is;
          is = (xs, refl);
        },
      )

  -- which is the first above the certificate
  pub issuer_is : (accepts : Accepts) (issuer : Issuer) → (has : HasPath accepts pool c t issuer)
      → has.certificate ≡ issuer_in has.over has.anchor
  issuer_is accepts (Anchor index) has =
      sym has.is.1 ∙ sym (ap (λ (path : List Cert). issuer_in path has.anchor) has.is.0)
  issuer_is accepts (Intermediate index) has = sym (ap (λ (path : List Cert). issuer_in path has.anchor) has.is.1)

  -- where there is an issuer, one is the first
  pub some_first : (accepts : Accepts) (issuer : Issuer) → HasPath accepts pool c t issuer
      → (first : Issuer) × IsFirstInPath accepts pool c t first
  unfolding Tells
  some_first accepts issuer has = by (first_issuer accepts pool c t) (tells accepts pool c t)
    where
      by : (o : Option Issuer) → Tells accepts pool c t o → (first : Issuer) × IsFirstInPath accepts pool c t first
      by None none = absurd (none issuer has)
      by (Some found) first = (found, first)

-- where a path leads to a trust anchor, the certificate has an issuer
pub some_issuer : (accepts : Accepts) (pool : Pool) (c : Cert) (path : List Cert) (anchor : Cert)
    → IsPath accepts pool c c.not_before path anchor → OfIssuer accepts pool c (λ x. Unit {0})
some_issuer accepts pool c path anchor is =
    let has = has_issuer pool c c.not_before accepts path anchor is in
    let found = some_first pool c c.not_before accepts has.0 has.1 in
    record { issuer = found.0; first = found.1; holds = tt }

-- ---- two checkers

-- they say the same of each signature of a path that would hold
abbrev pub AgreeAlong : Accepts → Accepts → Pool → Cert → ℤ → Type 0
AgreeAlong one other pool c t = (path : List Cert) (anchor : Cert) → IsPath every_signature pool c t path anchor
    → (y x : Cert) → IsNext c path anchor y x
    → one x.spki y.algorithm y.tbs y.signature ≡ other x.spki y.algorithm y.tbs y.signature

module _ (pool : Pool) (c : Cert) (t : ℤ) where
  abbrev pub also_has : (one other : Accepts) → AgreeAlong one other pool c t → (issuer : Issuer)
      → HasPath one pool c t issuer → HasPath other pool c t issuer
  also_has one other agree issuer has = record {
    certificate = has.certificate;
    there = has.there;
    over = has.over;
    anchor = has.anchor;
    path = with_signatures pool c t one other has.over has.anchor has.path
        (also_signed_up one other c has.over has.anchor
        (agree has.over has.anchor (would_hold pool c t one has.over has.anchor has.path)) has.path.signed);
    is = has.is;
  }

  pub agree_back : (one other : Accepts) → AgreeAlong one other pool c t → AgreeAlong other one pool c t
  agree_back one other agree path anchor is y x next = sym (agree path anchor is y x next)

  abbrev pub first_too : (one other : Accepts) → AgreeAlong one other pool c t → (issuer : Issuer)
      → IsFirstInPath one pool c t issuer → IsFirstInPath other pool c t issuer
  first_too one other agree issuer is = record {
    path = also_has one other agree issuer is.path;
    first = λ earlier before has. is.first earlier before
        (also_has other one (agree_back one other agree) earlier has);
  }
