-- Where a trust anchor issued the certificate itself, it is the first issuer in a path over any further certificates.
use Rattle.std.proofs.Common.{◌≡◌, ℕ, true, List, [], Option, Some, None, sym, ap, subst, ◌∙◌}
use Rattle.std.specs.Prelude.{slice_get}
use Rattle.sig_base.proofs.OptionSteps.{some_is}
use Rattle.sig_certificate.specs.Certificate.{Cert}
use Rattle.sig_checked_bundle.specs.Checked.{Checked}
use Rattle.sig_timestamp.specs.SctBytes.{signed_bytes, signed_of}
use Rattle.sig_x509.proofs.IssuedLaws.{issued_from, issued_is}
use Rattle.sig_x509.proofs.PathAnswers.{anchor_issues, anchor_path}
use Rattle.sig_x509.specs.Issuance.{Accepts}
use Rattle.sig_x509.specs.Issued.{IsFirstIssuer}
use Rattle.sig_x509.specs.Path.{HasPath, IsFirstInPath}
use Rattle.sig_x509.specs.Pool.{Pool, IsBefore, intermediate_in, pool_over, present}
use Rattle.sig_x509.specs.declared.issuer.Issuer.{Issuer}
use Rattle.sig_x509.specs.declared.issuer.Issuer.TheVariants.{Anchor, Intermediate}
use Rattle.sig_verify.proofs.Parts.{checked_as}
use Rattle.sig_verify.specs.CertificateLinks.{HasIssuer, IsVouchedFor, OfIssuer, Trust}
use Rattle.sig_verify.specs.Links.{Inputs, Outside}
use Rattle.sig_verify.specs.LongerChains.{DirectChain, HasAnchor, IsVouchedUnderAnchor, LongerChainsStayValid, OfAnchor}
use Rattle.sig_verify.specs.TrustChain.{TrustChain}
use Rattle.sig_verify.specs.Verdict.{Checker}

module _ (accepts : Accepts) (anchors further : List Cert) (c : Cert) where
  abbrev over : Pool
  over = pool_over anchors further

  first_path : (index : ℕ) → IsFirstIssuer accepts c c.not_before anchors index
      → IsFirstInPath accepts over c c.not_before (Anchor index)
  first_path index is = record {
    path = anchor_path accepts over c c.not_before index is.anchor is.there
        (issued_is accepts c c.not_before is.anchor is.issued);
    first = before;
  }
    where
      before : (earlier : Issuer) → IsBefore earlier (Anchor index) → ¬ HasPath accepts over c c.not_before earlier
      before (Anchor k) lt has =
          is.first k has.certificate lt has.there
          (issued_from accepts c c.not_before has.certificate (anchor_issues accepts over c c.not_before k has))
      before (Intermediate k) lt has = lt

  widened : (P : Cert → Type 0) → OfAnchor accepts anchors c P → OfIssuer accepts over c P
  widened P of =
      let first = first_path of.index of.first in
      record {
        issuer = Anchor of.index;
        first = first;
        holds = subst P (some_is of.first.anchor first.path.certificate (sym of.first.there ∙ first.path.there))
            of.holds;
      }

  -- no intermediate is there where none was given
  narrowed : further ≡ [] → (P : Cert → Type 0) → OfIssuer accepts over c P → OfAnchor accepts anchors c P
  narrowed none P of = by of.issuer of.first of.holds
    where
      by : (issuer : Issuer) → (first : IsFirstInPath accepts over c c.not_before issuer) → P first.path.certificate
          → OfAnchor accepts anchors c P
      by (Anchor k) first holds = record {
        index = k;
        first = record {
          anchor = first.path.certificate;
          there = first.path.there;
          issued = issued_from accepts c c.not_before first.path.certificate
              (anchor_issues accepts over c c.not_before k first.path);
          first = λ earlier x lt got is. first.first (Anchor earlier) lt
              (anchor_path accepts over c c.not_before earlier x got (issued_is accepts c c.not_before x is));
        };
        holds = holds;
      }
      by (Intermediate k) first holds =
          absurd (let there : ◌≡◌ {A = Option Cert} None (Some first.path.certificate) =
          sym (ap (λ (xs : List Cert). intermediate_in (slice_get (present xs) k)) none) ∙ first.path.there in cc)

-- ---- the chain of trust

widened_sct : (k : Checker) (trust : Trust) (c : Checked) → IsVouchedUnderAnchor k trust c → IsVouchedFor k trust c
widened_sct k trust c (s, has, of) = (
  s,
  has,
  widened k.cert trust.anchors c.further c.certificate
      (λ x. (point : List ℕ) × (trust.points s.log_id ≡ Some point)
      × (k.point point (signed_bytes (signed_of c.certificate x.spki s)) s.signature ≡ true)) of,
)

narrowed_sct : (k : Checker) (trust : Trust) (c : Checked) → c.further ≡ [] → IsVouchedFor k trust c
    → IsVouchedUnderAnchor k trust c
narrowed_sct k trust c none (s, has, of) = (
  s,
  has,
  narrowed k.cert trust.anchors c.further c.certificate none
      (λ x. (point : List ℕ) × (trust.points s.log_id ≡ Some point)
      × (k.point point (signed_bytes (signed_of c.certificate x.spki s)) s.signature ≡ true)) of,
)

longer_chain : (o : Outside) (i : Inputs) → DirectChain o i → TrustChain o i
longer_chain o i direct = record {
  issuer = checked_as i (λ trust c. HasAnchor o.checker trust c) (λ trust c. HasIssuer o.checker trust c)
      (λ p of. widened o.checker.cert p.anchors p.parts.checked.further p.parts.checked.certificate
      (λ x. Unit {0}) of) direct.issuer;
  sct = checked_as i (λ trust c. IsVouchedUnderAnchor o.checker trust c) (λ trust c. IsVouchedFor o.checker trust c)
      (λ p of. widened_sct o.checker _ p.parts.checked of) direct.sct;
  policy = direct.policy;
  signature = direct.signature;
  body = direct.body;
  time = direct.time;
  promise = direct.promise;
  note_key = direct.note_key;
  note_match = direct.note_match;
  inclusion = direct.inclusion;
}

pub longer_chains_stay_valid : LongerChainsStayValid
longer_chains_stay_valid = record {
  chain = longer_chain;
  same = first_path;
  alone = λ k trust c none. (
    (
      narrowed k.cert trust.anchors c.further c.certificate none (λ x. Unit {0}),
      widened k.cert trust.anchors c.further c.certificate (λ x. Unit {0}),
    ),
    (narrowed_sct k trust c none, widened_sct k trust c),
  );
}
