-- Where there are no intermediates, a path is issuance by a trust anchor.
use Rattle.std.proofs.Common.{◌≡◌, ℕ, zero, ℤ, List, [], ◌∷◌, Option, Some, slice_get, length}
use Rattle.std.proofs.Common.{refl, sym, ap, subst, arith}
use Rattle.std.specs.Prelude.{◌↔◌, Contains}
use Rattle.sig_certificate.specs.Certificate.{Cert}
use Rattle.sig_x509.specs.Issuance.{Accepts}
use Rattle.sig_x509.specs.Issued.{IsIssuedBy, IsIssuedByNone, IsSignedBy}
use Rattle.sig_x509.specs.Path.{AreSignedUp, HasNoPath, HasPath, IsFirstInPath, IsPath}
use Rattle.sig_x509.specs.PathPlaces.{IsFirstIssuedAt, IsIssuedAt}
use Rattle.sig_x509.specs.Pool.{Pool, IsBefore, certificate_of}
use Rattle.sig_x509.specs.declared.issuer.Issuer.{Issuer}
use Rattle.sig_x509.specs.declared.issuer.Issuer.TheVariants.{Anchor, Intermediate}
use Rattle.sig_x509.proofs.Elements.{contains_at}

module _ (accepts : Accepts) (pool : Pool) (c : Cert) (t : ℤ) where
  -- an anchor in a path issued the leaf, whatever else the pool has
  pub anchor_issued : (index : ℕ) → (has : HasPath accepts pool c t (Anchor index))
      → IsIssuedBy accepts c t has.certificate
  anchor_issued index has =
      let signed : IsSignedBy accepts c has.certificate =
      subst (λ (a : Cert). IsSignedBy accepts c a) has.is.1
      (subst (λ (over : List Cert). AreSignedUp accepts c over has.anchor) has.is.0 has.path.signed) in
      record { begun = has.path.begun; lasting = has.path.lasting; purpose = has.path.purpose; signed = signed }

  -- so did an intermediate
  pub issuer_issued : (issuer : Issuer) → HasPath accepts pool c t issuer
      → (x : Cert) × (certificate_of pool issuer ≡ Some x) × IsIssuedBy accepts c t x
  issuer_issued (Anchor index) has = (has.certificate, has.there, anchor_issued index has)
  issuer_issued (Intermediate index) has =
      let signed : IsSignedBy accepts c has.certificate =
      (subst (λ (over : List Cert). AreSignedUp accepts c over has.anchor) has.is.1 has.path.signed).0 in (
        has.certificate,
        has.there,
        record { begun = has.path.begun; lasting = has.path.lasting; purpose = has.path.purpose; signed = signed },
      )

  pub issued_has : (index : ℕ) (x : Cert) → slice_get pool.anchors index ≡ Some x → IsIssuedBy accepts c t x
      → HasPath accepts pool c t (Anchor index)
  issued_has index x got is = record {
    certificate = x;
    there = got;
    over = [];
    anchor = x;
    path = record {
      begun = is.begun;
      lasting = is.lasting;
      purpose = is.purpose;
      few = omega arith;
      trusted = contains_at pool.anchors index x got;
      given = λ others y at. absurd cc;
      may_issue = λ others y at. absurd cc;
      path_length = λ others y at. absurd cc;
      signed = is.signed;
    };
    is = (refl, refl);
  }

  module _ (none : pool.intermediates ≡ []) where
    none_through : (index : ℕ) → ¬ HasPath accepts pool c t (Intermediate index)
    none_through index has = by has.over has.path has.is.1
      where
        by : (over : List Cert) → IsPath accepts pool c t over has.anchor → over ≡ has.certificate ∷ has.is.0 → ⊥
        by over path same =
            let given : Contains pool.intermediates (Some has.certificate) =
            path.given zero has.certificate (ap (λ (xs : List Cert). slice_get xs zero) same) in
            omega (arith, given.1, ap (λ (xs : List (Option Cert)). length xs) none)

    path_issued : (issuer : Issuer) → HasPath accepts pool c t issuer → IsIssuedAt accepts pool.anchors c t issuer
    path_issued (Anchor index) has = (index, has.certificate, refl, has.there, anchor_issued index has)
    path_issued (Intermediate index) has = absurd (none_through index has)

    issued_path : (issuer : Issuer) → IsIssuedAt accepts pool.anchors c t issuer → HasPath accepts pool c t issuer
    issued_path issuer at =
        subst (λ (i : Issuer). HasPath accepts pool c t i) (sym at.2) (issued_has at.0 at.1 at.3 at.4)

    pub alone : (issuer : Issuer) → HasPath accepts pool c t issuer ↔ IsIssuedAt accepts pool.anchors c t issuer
    alone issuer = (path_issued issuer, issued_path issuer)

    first_issued : (issuer : Issuer) → IsFirstInPath accepts pool c t issuer
        → IsFirstIssuedAt accepts pool.anchors c t issuer
    first_issued (Anchor index) is = (
      index,
      is.path.certificate,
      refl,
      is.path.there,
      anchor_issued index is.path,
      λ earlier y lt got issued. is.first (Anchor earlier) lt (issued_has earlier y got issued),
    )
    first_issued (Intermediate index) is = absurd (none_through index is.path)

    issued_first : (issuer : Issuer) → IsFirstIssuedAt accepts pool.anchors c t issuer
        → IsFirstInPath accepts pool c t issuer
    issued_first issuer at =
        subst (λ (i : Issuer). IsFirstInPath accepts pool c t i) (sym at.2)
        (record { path = issued_has at.0 at.1 at.3 at.4; first = earlier })
      where
        earlier : (other : Issuer) → IsBefore other (Anchor at.0) → ¬ HasPath accepts pool c t other
        earlier (Anchor k) lt has = at.5 k has.certificate lt has.there (anchor_issued k has)
        earlier (Intermediate k) lt has = lt

    pub first_alone : (issuer : Issuer)
        → IsFirstInPath accepts pool c t issuer ↔ IsFirstIssuedAt accepts pool.anchors c t issuer
    first_alone issuer = (first_issued issuer, issued_first issuer)

    no_path_issued : HasNoPath accepts pool c t → IsIssuedByNone accepts c t pool.anchors
    no_path_issued nowhere index x got issued = nowhere (Anchor index) (issued_has index x got issued)

    issued_no_path : IsIssuedByNone accepts c t pool.anchors → HasNoPath accepts pool c t
    issued_no_path unissued (Anchor index) has = unissued index has.certificate has.there (anchor_issued index has)
    issued_no_path unissued (Intermediate index) has = none_through index has

    pub none_alone : HasNoPath accepts pool c t ↔ IsIssuedByNone accepts c t pool.anchors
    none_alone = (no_path_issued, issued_no_path)
