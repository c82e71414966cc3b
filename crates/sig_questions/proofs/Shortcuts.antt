-- What rests on the signature of a certificate: `issuer`, if no shortcut goes past its step of some path.
use Rattle.std.proofs.Common.{◌≡◌, ◌⊎◌, ℕ, suc, Bool, true, false, ◌&&◌, List, [], ◌∷◌, ◌++◌, Some, inl, inr, refl, sym}
use Rattle.std.proofs.Common.{ap, subst, ◌∙◌, slice_get}
use Rattle.std.specs.List.{list_any}
use Rattle.std.specs.Prelude.{Contains, bytes_eq}
use Rattle.std.proofs.lemmas.Bool.{and_parts, and_from}
use Rattle.std.proofs.lemmas.List.Elements.{Contains-append_cases, Contains-append_left}
use Rattle.std.proofs.lemmas.List.Elements.{Contains-append_right}
use Rattle.std.proofs.lemmas.Slice.Eq.{bytes_eq-Decides}
use Rattle.sig_base.proofs.AcceptedRows.{accepted-rows}
use Rattle.sig_base.specs.declared.checker.AcceptedRow.{AcceptedRow}
use Rattle.sig_base.specs.declared.checker.Operation.TheVariants as kinds
use Rattle.sig_certificate.specs.Certificate.{Cert}
use Rattle.sig_checked_bundle.proofs.Certificates.{OneCertificate}
use Rattle.sig_verify.proofs.Parts.{AnchoredParts, checked_from, checked_to, trust_with}
use Rattle.sig_verify.specs.CertificateLinks.{HasIssuer, Trust}
use Rattle.sig_verify.specs.Links.{Inputs}
use Rattle.sig_verify.specs.declared.link.Link.TheVariants.{Issuer}
use Rattle.sig_x509.proofs.Elements.{any_from, any_is, at_contained, contains_at}
use Rattle.sig_x509.proofs.PossibleLaws.{from_present}
use Rattle.sig_x509.specs.AskedAnchors.{IsSameSigner}
use Rattle.sig_x509.specs.Path.{AreSignedUp, IsNext, IsPath, MayIssue, every_signature}
use Rattle.sig_x509.specs.Pool.{pool_over}
use Rattle.sig_questions.proofs.Issuers.{some_issuer, with_signatures}
use Rattle.sig_questions.proofs.PathTables.{after, at_front, no_leaf, rest_from, rest_rows, same_signed, signed_up}
use Rattle.sig_questions.proofs.RowLaws.{empty_has, has_one}
use Rattle.sig_questions.specs.Asked.{issuer_in, signature_row}
use Rattle.sig_questions.specs.Matters.{HasShortcut, RestsOn, checker_with, last_of}

-- ---- the rows below a step

-- those of the signatures from c up to the last of these
abbrev pub below_rows : Cert → List Cert → List AcceptedRow
below_rows c [] = []
below_rows c (x ∷ xs) = signature_row c x ∷ below_rows x xs

pub record IsBelow (c : Cert) (lower : List Cert) (row : AcceptedRow) : Type 0 where
  pub signed : Cert
  pub signer : Cert
  pub from : Contains (c ∷ lower) signed
  pub to : Contains lower signer
  pub named : signed.issuer ≡ signer.subject
  pub is : row ≡ signature_row signed signer

below_from : (c : Cert) (lower upper : List Cert) (anchor : Cert) → AreSignedUp every_signature c (lower ++ upper) anchor
    → (row : AcceptedRow) → Contains (below_rows c lower) row → IsBelow c lower row
below_from c [] upper anchor signed row has = absurd (empty_has row has)
below_from c (x ∷ xs) upper anchor signed row has =
    by (Contains-append_cases (signature_row c x ∷ []) (below_rows x xs) row has)
    (λ later. below_from x xs upper anchor signed.1 row later)
  where
    by : Contains (signature_row c x ∷ []) row ⊎ Contains (below_rows x xs) row
        → (Contains (below_rows x xs) row → IsBelow x xs row) → IsBelow c (x ∷ xs) row
    by (inl here) later = record {
      signed = c;
      signer = x;
      from = at_front c (x ∷ xs);
      to = at_front x xs;
      named = signed.0.issuer;
      is = (has_one (signature_row c x) row).0 here;
    }
    by (inr there) later =
        let found = later there in record {
          signed = found.signed;
          signer = found.signer;
          from = after c found.signed (x ∷ xs) found.from;
          to = after x found.signer xs found.to;
          named = found.named;
          is = found.is;
        }

-- the rows of a path are those below a step, the step's and those above
split_rows : (c : Cert) (lower upper : List Cert) (anchor : Cert) (row : AcceptedRow)
    → Contains (signature_row c (issuer_in (lower ++ upper) anchor) ∷ rest_rows (lower ++ upper) anchor) row
    → Contains (signature_row (last_of c lower) (issuer_in upper anchor) ∷ (below_rows c lower ++ rest_rows upper anchor))
    row
split_rows c [] upper anchor row has = has
split_rows c (x ∷ xs) upper anchor row has =
    by (Contains-append_cases (signature_row c x ∷ [])
    (signature_row x (issuer_in (xs ++ upper) anchor) ∷ rest_rows (xs ++ upper) anchor) row has)
    (λ later. split_rows x xs upper anchor row later)
  where
    step : AcceptedRow
    step = signature_row (last_of x xs) (issuer_in upper anchor)

    others : List AcceptedRow
    others = below_rows x xs ++ rest_rows upper anchor

    by : Contains (signature_row c x ∷ []) row
        ⊎ Contains (signature_row x (issuer_in (xs ++ upper) anchor) ∷ rest_rows (xs ++ upper) anchor) row
        → (Contains (signature_row x (issuer_in (xs ++ upper) anchor) ∷ rest_rows (xs ++ upper) anchor) row
        → Contains (step ∷ others) row) → Contains (step ∷ (signature_row c x ∷ others)) row
    by (inl here) later =
        after step row (signature_row c x ∷ others) (Contains-append_left (signature_row c x ∷ []) others row here)
    by (inr there) later = elim (Contains-append_cases (step ∷ []) others row (later there)) [
      | inl first ↦ Contains-append_left (step ∷ []) (signature_row c x ∷ others) row first
      | inr other ↦
          after step row (signature_row c x ∷ others) (after (signature_row c x) row others other)
    ]

-- ---- no other path has only these rows

module _ (one : OneCertificate) {i : Inputs} (p : AnchoredParts i) (lower upper : List Cert) (anchor : Cert)
    (is : IsPath every_signature (pool_over p.anchors p.parts.checked.further) p.parts.checked.certificate
    p.parts.checked.certificate.not_before (lower ++ upper) anchor)
    (plain : ¬ HasShortcut (trust_with p) lower upper) where
  abbrev c : Cert
  c = p.parts.checked.certificate

  abbrev further : List Cert
  further = p.parts.checked.further

  abbrev step : AcceptedRow
  step = signature_row (last_of c lower) (issuer_in upper anchor)

  abbrev others : List AcceptedRow
  others = below_rows c lower ++ rest_rows upper anchor

  -- the certificate, or one of whom a lower intermediate has the subject and the SPKI
  abbrev IsLow : Cert → Type 0
  IsLow v = (v ≡ c) ⊎ ((y : Cert) × Contains lower y × IsSameSigner y v)

  in_further : (w : Cert) → Contains (lower ++ upper) w → Contains further w
  in_further w has =
      from_present further w (is.given has.0 w (at_contained (lower ++ upper) w has))

  may : (w : Cert) → Contains (lower ++ upper) w → MayIssue c.not_before w
  may w has = is.may_issue has.0 w (at_contained (lower ++ upper) w has)

  not_above : (v : Cert) → IsLow v → (w : Cert) → Contains upper w → v ≡ w → ⊥
  not_above v (inl leaf) w has same =
      no_leaf one p.parts.bundle p.parts.checked p.parts.passed c.not_before w
      (may w (Contains-append_right lower upper w has)) (sym leaf ∙ same)
  not_above v (inr (y, low, alike)) w has same =
      plain (record {
        below = y;
        above = w;
        from = low;
        to = Contains-append_left upper p.anchors w has;
        same = subst (λ (z : Cert). IsSameSigner y z) same alike;
      })

  in_lower : (w : Cert) → Contains (c ∷ lower) w → Contains (c ∷ further) w
  in_lower w has = elim (Contains-append_cases (c ∷ []) lower w has) [
    | inl here ↦ Contains-append_left (c ∷ []) further w here
    | inr there ↦ after c w further (in_further w (Contains-append_left lower upper w there))
  ]

  -- whoever has a row over such a certificate is such a one
  low_signer : (v : Cert) → IsLow v → Contains (c ∷ further) v → (x : Cert) → v.issuer ≡ x.subject
      → Contains others (signature_row v x) → (y : Cert) × Contains lower y × IsSameSigner y x
  low_signer v low given x named has =
      elim (Contains-append_cases (below_rows c lower) (rest_rows upper anchor) (signature_row v x) has) [
        | inl below ↦
            (let found = below_from c lower upper anchor is.signed (signature_row v x) below in
            let same : v ≡ found.signed =
            same_signed one p.parts.bundle p.parts.checked p.parts.passed v found.signed x found.signer given
            (in_lower found.signed found.from) found.is in (
              found.signer,
              found.to,
              record {
                subject = sym found.named ∙ ap (λ (d : Cert). d.issuer) (sym same) ∙ named;
                spki = ap (λ (r : AcceptedRow). r.key) (sym found.is);
              },
            ))
        | inr above ↦
            (let found = rest_from upper anchor (signature_row v x) above in
            let has_above : Contains upper found.1 = contains_at upper found.0 found.1 found.2 in
            absurd (not_above v low found.1 has_above
            (same_signed one p.parts.bundle p.parts.checked p.parts.passed v found.1 x found.3 given
            (after c found.1 further (in_further found.1 (Contains-append_right lower upper found.1 has_above)))
            found.4)))
      ]

  -- so that no trust anchor is reached
  never_up : (v : Cert) → IsLow v → Contains (c ∷ further) v → (path : List Cert) (top : Cert)
      → AreSignedUp (checker_with others).cert v path top
      → ((k : ℕ) (w : Cert) → slice_get path k ≡ Some w → Contains further w) → Contains p.anchors top → ⊥
  never_up v low given [] top signed each trusted =
      let found = low_signer v low given top signed.issuer
      ((accepted-rows others kinds.Certificate v.algorithm top.spki v.tbs v.signature).0 signed.genuine) in
      plain (record {
        below = found.0;
        above = top;
        from = found.1;
        to = Contains-append_right upper p.anchors top trusted;
        same = found.2;
      })
  never_up v low given (w ∷ ws) top signed each trusted =
      never_up w
      (inr (low_signer v low given w signed.0.issuer
      ((accepted-rows others kinds.Certificate v.algorithm w.spki v.tbs v.signature).0 signed.0.genuine)))
      (after c w further (each 0 w refl)) ws top signed.1 (λ k u at. each (suc k) u at) trusted

  pub step_matters : RestsOn i Issuer step
  step_matters = (
    others,
    λ policy. (
      checked_to p (λ trust d. HasIssuer (checker_with (step ∷ others)) trust d)
          (some_issuer (checker_with (step ∷ others)).cert (pool_over p.anchors further) c (lower ++ upper) anchor
          (with_signatures (pool_over p.anchors further) c c.not_before every_signature
          (checker_with (step ∷ others)).cert (lower ++ upper) anchor is
          (signed_up (step ∷ others) c (lower ++ upper) anchor is.signed
          (λ row has. split_rows c lower upper anchor row has)))),
      (λ holds.
          let of = checked_from one p (λ trust d. HasIssuer (checker_with others) trust d) holds in
          let found = of.first.path in
          never_up c (inl refl) (at_front c further) found.over found.anchor found.path.signed
          (λ k w at. from_present further w (found.path.given k w at)) found.path.trusted),
    ),
  )

-- ---- a step of a path, and whether a shortcut goes past it

pub record IsSplit (c : Cert) (path : List Cert) (anchor : Cert) (row : AcceptedRow) : Type 0 where
  pub lower : List Cert
  pub upper : List Cert
  pub whole : path ≡ lower ++ upper
  pub is : row ≡ signature_row (last_of c lower) (issuer_in upper anchor)

pub split_at : (c : Cert) (path : List Cert) (anchor y x : Cert) → IsNext c path anchor y x
    → IsSplit c path anchor (signature_row y x)
split_at c [] anchor y x next = record {
  lower = [];
  upper = [];
  whole = refl;
  is = ap (λ (d : Cert). signature_row d x) next.0 ∙ ap (signature_row c) next.1;
}
split_at c (z ∷ zs) anchor y x (inl next) = record {
  lower = [];
  upper = z ∷ zs;
  whole = refl;
  is = ap (λ (d : Cert). signature_row d x) next.0 ∙ ap (signature_row c) next.1;
}
split_at c (z ∷ zs) anchor y x (inr next) =
    let rest = split_at z zs anchor y x next in
    record { lower = z ∷ rest.lower; upper = rest.upper; whole = ap (λ (ws : List Cert). z ∷ ws) rest.whole; is = rest.is }

is_same : Cert → Cert → Bool
is_same y x = bytes_eq y.subject x.subject && bytes_eq y.spki x.spki

pub shortcut_or_none : (trust : Trust) (lower upper : List Cert) → HasShortcut trust lower upper ⊎ (¬ HasShortcut trust lower upper)
unfolding is_same
shortcut_or_none trust lower upper = by (list_any (λ y. list_any (is_same y) ends) lower) refl
  where
    ends : List Cert
    ends = upper ++ trust.anchors

    by : (b : Bool) → list_any (λ y. list_any (is_same y) ends) lower ≡ b
        → HasShortcut trust lower upper ⊎ (¬ HasShortcut trust lower upper)
    by true is =
        let found = any_from (λ y. list_any (is_same y) ends) lower is in
        let over = any_from (is_same found.1) ends found.3 in
        let both = and_parts _ _ over.3 in
        inl (record {
          below = found.1;
          above = over.1;
          from = contains_at lower found.0 found.1 found.2;
          to = contains_at ends over.0 over.1 over.2;
          same = record {
            subject = (bytes_eq-Decides found.1.subject over.1.subject).0 both.0;
            spki = (bytes_eq-Decides found.1.spki over.1.spki).0 both.1;
          };
        })
    by false is =
        inr (λ s.
        let wrong : false ≡ true =
        sym is ∙ any_is (λ y. list_any (is_same y) ends) lower s.from.0 s.below (at_contained lower s.below s.from)
        (any_is (is_same s.below) ends s.to.0 s.above (at_contained ends s.above s.to)
        (and_from _ _ ((bytes_eq-Decides s.below.subject s.above.subject).1 s.same.subject)
        ((bytes_eq-Decides s.below.spki s.above.spki).1 s.same.spki))) in cc)
