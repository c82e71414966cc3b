-- Tables that have the rows of a path, and whose signatures these are.
use Rattle.std.proofs.Common.{◌≡◌, ◌⊎◌, ℕ, ℤ, zero, suc, Bool, true, false, cond, nat_eq, List, [], ◌∷◌, ◌++◌, Option, Some, None, inl, inr, refl, sym}
use Rattle.std.proofs.Common.{ap, subst, ◌∙◌}
use Rattle.std.specs.Prelude.{Contains, slice_get}
use Rattle.std.proofs.lemmas.List.Elements.{Contains-append_cases, Contains-append_left}
use Rattle.std.proofs.lemmas.List.Elements.{Contains-append_right}
use Rattle.sig_base.proofs.AcceptedRows.{accepted-rows}
use Rattle.sig_base.proofs.OptionSteps.{some_is}
use Rattle.sig_base.specs.declared.checker.AcceptedRow.{AcceptedRow}
use Rattle.sig_base.specs.declared.checker.Operation.TheVariants as kinds
use Rattle.sig_checked_bundle.specs.Checked.{Checked}
use Rattle.sig_certificate.specs.Certificate.{Cert}
use Rattle.sig_verify.specs.CertificateLinks.{HasIssuer}
use Rattle.sig_verify.specs.Links.{Inputs}
use Rattle.sig_bundle.specs.declared.bundle.Bundle.{Bundle}
use Rattle.sig_certificate.specs.Certificate.{IsCertificate}
use Rattle.sig_certificate.specs.Certificates.{AreCertificates}
use Rattle.sig_certificate.specs.Profile.{ca_refusal, code_signing, leaf_refusal, signer, unless_authority, usage}
use Rattle.sig_certificate.specs.declared.profile_error.CertificateValidationError.{CertificateValidationError}
use Rattle.sig_certificate.specs.declared.profile_error.CertificateValidationError.TheVariants.{VersionUnsupported}
use Rattle.sig_checked_bundle.proofs.Certificates.{OneCertificate}
use Rattle.sig_checked_bundle.specs.Passed.{IsPassed}
use Rattle.sig_der.specs.Element.{element}
use Rattle.sig_der.specs.Tag.{BIT_STRING, SEQUENCE}
use Rattle.sig_x509.proofs.Elements.{at_contained}
use Rattle.sig_x509.proofs.PossibleLaws.{from_present}
use Rattle.sig_x509.specs.Path.{AreSignedUp, HasPath, IsPath, MayIssue, every_signature}
use Rattle.sig_x509.specs.Pool.{Pool, pool_over}
use Rattle.sig_x509.specs.declared.issuer.Issuer.{Issuer as IssuerType}
use Rattle.sig_questions.proofs.Issuers.{first_signed, issuer_is, some_issuer, with_signatures}
use Rattle.sig_verify.proofs.Parts.{AnchoredParts}
use Rattle.sig_verify.proofs.Parts.{trust_with}
use Rattle.sig_questions.proofs.RowLaws.{empty_has, has_one}
use Rattle.sig_questions.specs.Asked.{issuer_in, signature_row}
use Rattle.sig_questions.specs.Matters.{checker_with}

-- ---- lists

pub after : {X : Type 0} (y x : X) (xs : List X) → Contains xs x → Contains (y ∷ xs) x
after y x xs has = Contains-append_right (y ∷ []) xs x has

pub at_front : {X : Type 0} (x : X) (xs : List X) → Contains (x ∷ xs) x
at_front x xs = Contains-append_left (x ∷ []) xs x ((has_one x x).1 refl)

-- ---- certificates

-- two certificates whose signatures are one question are one certificate
same_certificate : OneCertificate → (one_text other_text : List ℕ) (c w : Cert) → IsCertificate one_text c
    → IsCertificate other_text w → c.tbs ≡ w.tbs → c.algorithm ≡ w.algorithm → c.signature ≡ w.signature → c ≡ w
same_certificate one one_text other_text c w is_one is_other tbs algorithm signature =
    let last : is_one.signature_text ≡ is_other.signature_text =
    is_one.signature.spelled ∙ ap (λ (s : List ℕ). element BIT_STRING (0 ∷ s)) signature
    ∙ sym is_other.signature.spelled in
    let content : c.tbs ++ (c.algorithm ++ is_one.signature_text) ≡ w.tbs ++ (w.algorithm ++ is_other.signature_text) =
    ap (λ (s : List ℕ). s ++ (c.algorithm ++ is_one.signature_text)) tbs
    ∙ ap (λ (s : List ℕ). w.tbs ++ (s ++ is_one.signature_text)) algorithm
    ∙ ap (λ (s : List ℕ). w.tbs ++ (w.algorithm ++ s)) last in
    let text : one_text ≡ other_text =
    is_one.whole.spelled ∙ ap (element SEQUENCE) content ∙ sym is_other.whole.spelled in
    one other_text c w (subst (λ (s : List ℕ). IsCertificate s c) text is_one) is_other

-- none is both a leaf and an authority
never_both : (c : Cert) → leaf_refusal c ≡ None → ca_refusal c ≡ None → ⊥
never_both c leaf authority =
    by (nat_eq c.version 3) (ca_refusal c) authority (signer (usage c) (code_signing c)) leaf
  where
    by : (b : Bool) (o : Option CertificateValidationError) → o ≡ None
        → (s : Option CertificateValidationError) → cond b (unless_authority o s) (Some VersionUnsupported) ≡ None → ⊥
    by true None e s is = cc
    by true (Some r) e s is = absurd cc
    by false o e s is = cc

each_read : (ders : List (List ℕ)) (cs : List Cert) → AreCertificates ders cs → (k : ℕ) (w : Cert)
    → slice_get cs k ≡ Some w → (text : List ℕ) × IsCertificate text w
each_read [] [] are k w there = absurd cc
each_read [] (c ∷ cs) are k w there = absurd are
each_read (t ∷ ts) [] are k w there = absurd are
each_read (t ∷ ts) (c ∷ cs) are zero w there = (t, subst (IsCertificate t) (some_is c w there) are.0)
each_read (t ∷ ts) (c ∷ cs) are (suc k) w there = each_read ts cs are.1 k w there

module _ (one : OneCertificate) (b : Bundle) (c : Checked) (passed : IsPassed b c) where
  abbrev signers : List Cert
  signers = c.certificate ∷ c.further

  -- of the certificates of a bundle those are one whose signatures are one question
  pub same_signed : (v w a b : Cert) → Contains signers v → Contains signers w
      → signature_row v a ≡ signature_row w b → v ≡ w
  same_signed v w a b has_v has_w same =
      let held = passed.certificate in
      let first = each_read held.encodings signers held.read has_v.0 v (at_contained signers v has_v) in
      let other = each_read held.encodings signers held.read has_w.0 w (at_contained signers w has_w) in
      same_certificate one first.0 other.0 v w first.1 other.1 (ap (λ (r : AcceptedRow). r.message) same)
      (ap (λ (r : AcceptedRow). r.scheme) same) (ap (λ (r : AcceptedRow). r.signature) same)

  -- an intermediate is not the certificate of its bundle
  pub no_leaf : (t : ℤ) (w : Cert) → MayIssue t w → c.certificate ≡ w → ⊥
  no_leaf t w may same =
      never_both w (subst (λ (d : Cert). leaf_refusal d ≡ None) same passed.certificate.may_sign) may.authority

  -- the signature of the one is not that of the other
  pub apart : (t : ℤ) (w v x : Cert) → Contains c.further w → MayIssue t w
      → signature_row c.certificate x ≡ signature_row w v → ⊥
  apart t w v x has may same =
      no_leaf t w may
      (same_signed c.certificate w x v (at_front c.certificate c.further) (after c.certificate w c.further has) same)

-- ---- tables

-- the rows of the intermediates of a path
abbrev pub rest_rows : List Cert → Cert → List AcceptedRow
rest_rows [] anchor = []
rest_rows (x ∷ xs) anchor = signature_row x (issuer_in xs anchor) ∷ rest_rows xs anchor

pub rest_from : (path : List Cert) (anchor : Cert) (row : AcceptedRow) → Contains (rest_rows path anchor) row
    → (k : ℕ) × (w : Cert) × (slice_get path k ≡ Some w) × (v : Cert) × (row ≡ signature_row w v)
rest_from [] anchor row has = absurd (empty_has row has)
rest_from (x ∷ xs) anchor row has =
    by (Contains-append_cases (signature_row x (issuer_in xs anchor) ∷ []) (rest_rows xs anchor) row has)
    (λ later. rest_from xs anchor row later)
  where
    Found : List Cert → Type 0
    Found path = (k : ℕ) × (w : Cert) × (slice_get path k ≡ Some w) × (v : Cert) × (row ≡ signature_row w v)

    by : Contains (signature_row x (issuer_in xs anchor) ∷ []) row ⊎ Contains (rest_rows xs anchor) row
        → (Contains (rest_rows xs anchor) row → Found xs) → Found (x ∷ xs)
    by (inl here) later =
        (0, x, refl, issuer_in xs anchor, (has_one (signature_row x (issuer_in xs anchor)) row).0 here)
    by (inr there) later = let found = later there in (suc found.0, found.1, found.2, found.3, found.4)

-- a table that has the rows of a path
pub signed_up : (rows : List AcceptedRow) (c : Cert) (path : List Cert) (anchor : Cert)
    → AreSignedUp every_signature c path anchor
    → ((row : AcceptedRow) → Contains (signature_row c (issuer_in path anchor) ∷ rest_rows path anchor) row
    → Contains rows row)
    → AreSignedUp (checker_with rows).cert c path anchor
signed_up rows c [] anchor signed in_table = record {
  issuer = signed.issuer;
  genuine = (accepted-rows rows kinds.Certificate c.algorithm anchor.spki c.tbs c.signature).1
      (in_table (signature_row c anchor) (at_front (signature_row c anchor) []));
}
signed_up rows c (x ∷ xs) anchor signed in_table = (
  record {
    issuer = signed.0.issuer;
    genuine = (accepted-rows rows kinds.Certificate c.algorithm x.spki c.tbs c.signature).1
        (in_table (signature_row c x) (at_front (signature_row c x) (rest_rows (x ∷ xs) anchor)));
  },
  signed_up rows x xs anchor signed.1
      (λ row has. in_table row (after (signature_row c x) row (rest_rows (x ∷ xs) anchor) has)),
)

-- who issued the certificate under a table has its row there
pub issued_row : (rows : List AcceptedRow) (pool : Pool) (c : Cert) (issuer : IssuerType)
    → (has : HasPath (checker_with rows).cert pool c c.not_before issuer)
    → Contains rows (signature_row c has.certificate)
issued_row rows pool c issuer has =
    let signed = first_signed (checker_with rows).cert c has.over has.anchor has.path.signed in
    let x : Cert = issuer_in has.over has.anchor in
    subst (λ (y : Cert). Contains rows (signature_row c y))
    (sym (issuer_is pool c c.not_before (checker_with rows).cert issuer has))
    ((accepted-rows rows kinds.Certificate c.algorithm x.spki c.tbs c.signature).0 signed.genuine)

module _ (one : OneCertificate) {i : Inputs} (p : AnchoredParts i) (path : List Cert) (anchor : Cert)
    (is : IsPath every_signature (pool_over p.anchors p.parts.checked.further) p.parts.checked.certificate
    p.parts.checked.certificate.not_before path anchor) where
  abbrev c : Cert
  c = p.parts.checked.certificate

  abbrev over : Pool
  over = pool_over p.anchors p.parts.checked.further

  abbrev x : Cert
  x = issuer_in path anchor

  abbrev rest : List AcceptedRow
  rest = rest_rows path anchor

  -- the rows of the intermediates are not the certificate's
  pub not_rest : (y : Cert) → Contains rest (signature_row c y) → ⊥
  not_rest y has =
      let found = rest_from path anchor (signature_row c y) has in
      apart one p.parts.bundle p.parts.checked p.parts.passed c.not_before found.1 found.3 y
      (from_present p.parts.checked.further found.1 (is.given found.0 found.1 found.2))
      (is.may_issue found.0 found.1 found.2) found.4

  pub issuer_with : (rows : List AcceptedRow)
      → ((row : AcceptedRow) → Contains (signature_row c x ∷ rest) row → Contains rows row)
      → HasIssuer (checker_with rows) (trust_with p) p.parts.checked
  issuer_with rows in_table =
      some_issuer (checker_with rows).cert over c path anchor
      (with_signatures over c c.not_before every_signature (checker_with rows).cert path anchor is
      (signed_up rows c path anchor is.signed in_table))
