-- What is listed are the questions.
use Rattle.std.proofs.Common.{◌≡◌, ◌↔◌, ℕ, List, [], ◌∷◌, ◌++◌, Option, Ok, Err, inl, refl, sym, ap, subst, ◌∙◌}
use Rattle.std.proofs.Math.Path.{fun_ext}
use Rattle.std.specs.List.{AllByRecursion}
use Rattle.std.specs.Prelude.{Contains, ◌≢◌}
use Rattle.std.proofs.lemmas.List.Elements.{Contains-append_left}
use Rattle.sig_base.proofs.ResultSteps.{ok_is}
use Rattle.sig_base.specs.Rules.{FailsFirst}
use Rattle.sig_base.specs.declared.checker.AcceptedRow.{AcceptedRow}
use Rattle.sig_checked_bundle.proofs.Certificates.{OneCertificate}
use Rattle.sig_checked_bundle.specs.Checked.{Checked}
use Rattle.sig_certificate.specs.Certificate.{Cert}
use Rattle.sig_certificate.specs.Certificates.{AreCertificates}
use Rattle.sig_root.specs.declared.record.TrustedRoot.{TrustedRoot}
use Rattle.sig_timestamp.specs.Keyring.{key_of}
use Rattle.sig_verify.specs.CertificateLinks.{HasIssuer, Trust}
use Rattle.sig_verify.proofs.JudgedLaws.{all_joined, fails_after}
use Rattle.sig_verify.specs.EntryLinks.{IsOfBytes, LogKeys}
use Rattle.sig_verify.specs.LinkLaws.{IsReadCertificate}
use Rattle.sig_verify.specs.Links.{Inputs, OfPassed}
use Rattle.sig_verify.specs.RootLinks.{OfTrust, authorities, ct_keys, rekor_keys}
use Rattle.sig_verify.specs.Verifier.{values_of}
use Rattle.sig_verify.specs.declared.link.Link.{Link as LinkType}
use Rattle.sig_verify.specs.declared.link.Link.TheVariants.{Issuance, Issuer}
use Rattle.sig_x509.specs.Issuance.{AreAnchors}
use Rattle.sig_x509.specs.Issued.{HasProfile}
use Rattle.sig_questions.proofs.PathRows.{has_certificate}
use Rattle.sig_questions.proofs.SctRows.{has_point}
use Rattle.sig_x509.specs.Path.{IsNext}
use Rattle.sig_x509.specs.Pool.{pool_over}
use Rattle.sig_questions.proofs.AskedRows.{IsAskedOf, asked_as}
use Rattle.sig_questions.proofs.EntryRows.{has_content, has_entry}
use Rattle.sig_questions.proofs.Issuers.{some_issuer}
use Rattle.sig_verify.proofs.Parts.{AnchoredParts, Parts, checked_from, checked_to, log_keys_of, of_parts, one_list}
use Rattle.sig_verify.proofs.Parts.{parts_from, parts_to, root_from, trust_with}
use Rattle.sig_questions.proofs.OrderRows.{rows_in_order}
use Rattle.sig_questions.proofs.RowLaws.{empty_has, has_either, has_one}
use Rattle.sig_x509.specs.Path.{every_signature}
use Rattle.sig_questions.specs.Asked.{IsAskedBy, signature_row}
use Rattle.sig_questions.specs.Listed.{GivesTrust, AreListed, IsAnswered, ListedTextsAreAnswered, Listing}
use Rattle.sig_questions.specs.Listed.{ReadIfOk, trust_in}
use Rattle.sig_questions.specs.Lists.{certificate_questions, content_questions, entry_questions, questions_after}
use Rattle.sig_questions.specs.Lists.{questions_of, sct_questions}
use Rattle.sig_questions.specs.Order.{AreInOrder, IsAskedAt}
use Rattle.sig_questions.specs.Questions.{AreQuestions, HoldsUnasked, QuestionsAreOneList, accepting, front_links}
use Rattle.sig_questions.specs.Questions.{question_links}
use Rattle.sig_questions.specs.declared.listing.NoQuestions.TheVariants.{Link, TooLong, OutOfMemory}
use Rattle.sig_questions.specs.declared.trust.TrustParts.{TrustParts}

module _ (one : OneCertificate) (i : Inputs) (p : AnchoredParts i) where
  abbrev c : Checked
  c = p.parts.checked

  abbrev trust : Trust
  trust = trust_with p

  abbrev keys : LogKeys
  keys = log_keys_of p.parts

  -- each row is asked
  rows_asked : IsReadCertificate c → IsOfBytes keys c.entry → (row : AcceptedRow)
      → Contains (questions_of i.digest trust keys c) row ↔ IsAskedBy i row
  rows_asked read bytes row = ((λ has. asked.0 (listed.0 has)), (λ asks. listed.1 (asked.1 asks)))
    where
      listed : Contains (questions_of i.digest trust keys c) row ↔ IsAskedOf p row
      listed =
          has_either (certificate_questions trust c)
          (questions_after i.digest trust keys c) row (has_certificate trust c row)
          (has_either (sct_questions trust c)
          (content_questions i.digest c ++ entry_questions keys c.entry) row
          (has_point trust c read.sct row)
          (has_either (content_questions i.digest c) (entry_questions keys c.entry) row
          (has_content i.digest c read.spki row) (has_entry keys c.entry bytes row)))

      asked : IsAskedOf p row ↔ IsAskedBy i row
      asked = asked_as one p row

  -- no path may lead to a trust anchor
  none_issues : certificate_questions trust c ≡ [] → ¬ HoldsUnasked i Issuer
  none_issues none holds =
      let of : HasIssuer accepting.checker trust c =
      checked_from one p (λ t x. HasIssuer accepting.checker t x) holds in
      let path = of.first.path in
      let step = first_pair c.certificate path.over path.anchor in
      let row : AcceptedRow = signature_row c.certificate step.0 in
      let has : Contains (certificate_questions trust c) row =
      (has_certificate trust c row).1 (path.over, path.anchor, path.path, (c.certificate, step.0, step.1, refl)) in
      empty_has row (subst (λ (rows : List AcceptedRow). Contains rows row) none has)
    where
      first_pair : (d : Cert) (over : List Cert) (anchor : Cert) → (x : Cert) × IsNext d over anchor d x
      first_pair d [] anchor = (anchor, (refl, refl))
      first_pair d (x ∷ xs) anchor = (x, inl (refl, refl))

  -- some path may
  some_issues : certificate_questions trust c ≢ [] → HoldsUnasked i Issuer
  some_issues some = by (certificate_questions trust c) refl
    where
      by : (rows : List AcceptedRow) → certificate_questions trust c ≡ rows → HoldsUnasked i Issuer
      by [] is = absurd (some is)
      by (row ∷ rows) is =
          let has : Contains (certificate_questions trust c) row =
          subst (λ (rs : List AcceptedRow). Contains rs row) (sym is)
          (Contains-append_left (row ∷ []) rows row ((has_one row row).1 refl)) in
          let of = (has_certificate trust c row).0 has in
          checked_to p (λ t x. HasIssuer accepting.checker t x)
          (some_issuer every_signature (pool_over p.anchors c.further) c.certificate of.0 of.1 of.2)

-- ---- what is listed

module _ (one : OneCertificate) (i : Inputs) (most : ℕ)
    (front : AllByRecursion (HoldsUnasked i) front_links) (parts : Parts i)
    (anchors : List Cert) (are : AreCertificates (authorities parts.root i.now) anchors) where
  given : AreAnchors (authorities parts.root i.now) anchors
  given =
      let ders = authorities parts.root i.now in
      let of : HoldsUnasked i Issuance = front.1.1.1.1.1.1.1.1.1.1.1.1.1.0 in
      let there = root_from i parts.root parts.root_is
      (λ root. OfTrust root i.now (λ trust. OfPassed i (λ c. HasProfile c.certificate))) of in
      subst (λ (cs : List Cert). AreAnchors ders cs) (one_list one ders there.0 anchors there.1 are) there.1

  abbrev its : AnchoredParts i
  its = record { parts = parts; anchors = anchors; given = given }

  abbrev its_rows : List AcceptedRow
  its_rows = questions_of i.digest (trust_with its) (log_keys_of parts) parts.checked

  are_questions : (rows : List AcceptedRow) → rows ≡ its_rows → AreQuestions i rows
  are_questions rows is = parts_to its (λ trust keys c. rows ≡ questions_of i.digest trust keys c) is

  all_held : certificate_questions (trust_with its) parts.checked ≢ []
      → AllByRecursion (HoldsUnasked i) question_links
  all_held some = all_joined (HoldsUnasked i) front_links (Issuer ∷ []) front (some_issues one i its some, tt)

  told : (result : Listing)
      → AreListed i.digest (trust_with its) (log_keys_of parts) parts.checked most result
      → ((rows : List AcceptedRow) → result ≡ Ok rows
      → IsReadCertificate parts.checked × IsOfBytes (log_keys_of parts) parts.checked.entry)
      → IsAnswered i most result
  told (Ok rows) (is, some, few) read =
      let both = read rows refl in
      record {
        asked = λ found same row.
            (let equal : found ≡ its_rows = sym (ok_is rows found same) ∙ is in
            let at = rows_asked one i its both.0 both.1 row in (
              (λ has. at.0 (subst (λ (rs : List AcceptedRow). Contains rs row) equal has)),
              (λ asks. subst (λ (rs : List AcceptedRow). Contains rs row) (sym equal) (at.1 asks)),
            ));
        ordered = λ found same.
            (let equal : found ≡ its_rows = sym (ok_is rows found same) ∙ is in
            subst (λ (rs : List AcceptedRow). AreInOrder (IsAskedAt i) rs) (sym equal)
            (rows_in_order one i its both.0 both.1));
        decided = (all_held some, are_questions rows is, few);
      }
  told (Err TooLong) (some, long) read = record {
    asked = λ found wrong. absurd cc;
    ordered = λ found wrong. absurd cc;
    decided = (all_held some, (its_rows, are_questions its_rows refl, long));
  }
  told (Err (Link link)) (is, none) read = record {
    asked = λ found wrong. absurd cc;
    ordered = λ found wrong. absurd cc;
    decided = subst (λ (l : LinkType). FailsFirst (HoldsUnasked i) question_links l) (sym is)
        (fails_after (HoldsUnasked i) front_links (Issuer ∷ []) Issuer front
        (inl (none_issues one i its none, refl)));
  }
  told (Err OutOfMemory) listed read = record {
    asked = λ found wrong. absurd cc;
    ordered = λ found wrong. absurd cc;
    decided = tt;
  }

-- the points of the ring are those of the keys
same_trust : (root : TrustedRoot) (i : Inputs) (parts : TrustParts) → GivesTrust root i.now parts
    → trust_in parts ≡ record { anchors = parts.anchors; points = key_of (values_of (ct_keys root i.now)) }
same_trust root i parts gives =
    ap (λ (points : List ℕ → Option (List ℕ)). record { anchors = parts.anchors; points = points })
    (fun_ext (λ id. gives.ring id))

read_if : (parts : TrustParts) (c : Checked) (result : Listing) → ReadIfOk parts c result
    → (rows : List AcceptedRow) → result ≡ Ok rows → IsReadCertificate c × IsOfBytes parts.log_keys c.entry
read_if parts c (Ok found) read rows same = read
read_if parts c (Err error) read rows same = absurd cc

pub listed_told : OneCertificate → ListedTextsAreAnswered
listed_told one i most result front (root, root_is, (b, bundle_is, of)) =
    let its : Parts i = record {
      root = root;
      root_is = root_is;
      bundle = b;
      bundle_is = bundle_is;
      checked = of.checked;
      passed = of.passed;
    } in
    let trust : Trust = record { anchors = of.parts.anchors; points = key_of (values_of (ct_keys root i.now)) } in
    let listed : AreListed i.digest trust (rekor_keys root i.now) of.checked most result =
    subst (λ (keys : LogKeys). AreListed i.digest trust keys of.checked most result) of.gives.keys
    (subst (λ (t : Trust). AreListed i.digest t of.parts.log_keys of.checked most result)
    (same_trust root i of.parts of.gives) of.listed) in
    told one i most front its of.parts.anchors of.gives.anchors result listed (λ rows same.
    let read = read_if of.parts of.checked result of.read rows same in
    (read.0, subst (λ (keys : LogKeys). IsOfBytes keys of.checked.entry) of.gives.keys read.1))

-- ---- one list

pub one_questions : OneCertificate → QuestionsAreOneList
one_questions one i rows other first second =
    of_parts i (λ trust keys c. rows ≡ questions_of i.digest trust keys c) (rows ≡ other) (λ p is. is
    ∙ sym (parts_from one p (λ trust keys c. other ≡ questions_of i.digest trust keys c) second)) first
