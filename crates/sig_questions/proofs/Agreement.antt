-- Two checkers that say the same of each question say the same of what each link asks.
use Rattle.std.proofs.Common.{◌≡◌, ℕ, Bool, List, [], ◌∷◌, zero, suc, Some, refl, sym, subst, ◌∙◌}
use Rattle.std.specs.List.{list_any}
use Rattle.std.specs.Prelude.{slice_get}
use Rattle.sig_base.specs.declared.checker.AcceptedRow.{AcceptedRow}
use Rattle.sig_base.specs.declared.scheme.VerifyScheme.{VerifyScheme}
use Rattle.sig_checked_bundle.proofs.Certificates.{OneCertificate}
use Rattle.sig_checked_bundle.specs.Checked.{Checked}
use Rattle.sig_bundle.specs.Promise.{IsExactEntry, promise_of_entry}
use Rattle.sig_checked_bundle.specs.declared.content_check.CheckedContent.{CheckedContent}
use Rattle.sig_checked_bundle.specs.declared.content_check.CheckedContent.TheVariants.{MessageSignature, Dsse}
use Rattle.sig_certificate.specs.Certificate.{Cert}
use Rattle.sig_dsse.specs.declared.artifact_digest.ArtifactDigest.{ArtifactDigest}
use Rattle.sig_dsse.specs.declared.artifact_digest.ArtifactDigest.TheVariants.{Sha256, Sha512}
use Rattle.sig_rekor.specs.NoteText.{note_text}
use Rattle.sig_rekor.specs.Verify.{has_accepted_signature}
use Rattle.sig_rekor.specs.declared.checkpoint.CheckpointSignature.{CheckpointSignature}
use Rattle.sig_timestamp.specs.Precert.{precertificate}
use Rattle.sig_timestamp.specs.SctBytes.{signed_bytes, signed_of}
use Rattle.sig_timestamp.specs.Vectors.{IsLong}
use Rattle.sig_verify.specs.CertificateLinks.{HasIssuer, HasSignedBytes, IsSignedContent, IsContentSignedUnder}
use Rattle.sig_verify.specs.CertificateLinks.{IsVouchedFor, OfIssuer}
use Rattle.sig_verify.specs.EntryLinks.{HasCanonicalPromise, IsNoteSignedBy, IsPromisedBy}
use Rattle.sig_verify.specs.Links.{Inputs, OfChecked, OfLogged}
use Rattle.sig_verify.specs.Verdict.{Checker}
use Rattle.sig_questions.proofs.AskedRows.{certificate_asked, content_asked, note_asked, point_asked, promise_asked}
use Rattle.sig_questions.proofs.Issuers.{AgreeAlong, first_too, issuer_is, would_hold}
use Rattle.sig_verify.proofs.Parts.{Parts, AnchoredParts, checked_as, checked_from, log_keys_of, logged_as}
use Rattle.sig_verify.proofs.Parts.{logged_from, trust_with}
use Rattle.sig_x509.specs.Pool.{Pool, pool_over}
use Rattle.sig_questions.specs.Asked.{IsAskedBy, IsPointRowUnder, IsSignatureRow, signature_row}
use Rattle.sig_questions.specs.Questions.{AgreeWhere}
use Rattle.sig_questions.specs.Rows.{certificate_row, message_row, point_row, prehash_row}

pub agree_back : (Holds : AcceptedRow → Type 0) (one other : Checker) → AgreeWhere Holds one other
    → AgreeWhere Holds other one
agree_back Holds one other agree = record {
  message = λ scheme spki message signature asked. sym (agree.message scheme spki message signature asked);
  prehash = λ scheme spki digest signature asked. sym (agree.prehash scheme spki digest signature asked);
  point = λ point message signature asked. sym (agree.point point message signature asked);
  certificate = λ issuer algorithm tbs signature asked. sym (agree.certificate issuer algorithm tbs signature asked);
}

-- checkers that agree where more rows are
pub agree_where : {Holds More : AcceptedRow → Type 0} {one other : Checker}
    → ((row : AcceptedRow) → Holds row → More row) → AgreeWhere More one other → AgreeWhere Holds one other
agree_where has agree = record {
  message = λ s k m g is. agree.message s k m g (has (message_row s k m g) is);
  prehash = λ s k m g is. agree.prehash s k m g (has (prehash_row s k m g) is);
  point = λ k m g is. agree.point k m g (has (point_row k m g) is);
  certificate = λ k a m g is. agree.certificate k a m g (has (certificate_row k a m g) is);
}

-- two tests that agree on the elements of a list
any_same : {X : Type 0} (one other : X → Bool) (xs : List X)
    → ((index : ℕ) (x : X) → slice_get xs index ≡ Some x → one x ≡ other x) → list_any one xs ≡ list_any other xs
any_same one other [] same = refl
any_same one other (x ∷ xs) same =
    rw (same zero x refl, any_same one other xs (λ index y there. same (suc index) y there)) refl

-- the content's signature
signed_too : (one other : Checker) (scheme : VerifyScheme) (spki : List ℕ) (d : ArtifactDigest)
    (content : CheckedContent) (signature : List ℕ)
    → AgreeWhere (IsSignatureRow scheme spki d content signature) one other
    → IsContentSignedUnder (one.spki scheme spki) (one.prehash scheme spki) d content signature
    → IsContentSignedUnder (other.spki scheme spki) (other.prehash scheme spki) d content signature
signed_too one other scheme spki d (Dsse pae digests envelope payload) signature agree is =
    sym (agree.message scheme spki pae signature refl) ∙ is
signed_too one other scheme spki (Sha256 bytes) MessageSignature signature agree is =
    sym (agree.prehash scheme spki bytes signature refl) ∙ is
signed_too one other scheme spki (Sha512 bytes) MessageSignature signature agree is = is

-- ---- what each link says, of the parts of the inputs and of the inputs

module _ (one_certificate : OneCertificate) (i : Inputs) (one other : Checker)
    (agree : AgreeWhere (IsAskedBy i) one other) where
  agree_along : (p : AnchoredParts i) → AgreeAlong one.cert other.cert
      (pool_over p.anchors p.parts.checked.further) p.parts.checked.certificate p.parts.checked.certificate.not_before
  agree_along p path anchor is y x next =
      agree.certificate x.spki y.algorithm y.tbs y.signature
      (certificate_asked p (signature_row y x) (path, anchor, is, (y, x, next, refl)))

  -- the same is the first issuer in a path
  issuer_of : (p : AnchoredParts i) {P Q : Cert → Type 0}
      (of : OfIssuer one.cert (pool_over p.anchors p.parts.checked.further) p.parts.checked.certificate P)
      → Q of.first.path.certificate
      → OfIssuer other.cert (pool_over p.anchors p.parts.checked.further) p.parts.checked.certificate Q
  issuer_of p of holds = record {
    issuer = of.issuer;
    first = first_too (pool_over p.anchors p.parts.checked.further) p.parts.checked.certificate
        p.parts.checked.certificate.not_before one.cert other.cert (agree_along p) of.issuer of.first;
    holds = holds;
  }

  pub issuer_too : OfChecked i (λ trust c. HasIssuer one trust c)
      → OfChecked i (λ trust c. HasIssuer other trust c)
  issuer_too = checked_as i (λ trust c. HasIssuer one trust c)
      (λ trust c. HasIssuer other trust c) (λ p of. issuer_of p of tt)

  vouched_of : (p : AnchoredParts i) → HasSignedBytes p.parts.checked.certificate
      → IsVouchedFor one (trust_with p) p.parts.checked
      → IsVouchedFor other (trust_with p) p.parts.checked
  vouched_of p spelled (s, has, of) =
      let c : Cert = p.parts.checked.certificate in
      let over : Pool = pool_over p.anchors p.parts.checked.further in
      let path = of.first.path in
      let x : Cert = path.certificate in
      let point : List ℕ = of.holds.0 in
      let message : List ℕ = signed_bytes (signed_of c x.spki s) in
      let long : IsLong (precertificate c) = spelled.2.0 in
      let row : AcceptedRow = point_row point message s.signature in
      let under : IsPointRowUnder (trust_with p).points c x row =
      (s, has, (long, has.is.extended, point, of.holds.1, refl)) in
      let asked : IsAskedBy i row =
      point_asked p row (
        path.over,
        path.anchor,
        would_hold over c c.not_before one.cert path.over path.anchor path.path,
        subst (λ (y : Cert). IsPointRowUnder (trust_with p).points c y row)
            (issuer_is over c c.not_before one.cert of.issuer path) under,
      ) in
      (s, has, issuer_of p of (point, of.holds.1, sym (agree.point point message s.signature asked) ∙ of.holds.2))

  pub vouched_too : OfChecked i (λ trust c. HasSignedBytes c.certificate)
      → OfChecked i (λ trust c. IsVouchedFor one trust c)
      → OfChecked i (λ trust c. IsVouchedFor other trust c)
  vouched_too spelled = checked_as i (λ trust c. IsVouchedFor one trust c)
      (λ trust c. IsVouchedFor other trust c)
      (λ p. vouched_of p (checked_from one_certificate p (λ trust c. HasSignedBytes c.certificate) spelled))

  content_of : (p : AnchoredParts i) → IsSignedContent one i.digest p.parts.checked
      → IsSignedContent other i.digest p.parts.checked
  content_of p (scheme, kind, signed) =
      let c : Checked = p.parts.checked in (
        scheme,
        kind,
        signed_too one other scheme c.certificate.spki i.digest c.content c.signature
            (agree_where (λ row is. content_asked p row (scheme, kind, is)) agree) signed,
      )

  pub content_too : OfChecked i (λ trust c. IsSignedContent one i.digest c)
      → OfChecked i (λ trust c. IsSignedContent other i.digest c)
  content_too = checked_as i (λ trust c. IsSignedContent one i.digest c) (λ trust c. IsSignedContent other i.digest c)
      content_of

  promise_of : (p : Parts i) → IsExactEntry p.checked.entry → IsPromisedBy one.spki (log_keys_of p) p.checked.entry
      → IsPromisedBy other.spki (log_keys_of p) p.checked.entry
  promise_of p exact (key, has_key, (promise, there, accepted)) =
      let text : List ℕ = promise_of_entry p.checked.entry in
      let asked : IsAskedBy i (message_row key.0 key.1 text promise) =
      promise_asked p (message_row key.0 key.1 text promise) (key, has_key, (exact, promise, there, refl)) in
      (key, has_key, (promise, there, sym (agree.message key.0 key.1 text promise asked) ∙ accepted))

  pub promise_too : OfLogged i (λ keys e. HasCanonicalPromise e) → OfLogged i (λ keys e. IsPromisedBy one.spki keys e)
      → OfLogged i (λ keys e. IsPromisedBy other.spki keys e)
  promise_too has = logged_as i (λ keys e. IsPromisedBy one.spki keys e) (λ keys e. IsPromisedBy other.spki keys e)
      (λ p. promise_of p (logged_from one_certificate p (λ keys e. HasCanonicalPromise e) has).1)

  note_of : (p : Parts i) → IsNoteSignedBy one.spki (log_keys_of p) p.checked.entry
      → IsNoteSignedBy other.spki (log_keys_of p) p.checked.entry
  unfolding has_accepted_signature
  note_of p (key, has_key, (proof, proof_is, (n, text, signed))) =
      let message : List ℕ = note_text n.note in
      let by : Checker → CheckpointSignature → Bool = λ k s. k.spki key.0 key.1 message s.raw in
      let same : list_any (by one) n.signatures ≡ list_any (by other) n.signatures =
      any_same (by one) (by other) n.signatures (λ index s there. agree.message key.0 key.1 message s.raw
      (note_asked p (message_row key.0 key.1 message s.raw)
      (key, has_key, (proof, proof_is, (n, text, (index, s, there, refl)))))) in
      (key, has_key, (proof, proof_is, (n, text, sym same ∙ signed)))

  pub note_too : OfLogged i (λ keys e. IsNoteSignedBy one.spki keys e)
      → OfLogged i (λ keys e. IsNoteSignedBy other.spki keys e)
  note_too = logged_as i (λ keys e. IsNoteSignedBy one.spki keys e) (λ keys e. IsNoteSignedBy other.spki keys e)
      note_of
