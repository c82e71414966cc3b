-- The questions are in the order of those who ask for them.
use Rattle.std.proofs.Common.{◌≡◌, ◌⊎◌, ℕ, ◌-◌, ◌^◌, Bool, true, false, cond, nat_lt, List, [], ◌∷◌, ◌++◌}
use Rattle.std.proofs.Common.{length, Option, Some, None, Result, Ok, Err, inl, inr, refl, sym, subst, ◌∙◌}
use Rattle.std.specs.List.{flat_map}
use Rattle.std.specs.Prelude.{◌↔◌, Contains, slice_get}
use Rattle.hex.specs.Hex.{encode_lower}
use Rattle.sig_base.proofs.OptionSteps.{some_is}
use Rattle.sig_base.specs.ByText.{text_lookup}
use Rattle.sig_base.specs.declared.checker.AcceptedRow.{AcceptedRow}
use Rattle.sig_base.specs.declared.fault.CheckpointFault.{CheckpointFault}
use Rattle.sig_base.specs.declared.scheme.VerifyScheme.{VerifyScheme}
use Rattle.sig_bundle.specs.declared.material.ProofFields.{ProofFields}
use Rattle.sig_bundle.specs.declared.material.TransparencyLogEntry.{TransparencyLogEntry}
use Rattle.sig_bundle.specs.Promise.{promise_tree_of}
use Rattle.sig_bundle.specs.Proof.{OfText}
use Rattle.sig_checked_bundle.proofs.Certificates.{OneCertificate}
use Rattle.sig_checked_bundle.specs.Checked.{Checked}
use Rattle.sig_checked_bundle.specs.declared.content_check.CheckedContent.{CheckedContent}
use Rattle.sig_checked_bundle.specs.declared.content_check.CheckedContent.TheVariants.{MessageSignature, Dsse}
use Rattle.sig_dsse.specs.declared.artifact_digest.ArtifactDigest.{ArtifactDigest}
use Rattle.sig_dsse.specs.declared.artifact_digest.ArtifactDigest.TheVariants.{Sha256, Sha512}
use Rattle.sig_json_text.specs.Canonical.{canonical_of}
use Rattle.sig_json_text.specs.declared.error.CanonicalError.{CanonicalError}
use Rattle.sig_key.specs.Kind.{key_kind, kind_answer}
use Rattle.sig_key.specs.declared.kind.KeyKind.{KeyKind}
use Rattle.sig_key.specs.declared.kind.KeyKind.TheVariants.{NoKeyInfo, Unsupported, Scheme}
use Rattle.sig_rekor.proofs.CheckpointLaws.{checkpoint-found, checkpoint-only}
use Rattle.sig_rekor.specs.CheckpointText.{IsCheckpoint, checkpoint_of}
use Rattle.sig_rekor.specs.NoteText.{note_text}
use Rattle.sig_rekor.specs.declared.checkpoint.CheckpointSignature.{CheckpointSignature}
use Rattle.sig_rekor.specs.declared.checkpoint.SignedCheckpoint.{SignedCheckpoint}
use Rattle.sig_timestamp.specs.Embedded.{IsSaidOf, ready}
use Rattle.sig_timestamp.specs.Timestamps.{sct_of}
use Rattle.sig_timestamp.specs.declared.sct_error.SCTError.{SCTError}
use Rattle.sig_timestamp.specs.declared.signed.DigitallySigned.{DigitallySigned}
use Rattle.sig_verify.proofs.EntryKeys.{key_again, key_has, one_key}
use Rattle.sig_verify.proofs.EntryProofs.{at_checkpoint, at_proof}
use Rattle.sig_verify.proofs.Parts.{AnchoredParts, checked_from, checked_to, log_keys_of, logged_from, logged_to}
use Rattle.sig_verify.proofs.Parts.{trust_with}
use Rattle.sig_verify.specs.CertificateLinks.{Trust}
use Rattle.sig_verify.specs.EntryLinks.{HasLogKey, IsOfBytes, LogKeys, OfCheckpoint}
use Rattle.sig_verify.specs.LinkLaws.{IsReadCertificate}
use Rattle.sig_verify.specs.Links.{Inputs}
use Rattle.sig_verify.specs.LogEntry.{from_kind, log_key_answer, read_found}
use Rattle.sig_verify.specs.declared.link.Link.{Link}
use Rattle.sig_verify.specs.declared.link.Link.TheVariants as link
use Rattle.sig_verify.specs.declared.offline_error.OfflineError.{OfflineError}
use Rattle.sig_questions.proofs.PathRows.{has_pair, pair_fits, side_fits}
use Rattle.sig_questions.proofs.SctRows.{has_side}
use Rattle.sig_questions.proofs.EntryRows.{has_content, has_promise}
use Rattle.sig_questions.proofs.Orderings.{ArePlaced, IsSingle, OfElement, both_placed, element_as}
use Rattle.sig_questions.proofs.Orderings.{elements_placed}
use Rattle.sig_questions.proofs.Orderings.{in_order, none_placed, placed_as, single_placed}
use Rattle.sig_questions.proofs.RowLaws.{has_one}
use Rattle.sig_questions.specs.Asked.{IsContentRow, IsPointRowUnder, IsPromiseRow, OfPath, signature_row}
use Rattle.sig_questions.specs.Lists.{Pair, Side, pair_questions, pairs, side_questions, signed_side, signer_side, signers}
use Rattle.sig_questions.specs.Lists.{certificate_questions, checkpoint_in, checkpoint_questions, content_questions}
use Rattle.sig_questions.specs.Lists.{content_questions_under, embedded_questions, entry_questions}
use Rattle.sig_questions.specs.Lists.{entry_questions_under, if_scheme, note_question, note_questions}
use Rattle.sig_questions.specs.Lists.{pointed_questions, promise_questions, promise_questions_by}
use Rattle.sig_questions.specs.Lists.{promise_questions_over, questions_after, questions_of, sct_questions}
use Rattle.sig_questions.specs.Lists.{spki_named, text_questions}
use Rattle.sig_questions.specs.Order.{AreInOrder, Asking, IsAskedAt, IsBefore, IsCertificateRowAt}
use Rattle.sig_questions.specs.Order.{IsNoteRowAt, IsPointRowAt, IsStepOf, signed_in}
use Rattle.sig_x509.proofs.Elements.{contains_at}
use Rattle.sig_x509.specs.Possible.{may_sign}
use Rattle.sig_questions.specs.Rows.{message_row}
use Rattle.sig_questions.proofs.LinkOrder.{issuer_sct, issuer_signature, issuer_promise, issuer_note, sct_signature}
use Rattle.sig_questions.proofs.LinkOrder.{sct_promise, sct_note, signature_promise, signature_note, promise_note}
use Rattle.sig_questions.proofs.LinkOrder.{earlier}

-- ---- each has one row at most

single_if : (b : Bool) (rows : List AcceptedRow) → IsSingle rows → IsSingle (cond b rows [])
single_if true rows single = single
single_if false rows single = tt

single_unless : (b : Bool) (rows : List AcceptedRow) → IsSingle rows → IsSingle (cond b [] rows)
single_unless true rows single = tt
single_unless false rows single = single

single_pair : (trust : Trust) (c : Checked) (pair : Pair) → IsSingle (pair_questions trust c pair)
single_pair trust c pair =
    single_if (may_sign (signed_side c pair.0) (signer_side trust c pair.1))
    (signature_row (signed_side c pair.0).certificate (signer_side trust c pair.1).certificate ∷ []) tt

single_pointed : (o : Option (List ℕ)) (d : DigitallySigned) → IsSingle (pointed_questions o d)
single_pointed None d = tt
single_pointed (Some point) d = tt

single_embedded : (points : List ℕ → Option (List ℕ)) (r : Result DigitallySigned SCTError)
    → IsSingle (embedded_questions points r)
single_embedded points (Ok d) =
    single_unless (nat_lt (2 ^ 24 - 1) (length d.tbs_certificate))
    (cond (nat_lt (2 ^ 16 - 1) (length d.extensions)) [] (pointed_questions (points d.log_id) d))
    (single_unless (nat_lt (2 ^ 16 - 1) (length d.extensions)) (pointed_questions (points d.log_id) d)
    (single_pointed (points d.log_id) d))
single_embedded points (Err e) = tt

single_point : (trust : Trust) (c : Checked) (side : Side) → IsSingle (side_questions trust c side)
single_point trust c side =
    single_if (may_sign (signed_side c None) (signer_side trust c side))
    (embedded_questions trust.points (ready c.certificate (signer_side trust c side).certificate.spki
    (sct_of c.certificate)))
    (single_embedded trust.points (ready c.certificate (signer_side trust c side).certificate.spki
    (sct_of c.certificate)))

single_under : (kind : KeyKind) (rows : VerifyScheme → List AcceptedRow) → ((s : VerifyScheme) → IsSingle (rows s))
    → IsSingle (if_scheme kind rows)
single_under NoKeyInfo rows each = tt
single_under Unsupported rows each = tt
single_under (Scheme s) rows each = each s

single_signature : (scheme : VerifyScheme) (spki : List ℕ) (d : ArtifactDigest) (content : CheckedContent)
    (signature : List ℕ) → IsSingle (content_questions_under scheme spki d content signature)
single_signature scheme spki d (Dsse pae digests envelope payload) signature = tt
single_signature scheme spki (Sha256 bytes) MessageSignature signature = tt
single_signature scheme spki (Sha512 bytes) MessageSignature signature = tt

single_content : (d : ArtifactDigest) (c : Checked) → IsSingle (content_questions d c)
single_content d c =
    single_under (key_kind c.certificate.spki)
    (λ scheme. content_questions_under scheme c.certificate.spki d c.content c.signature)
    (λ scheme. single_signature scheme c.certificate.spki d c.content c.signature)

single_promise : (scheme : VerifyScheme) (spki : List ℕ) (e : TransparencyLogEntry)
    → IsSingle (promise_questions scheme spki e)
single_promise scheme spki e = by e.inclusion_promise
  where
    over : (promise : List ℕ) (r : Result (List ℕ) CanonicalError)
        → IsSingle (promise_questions_over scheme spki promise r)
    over promise (Ok text) = tt
    over promise (Err error) = tt

    by : (o : Option (List ℕ)) → IsSingle (promise_questions_by scheme spki e o)
    by None = tt
    by (Some promise) = over promise (canonical_of (promise_tree_of e))

-- ---- the signatures of paths, and the SCT under each issuer

-- of an element of a list the one is as the other
element_there : {X : Type 0} (xs : List X) (place : ℕ) (P Q : X → Type 0) → ((x : X) → Contains xs x → P x ↔ Q x)
    → OfElement xs place P ↔ OfElement xs place Q
element_there xs place P Q alike = (
  (λ of. (of.0, of.1, (alike of.0 (contains_at xs place of.0 of.1)).0 of.2)),
  (λ of. (of.0, of.1, (alike of.0 (contains_at xs place of.0 of.1)).1 of.2)),
)

module _ (trust : Trust) (c : Checked) where
  abbrev OfCertificate : Link → ℕ → AcceptedRow → Type 0
  OfCertificate l place row = (l ≡ link.Issuer) × IsCertificateRowAt place trust c row

  -- what a pair's row is
  abbrev IsOfPair : AcceptedRow → Pair → Type 0
  IsOfPair r pair = OfPath trust c (IsStepOf pair) × (r ≡ signature_row (signed_in c pair.0) pair.1.1)

  certificates_placed : ArePlaced OfCertificate (certificate_questions trust c)
  certificates_placed =
      placed_as
      (λ l p r. (l ≡ link.Issuer) × OfElement (pairs trust c) p (λ pair. Contains (pair_questions trust c pair) r))
      OfCertificate (certificate_questions trust c)
      (λ l p r.
      (let alike = element_there (pairs trust c) p (λ pair. Contains (pair_questions trust c pair) r) (IsOfPair r)
      (λ pair has. has_pair trust c pair.0 pair.1.0 pair.1.1 (pair_fits trust c pair.0 pair.1.0 pair.1.1 has) r) in
      ((λ of. (of.0, alike.0 of.1)), (λ of. (of.0, alike.1 of.1)))))
      (elements_placed link.Issuer (pair_questions trust c) (single_pair trust c) (pairs trust c))

  abbrev OfPoint : Link → ℕ → AcceptedRow → Type 0
  OfPoint l place row = (l ≡ link.Sct) × IsPointRowAt place trust c row

  -- what a side's row is of the SCT
  abbrev IsUnder : AcceptedRow → Side → Type 0
  IsUnder r side = OfPath trust c (IsStepOf (None, side)) × IsPointRowUnder trust.points c.certificate side.1 r

  points_placed : IsSaidOf c.certificate (sct_of c.certificate) → ArePlaced OfPoint (sct_questions trust c)
  points_placed said =
      placed_as
      (λ l p r. (l ≡ link.Sct) × OfElement (signers trust c) p (λ side. Contains (side_questions trust c side) r))
      OfPoint (sct_questions trust c)
      (λ l p r.
      (let alike = element_there (signers trust c) p (λ side. Contains (side_questions trust c side) r) (IsUnder r)
      (λ side has. has_side trust c said side.0 side.1 (side_fits trust c side.0 side.1 has) r) in
      ((λ of. (of.0, alike.0 of.1)), (λ of. (of.0, alike.1 of.1)))))
      (elements_placed link.Sct (side_questions trust c) (single_point trust c) (signers trust c))

-- ---- the content

abbrev OfContentOf : ArtifactDigest → Checked → Link → ℕ → AcceptedRow → Type 0
OfContentOf d c l place row = (l ≡ link.Signature) × (place ≡ 0) × IsContentRow d c row

content_placed : (d : ArtifactDigest) (c : Checked) → IsReadCertificate c
    → ArePlaced (OfContentOf d c) (content_questions d c)
content_placed d c read =
    placed_as (λ l p r. (l ≡ link.Signature) × (p ≡ 0) × Contains (content_questions d c) r) (OfContentOf d c)
    (content_questions d c)
    (λ l p r.
    (let has = has_content d c read.spki r in
    ((λ of. (of.0, of.1, has.0 of.2)), (λ of. (of.0, of.1, has.1 of.2)))))
    (single_placed link.Signature 0 (content_questions d c) (single_content d c))

-- ---- the log entry

-- the rows under the key of the entry's log, if it has one
abbrev RowsUnder : TransparencyLogEntry → Result (VerifyScheme × List ℕ) OfflineError → List AcceptedRow → Type 0
RowsUnder e (Ok key) rows = rows ≡ promise_questions key.0 key.1 e ++ note_questions key.0 key.1 e
RowsUnder e (Err error) rows = rows ≡ []

rows_under : (keys : LogKeys) (e : TransparencyLogEntry)
    → RowsUnder e (log_key_answer keys e.log_id) (entry_questions keys e)
rows_under keys e = by_id e.log_id
  where
    by_kind : (der : List ℕ) (kind : KeyKind) → RowsUnder e (from_kind (kind_answer der kind))
        (if_scheme kind (λ scheme. promise_questions scheme der e ++ note_questions scheme der e))
    by_kind der NoKeyInfo = refl
    by_kind der Unsupported = refl
    by_kind der (Scheme s) = refl

    by_found : (name : List ℕ) (found : Option (List ℕ))
        → RowsUnder e (read_found name found) (entry_questions_under e found)
    by_found name None = refl
    by_found name (Some der) = by_kind der (key_kind der)

    by_id : (id : Option (List ℕ)) → RowsUnder e (log_key_answer keys id) (entry_questions_under e (spki_named keys id))
    by_id None = refl
    by_id (Some id) = by_found (encode_lower id) (text_lookup (encode_lower id) keys)

module _ (keys : LogKeys) (e : TransparencyLogEntry) (bytes : IsOfBytes keys e) where
  abbrev OfEntryRow : Link → ℕ → AcceptedRow → Type 0
  OfEntryRow l place row =
      ((l ≡ link.Promise) × (place ≡ 0) × IsPromiseRow keys e row)
      ⊎ ((l ≡ link.NoteKey) × IsNoteRowAt place keys e row)

  -- ---- the note, under a key

  module _ (scheme : VerifyScheme) (spki : List ℕ) where
    abbrev IsOfNote : ℕ → AcceptedRow → SignedCheckpoint → Type 0
    IsOfNote place row n = (s : CheckpointSignature) × (slice_get n.signatures place ≡ Some s)
        × (row ≡ message_row scheme spki (note_text n.note) s.raw)

    abbrev OfNoteRow : Link → ℕ → AcceptedRow → Type 0
    OfNoteRow l place row = (l ≡ link.NoteKey) × OfCheckpoint e (λ p n. IsOfNote place row n)

    note_placed : ArePlaced OfNoteRow (note_questions scheme spki e)
    note_placed = by e.inclusion_proof refl
      where
        -- the text of the proof is not a checkpoint
        none : (p : ProofFields) → e.inclusion_proof ≡ Some p
            → ((n : SignedCheckpoint) → ¬ OfText p (λ text. IsCheckpoint text n)) → ArePlaced OfNoteRow []
        none p proof absent = none_placed OfNoteRow (λ l place row asks.
            (let of = at_proof e p (λ q. (n : SignedCheckpoint) × OfText q (λ text. IsCheckpoint text n)
            × IsOfNote place row n) proof asks.1 in absent of.0 of.1))

        by_read : (p : ProofFields) (text : List ℕ) → e.inclusion_proof ≡ Some p → p.checkpoint ≡ Some text
            → (r : Result SignedCheckpoint CheckpointFault) → checkpoint_of text ≡ r
            → ArePlaced OfNoteRow (checkpoint_questions scheme spki r)
        by_read p text proof there (Ok n) is =
            let decoded : OfText p (λ t. IsCheckpoint t n) = (text, there, checkpoint-found text n is) in
            placed_as (λ l q r. (l ≡ link.NoteKey)
            × OfElement n.signatures q (λ s. Contains (note_question scheme spki (note_text n.note) s) r))
            OfNoteRow (flat_map (note_question scheme spki (note_text n.note)) n.signatures)
            (λ l q r.
            (let alike = element_as n.signatures q
            (λ s. Contains (note_question scheme spki (note_text n.note) s) r)
            (λ s. r ≡ message_row scheme spki (note_text n.note) s.raw)
            (λ s. has_one (message_row scheme spki (note_text n.note) s.raw) r) in (
              (λ of. (of.0, (p, proof, (n, decoded, alike.0 of.1)))),
              (λ of. (of.0, alike.1 (at_checkpoint e p n (λ x m. IsOfNote q r m) proof decoded of.1))),
            )))
            (elements_placed link.NoteKey (note_question scheme spki (note_text n.note)) (λ s. tt) n.signatures)
        by_read p text proof there (Err fault) is =
            none p proof (λ n of.
            (let same : of.0 ≡ text = some_is of.0 text (sym of.1 ∙ there) in
            let wrong : ◌≡◌ {A = Result SignedCheckpoint CheckpointFault} (Ok n) (Err fault) =
            sym (checkpoint-only text n (subst (λ (t : List ℕ). IsCheckpoint t n) same of.2)) ∙ is in cc))

        by_text : (p : ProofFields) → e.inclusion_proof ≡ Some p → (o : Option (List ℕ)) → p.checkpoint ≡ o
            → ArePlaced OfNoteRow (text_questions scheme spki o)
        by_text p proof None there =
            none p proof (λ n of. (let wrong : ◌≡◌ {A = Option (List ℕ)} (Some of.0) None = sym of.1 ∙ there in cc))
        by_text p proof (Some text) there = by_read p text proof there (checkpoint_of text) refl

        by : (o : Option ProofFields) → e.inclusion_proof ≡ o
            → ArePlaced OfNoteRow (text_questions scheme spki (checkpoint_in o))
        by None proof = none_placed OfNoteRow (λ l place row asks.
            (let wrong : ◌≡◌ {A = Option ProofFields} (Some asks.1.0) None = sym asks.1.1 ∙ proof in cc))
        by (Some p) proof = by_text p proof p.checkpoint refl

    abbrev IsOfPromise : AcceptedRow → Type 0
    IsOfPromise row = Contains (promise_questions scheme spki e) row

    promise_placed : ArePlaced (λ l p r. (l ≡ link.Promise) × (p ≡ 0) × IsOfPromise r) (promise_questions scheme spki e)
    promise_placed =
        single_placed link.Promise 0 (promise_questions scheme spki e) (single_promise scheme spki e)

  keyed_placed : (key : VerifyScheme × List ℕ) → HasLogKey keys e key
      → ArePlaced OfEntryRow (promise_questions key.0 key.1 e ++ note_questions key.0 key.1 e)
  keyed_placed key has =
      placed_as (λ l p r. ((l ≡ link.Promise) × (p ≡ 0) × IsOfPromise key.0 key.1 r) ⊎ OfNoteRow key.0 key.1 l p r)
      OfEntryRow (promise_questions key.0 key.1 e ++ note_questions key.0 key.1 e)
      (λ l p r. (to l p r, back l p r))
      (both_placed (λ l p r. (l ≡ link.Promise) × (p ≡ 0) × IsOfPromise key.0 key.1 r) (OfNoteRow key.0 key.1)
      (promise_questions key.0 key.1 e) (note_questions key.0 key.1 e)
      (λ a b one other. inl (earlier link.Promise link.NoteKey promise_note a.link b.link one.0 other.0))
      (promise_placed key.0 key.1) (note_placed key.0 key.1))
    where
      to : (l : Link) (p : ℕ) (r : AcceptedRow)
          → ((l ≡ link.Promise) × (p ≡ 0) × IsOfPromise key.0 key.1 r) ⊎ OfNoteRow key.0 key.1 l p r
          → OfEntryRow l p r
      to l p r (inl of) = inl (of.0, of.1, (key, has, (has_promise keys e bytes r key.0 key.1).0 of.2))
      to l p r (inr of) = inr (of.0, (key, has, of.1))

      back : (l : Link) (p : ℕ) (r : AcceptedRow) → OfEntryRow l p r
          → ((l ≡ link.Promise) × (p ≡ 0) × IsOfPromise key.0 key.1 r) ⊎ OfNoteRow key.0 key.1 l p r
      back l p r (inl (is, at, (other, has_other, of))) =
          let same : other ≡ key = one_key keys e bytes key other has has_other in
          inl (
            is,
            at,
            subst (λ (k : VerifyScheme × List ℕ). IsOfPromise k.0 k.1 r) same
                ((has_promise keys e bytes r other.0 other.1).1 of),
          )
      back l p r (inr (is, (other, has_other, of))) =
          let same : other ≡ key = one_key keys e bytes key other has has_other in
          inr (is, subst (λ (k : VerifyScheme × List ℕ). OfCheckpoint e (λ q n. IsOfNote k.0 k.1 p r n)) same of)

  entry_placed : ArePlaced OfEntryRow (entry_questions keys e)
  entry_placed = by (log_key_answer keys e.log_id) refl
    where
      by : (answer : Result (VerifyScheme × List ℕ) OfflineError) → log_key_answer keys e.log_id ≡ answer
          → ArePlaced OfEntryRow (entry_questions keys e)
      by (Ok key) is =
          subst (λ (rows : List AcceptedRow). ArePlaced OfEntryRow rows)
          (sym (subst (λ (a : Result (VerifyScheme × List ℕ) OfflineError). RowsUnder e a (entry_questions keys e)) is
          (rows_under keys e)))
          (keyed_placed key (key_has keys e bytes key is))
      by (Err error) is =
          subst (λ (rows : List AcceptedRow). ArePlaced OfEntryRow rows)
          (sym (subst (λ (a : Result (VerifyScheme × List ℕ) OfflineError). RowsUnder e a (entry_questions keys e)) is
          (rows_under keys e)))
          (none_placed OfEntryRow (λ l p r asks. elim asks [
            | inl of ↦ unkeyed of.2.0 of.2.1
            | inr of ↦ unkeyed of.1.0 of.1.1
          ]))
        where
          unkeyed : (key : VerifyScheme × List ℕ) → HasLogKey keys e key → ⊥
          unkeyed key has =
              let wrong : ◌≡◌ {A = Result (VerifyScheme × List ℕ) OfflineError} (Ok key) (Err error) =
              sym (key_again keys e bytes key has) ∙ is in cc

-- ---- all of them

module _ (one : OneCertificate) (i : Inputs) (p : AnchoredParts i) where
  abbrev c : Checked
  c = p.parts.checked

  abbrev trust : Trust
  trust = trust_with p

  abbrev keys : LogKeys
  keys = log_keys_of p.parts

  module _ (read : IsReadCertificate c) (bytes : IsOfBytes keys c.entry) where
    abbrev OfLast : Link → ℕ → AcceptedRow → Type 0
    OfLast l place row = OfContentOf i.digest c l place row ⊎ OfEntryRow keys c.entry bytes l place row

    abbrev OfAfter : Link → ℕ → AcceptedRow → Type 0
    OfAfter l place row = OfPoint trust c l place row ⊎ OfLast l place row

    abbrev OfAny : Link → ℕ → AcceptedRow → Type 0
    OfAny l place row = OfCertificate trust c l place row ⊎ OfAfter l place row

    last_placed : ArePlaced OfLast (content_questions i.digest c ++ entry_questions keys c.entry)
    last_placed =
        both_placed (OfContentOf i.digest c) (OfEntryRow keys c.entry bytes) (content_questions i.digest c)
        (entry_questions keys c.entry) before (content_placed i.digest c read) (entry_placed keys c.entry bytes)
      where
        before : (a b : Asking) → OfContentOf i.digest c a.link a.place a.row
            → OfEntryRow keys c.entry bytes b.link b.place b.row → IsBefore a b
        before a b first (inl promise) =
            inl (earlier link.Signature link.Promise signature_promise a.link b.link first.0 promise.0)
        before a b first (inr note) =
            inl (earlier link.Signature link.NoteKey signature_note a.link b.link first.0 note.0)

    after_placed : ArePlaced OfAfter (questions_after i.digest trust keys c)
    after_placed =
        both_placed (OfPoint trust c) OfLast
        (sct_questions trust c)
        (content_questions i.digest c ++ entry_questions keys c.entry) before
        (points_placed trust c read.sct) last_placed
      where
        before : (a b : Asking) → OfPoint trust c a.link a.place a.row → OfLast b.link b.place b.row
            → IsBefore a b
        before a b first (inl content) =
            inl (earlier link.Sct link.Signature sct_signature a.link b.link first.0 content.0)
        before a b first (inr (inl promise)) =
            inl (earlier link.Sct link.Promise sct_promise a.link b.link first.0 promise.0)
        before a b first (inr (inr note)) =
            inl (earlier link.Sct link.NoteKey sct_note a.link b.link first.0 note.0)

    any_placed : ArePlaced OfAny (questions_of i.digest trust keys c)
    any_placed =
        both_placed (OfCertificate trust c) OfAfter
        (certificate_questions trust c) (questions_after i.digest trust keys c) before
        (certificates_placed trust c) after_placed
      where
        before : (a b : Asking) → OfCertificate trust c a.link a.place a.row
            → OfAfter b.link b.place b.row → IsBefore a b
        before a b first (inl point) =
            inl (earlier link.Issuer link.Sct issuer_sct a.link b.link first.0 point.0)
        before a b first (inr (inl content)) =
            inl (earlier link.Issuer link.Signature issuer_signature a.link b.link first.0 content.0)
        before a b first (inr (inr (inl promise))) =
            inl (earlier link.Issuer link.Promise issuer_promise a.link b.link first.0 promise.0)
        before a b first (inr (inr (inr note))) =
            inl (earlier link.Issuer link.NoteKey issuer_note a.link b.link first.0 note.0)

    to : (l : Link) (place : ℕ) (row : AcceptedRow) → OfAny l place row → IsAskedAt i l place row
    to l place row (inl (is, of)) =
        inl (is, checked_to p (λ t x. IsCertificateRowAt place t x row) of)
    to l place row (inr (inl (is, of))) =
        inr (inl (is, checked_to p (λ t x. IsPointRowAt place t x row) of))
    to l place row (inr (inr (inl (is, at, of)))) =
        inr (inr (inl (is, at, checked_to p (λ t x. IsContentRow i.digest x row) of)))
    to l place row (inr (inr (inr (inl (is, at, of))))) =
        inr (inr (inr (inl (is, at, logged_to p.parts (λ k e. IsPromiseRow k e row) of))))
    to l place row (inr (inr (inr (inr (is, of))))) =
        inr (inr (inr (inr (is, logged_to p.parts (λ k e. IsNoteRowAt place k e row) of))))

    back : (l : Link) (place : ℕ) (row : AcceptedRow) → IsAskedAt i l place row → OfAny l place row
    back l place row (inl (is, of)) =
        inl (is, checked_from one p (λ t x. IsCertificateRowAt place t x row) of)
    back l place row (inr (inl (is, of))) =
        inr (inl (is, checked_from one p (λ t x. IsPointRowAt place t x row) of))
    back l place row (inr (inr (inl (is, at, of)))) =
        inr (inr (inl (is, at, checked_from one p (λ t x. IsContentRow i.digest x row) of)))
    back l place row (inr (inr (inr (inl (is, at, of))))) =
        inr (inr (inr (inl (is, at, logged_from one p.parts (λ k e. IsPromiseRow k e row) of))))
    back l place row (inr (inr (inr (inr (is, of))))) =
        inr (inr (inr (inr (is, logged_from one p.parts (λ k e. IsNoteRowAt place k e row) of))))

    pub rows_in_order : AreInOrder (IsAskedAt i) (questions_of i.digest trust keys c)
    rows_in_order =
        in_order (IsAskedAt i) (questions_of i.digest trust keys c)
        (placed_as OfAny (IsAskedAt i) (questions_of i.digest trust keys c)
        (λ l place row. (to l place row, back l place row)) any_placed)
