-- The rows of the content and of the log entry are those that these have.
use Rattle.std.proofs.Common.{◌≡◌, ◌↔◌, ◌⊎◌, ℕ, List, ◌++◌, Option, Some, None, Result, Ok, Err, inl, inr}
use Rattle.std.proofs.Common.{refl, sym, ap, subst, ◌∙◌}
use Rattle.std.specs.Prelude.{Contains}
use Rattle.hex.specs.Hex.{encode_lower}
use Rattle.sig_base.proofs.OptionSteps.{some_is}
use Rattle.sig_base.proofs.ResultSteps.{ok_is}
use Rattle.sig_base.specs.ByText.{text_lookup}
use Rattle.sig_base.specs.declared.checker.AcceptedRow.{AcceptedRow}
use Rattle.sig_base.specs.declared.fault.CheckpointFault.{CheckpointFault}
use Rattle.sig_base.specs.declared.scheme.VerifyScheme.{VerifyScheme}
use Rattle.sig_base.specs.ByteLists.{AreBytes}
use Rattle.sig_bundle.proofs.PromiseLaws.{exact-promise, exact_or_wide, wide-promise}
use Rattle.sig_checked_bundle.specs.Checked.{Checked}
use Rattle.sig_bundle.specs.Promise.{IsExactEntry, promise_of_entry, promise_tree_of}
use Rattle.sig_checked_bundle.specs.declared.content_check.CheckedContent.{CheckedContent}
use Rattle.sig_checked_bundle.specs.declared.content_check.CheckedContent.TheVariants.{MessageSignature, Dsse}
use Rattle.sig_bundle.specs.declared.material.ProofFields.{ProofFields}
use Rattle.sig_bundle.specs.declared.material.TransparencyLogEntry.{TransparencyLogEntry}
use Rattle.sig_dsse.specs.declared.artifact_digest.ArtifactDigest.{ArtifactDigest}
use Rattle.sig_dsse.specs.declared.artifact_digest.ArtifactDigest.TheVariants.{Sha256, Sha512}
use Rattle.sig_json_text.specs.Canonical.{canonical_of}
use Rattle.sig_json_text.specs.declared.error.CanonicalError.{CanonicalError}
use Rattle.sig_key.proofs.KeyKinds.{key_kind_is, key_kind_only}
use Rattle.sig_key.specs.Kind.{IsKind, key_kind}
use Rattle.sig_key.specs.declared.kind.KeyKind.{KeyKind}
use Rattle.sig_key.specs.declared.kind.KeyKind.TheVariants.{NoKeyInfo, Unsupported, Scheme}
use Rattle.sig_rekor.proofs.CheckpointLaws.{checkpoint-found, checkpoint-only}
use Rattle.sig_rekor.specs.CheckpointText.{IsCheckpoint, checkpoint_of}
use Rattle.sig_rekor.specs.NoteText.{note_text}
use Rattle.sig_rekor.specs.declared.checkpoint.SignedCheckpoint.{SignedCheckpoint}
use Rattle.sig_base.proofs.ByteLists.{byte_at}
use Rattle.sig_verify.proofs.ContentVerdicts.{same_scheme}
use Rattle.sig_verify.specs.EntryLinks.{HasLogKey, IsOfBytes, LogKeys, OfCheckpoint, OfLogKey}
use Rattle.sig_questions.proofs.RowLaws.{has_each, has_either, empty_has, has_one}
use Rattle.sig_questions.specs.Asked.{IsContentRow, IsNoteRow, IsNoteRowOf, IsPromiseRow, IsSignatureRow}
use Rattle.sig_questions.specs.Lists.{checkpoint_in, checkpoint_questions, content_questions}
use Rattle.sig_questions.specs.Lists.{content_questions_under, entry_questions, entry_questions_under, if_scheme}
use Rattle.sig_questions.specs.Lists.{note_question, note_questions, note_questions_of, promise_questions}
use Rattle.sig_questions.specs.Lists.{promise_questions_by, promise_questions_over, spki_named, text_questions}
use Rattle.sig_questions.specs.Rows.{message_row, prehash_row}

-- ---- a key of a scheme

-- rows under the scheme of a key, where under each scheme these are the rows
of_scheme : (spki : List ℕ) → AreBytes spki → (rows : VerifyScheme → List AcceptedRow) (row : AcceptedRow)
    (P : VerifyScheme → Type 0) → ((s : VerifyScheme) → Contains (rows s) row ↔ P s)
    → Contains (if_scheme (key_kind spki) rows) row ↔ ((s : VerifyScheme) × IsKind spki (Scheme s) × P s)
of_scheme spki bytes rows row P each = by (key_kind spki) refl
  where
    by : (kind : KeyKind) → key_kind spki ≡ kind
        → Contains (if_scheme kind rows) row ↔ ((s : VerifyScheme) × IsKind spki (Scheme s) × P s)
    by NoKeyInfo is = (
      (λ has. absurd (empty_has row has)),
      (λ of. absurd (let wrong : Scheme of.0 ≡ NoKeyInfo = key_kind_only spki (byte_at spki bytes) (Scheme of.0) of.1
          ∙ is in cc)),
    )
    by Unsupported is = (
      (λ has. absurd (empty_has row has)),
      (λ of. absurd (let wrong : Scheme of.0 ≡ Unsupported =
          key_kind_only spki (byte_at spki bytes) (Scheme of.0) of.1 ∙ is in cc)),
    )
    by (Scheme s) is = (
      (λ has. (
        s,
        subst (λ (kind : KeyKind). IsKind spki kind) is (key_kind_is spki (byte_at spki bytes)),
        (each s).0 has,
      )),
      (λ of. (each s).1 (subst P (same_scheme of.0 s
          (key_kind_only spki (byte_at spki bytes) (Scheme of.0) of.1 ∙ is)) of.2)),
    )

-- ---- the content

has_signature : (scheme : VerifyScheme) (spki : List ℕ) (d : ArtifactDigest) (content : CheckedContent)
    (signature : List ℕ) (row : AcceptedRow) → Contains (content_questions_under scheme spki d content signature) row
    ↔ IsSignatureRow scheme spki d content signature row
has_signature scheme spki d (Dsse pae digests envelope payload) signature row =
    has_one (message_row scheme spki pae signature) row
has_signature scheme spki (Sha256 bytes) MessageSignature signature row =
    has_one (prehash_row scheme spki bytes signature) row
has_signature scheme spki (Sha512 bytes) MessageSignature signature row =
    ((λ has. absurd (empty_has row has)), (λ none. absurd none))

pub has_content : (d : ArtifactDigest) (c : Checked) → AreBytes c.certificate.spki → (row : AcceptedRow)
    → Contains (content_questions d c) row ↔ IsContentRow d c row
has_content d c bytes row =
    of_scheme c.certificate.spki bytes
    (λ scheme. content_questions_under scheme c.certificate.spki d c.content c.signature) row
    (λ scheme. IsSignatureRow scheme c.certificate.spki d c.content c.signature row)
    (λ scheme. has_signature scheme c.certificate.spki d c.content c.signature row)

-- ---- the promise, under a key

module _ (keys : LogKeys) (e : TransparencyLogEntry) (bytes : IsOfBytes keys e)
    (row : AcceptedRow) where
  -- the row is the promise's under a key
  abbrev IsPromiseUnder : VerifyScheme → List ℕ → Type 0
  IsPromiseUnder scheme spki = IsExactEntry e × (promise : List ℕ) × (e.inclusion_promise ≡ Some promise)
      × (row ≡ message_row scheme spki (promise_of_entry e) promise)

  has_text : (scheme : VerifyScheme) (spki promise : List ℕ) → e.inclusion_promise ≡ Some promise
      → IsExactEntry e ⊎ ¬ IsExactEntry e
      → Contains (promise_questions_over scheme spki promise (canonical_of (promise_tree_of e))) row
      ↔ IsPromiseUnder scheme spki
  has_text scheme spki promise is (inl exact) =
      let one = has_one (message_row scheme spki (promise_of_entry e) promise) row in
      subst (λ (r : Result (List ℕ) CanonicalError).
      Contains (promise_questions_over scheme spki promise r) row ↔ IsPromiseUnder scheme spki)
      (sym (exact-promise e bytes.body bytes.id exact)) (
        (λ has. (exact, promise, is, one.0 has)),
        (λ of. one.1 (subst (λ (p : List ℕ). row ≡ message_row scheme spki (promise_of_entry e) p)
            (some_is of.1 promise (sym of.2 ∙ is)) of.3)),
      )
  has_text scheme spki promise is (inr wide) =
      subst (λ (r : Result (List ℕ) CanonicalError).
      Contains (promise_questions_over scheme spki promise r) row ↔ IsPromiseUnder scheme spki)
      (sym (wide-promise e wide))
      ((λ has. absurd (empty_has row has)), (λ of. absurd (wide of.0)))

  pub has_promise : (scheme : VerifyScheme) (spki : List ℕ)
      → Contains (promise_questions scheme spki e) row ↔ IsPromiseUnder scheme spki
  has_promise scheme spki = by e.inclusion_promise refl
    where
      by : (o : Option (List ℕ)) → e.inclusion_promise ≡ o
          → Contains (promise_questions_by scheme spki e o) row ↔ IsPromiseUnder scheme spki
      by None is = (
        (λ has. absurd (empty_has row has)),
        (λ of. absurd (let wrong : ◌≡◌ {A = Option (List ℕ)} (Some of.1) None = sym of.2 ∙ is in cc)),
      )
      by (Some promise) is = has_text scheme spki promise is (exact_or_wide e)

  -- ---- the note, under a key

  has_notes : (scheme : VerifyScheme) (spki : List ℕ) (n : SignedCheckpoint)
      → Contains (note_questions_of scheme spki n) row ↔ IsNoteRowOf (scheme, spki) n row
  has_notes scheme spki n =
      has_each (note_question scheme spki (note_text n.note))
      (λ s r. r ≡ message_row scheme spki (note_text n.note) s.raw) n.signatures row
      (λ s. has_one (message_row scheme spki (note_text n.note) s.raw) row)

  abbrev IsNoteUnder : VerifyScheme → List ℕ → Type 0
  IsNoteUnder scheme spki = OfCheckpoint e (λ p n. IsNoteRowOf (scheme, spki) n row)

  -- what a link would read of the entry's proof and text
  text_in : (p : ProofFields) (text : List ℕ) → e.inclusion_proof ≡ Some p → p.checkpoint ≡ Some text
      → (P : SignedCheckpoint → Type 0) → OfCheckpoint e (λ q n. P n)
      → (n : SignedCheckpoint) × IsCheckpoint text n × P n
  text_in p text proof there P of =
      let n = of.2.0 in
      let same : of.0 ≡ p = some_is of.0 p (sym of.1 ∙ proof) in
      let words : of.2.1.0 ≡ text = some_is of.2.1.0 text
      (sym of.2.1.1 ∙ ap (λ (q : ProofFields). q.checkpoint) same ∙ there) in
      (n, subst (λ (t : List ℕ). IsCheckpoint t n) words of.2.1.2, of.2.2)

  has_read : (scheme : VerifyScheme) (spki : List ℕ) (p : ProofFields) (text : List ℕ) → e.inclusion_proof ≡ Some p
      → p.checkpoint ≡ Some text → (r : Result SignedCheckpoint CheckpointFault) → checkpoint_of text ≡ r
      → Contains (checkpoint_questions scheme spki r) row ↔ IsNoteUnder scheme spki
  has_read scheme spki p text proof there (Ok n) is = (
    (λ has. (p, proof, (n, (text, there, checkpoint-found text n is), (has_notes scheme spki n).0 has))),
    (λ of.
        let read = text_in p text proof there (λ m. IsNoteRowOf (scheme, spki) m row) of in
        let same : read.0 ≡ n = ok_is read.0 n (sym (checkpoint-only text read.0 read.1) ∙ is) in
        (has_notes scheme spki n).1 (subst (λ (m : SignedCheckpoint). IsNoteRowOf (scheme, spki) m row) same read.2)),
  )
  has_read scheme spki p text proof there (Err fault) is = (
    (λ has. absurd (empty_has row has)),
    (λ of.
        let read = text_in p text proof there (λ m. IsNoteRowOf (scheme, spki) m row) of in
        absurd (let wrong : ◌≡◌ {A = Result SignedCheckpoint CheckpointFault} (Ok read.0) (Err fault) =
        sym (checkpoint-only text read.0 read.1) ∙ is in cc)),
  )

  has_note : (scheme : VerifyScheme) (spki : List ℕ)
      → Contains (note_questions scheme spki e) row ↔ IsNoteUnder scheme spki
  has_note scheme spki = by e.inclusion_proof refl
    where
      by_text : (p : ProofFields) → e.inclusion_proof ≡ Some p → (o : Option (List ℕ)) → p.checkpoint ≡ o
          → Contains (text_questions scheme spki o) row ↔ IsNoteUnder scheme spki
      by_text p proof None there = (
        (λ has. absurd (empty_has row has)),
        (λ of. absurd (let same : of.0 ≡ p = some_is of.0 p (sym of.1 ∙ proof) in
            let wrong : ◌≡◌ {A = Option (List ℕ)} (Some of.2.1.0) None =
            sym of.2.1.1 ∙ ap (λ (q : ProofFields). q.checkpoint) same ∙ there in cc)),
      )
      by_text p proof (Some text) there = has_read scheme spki p text proof there (checkpoint_of text) refl

      by : (o : Option ProofFields) → e.inclusion_proof ≡ o
          → Contains (text_questions scheme spki (checkpoint_in o)) row ↔ IsNoteUnder scheme spki
      by None proof = (
        (λ has. absurd (empty_has row has)),
        (λ of. absurd (let wrong : ◌≡◌ {A = Option ProofFields} (Some of.0) None = sym of.1 ∙ proof in cc)),
      )
      by (Some p) proof = by_text p proof p.checkpoint refl

  -- ---- both, under the key of the entry's log

  abbrev IsEntryUnder : VerifyScheme → List ℕ → Type 0
  IsEntryUnder scheme spki = IsPromiseUnder scheme spki ⊎ IsNoteUnder scheme spki

  has_under : (scheme : VerifyScheme) (spki : List ℕ)
      → Contains (promise_questions scheme spki e ++ note_questions scheme spki e) row ↔ IsEntryUnder scheme spki
  has_under scheme spki =
      has_either (promise_questions scheme spki e) (note_questions scheme spki e) row (has_promise scheme spki)
      (has_note scheme spki)

  found_as : (id : List ℕ) → e.log_id ≡ Some id → (key : VerifyScheme × List ℕ) → HasLogKey keys e key
      → text_lookup (encode_lower id) keys ≡ Some key.1
  found_as id named key has =
      ap (λ (i : List ℕ). text_lookup (encode_lower i) keys) (some_is id has.id (sym named ∙ has.named)) ∙ has.found

  has_key : (id : List ℕ) → e.log_id ≡ Some id → (o : Option (List ℕ)) → text_lookup (encode_lower id) keys ≡ o
      → Contains (entry_questions_under e o) row ↔ OfLogKey keys e (λ key. IsEntryUnder key.0 key.1)
  has_key id named None found = (
    (λ has. absurd (empty_has row has)),
    (λ of. absurd (let wrong : ◌≡◌ {A = Option (List ℕ)} (Some of.0.1) None = sym (found_as id named of.0 of.1) ∙ found
        in cc)),
  )
  has_key id named (Some spki) found =
      let at = of_scheme spki (bytes.key id spki named found)
      (λ scheme. promise_questions scheme spki e ++ note_questions scheme spki e) row
      (λ scheme. IsEntryUnder scheme spki)
      (λ scheme. has_under scheme spki) in (
        (λ has.
            let of = at.0 has in
            ((of.0, spki), record { id = id; named = named; found = found; kind = of.1 }, of.2)),
        (λ of.
            let same : of.0.1 ≡ spki = some_is of.0.1 spki (sym (found_as id named of.0 of.1) ∙ found) in
            at.1 (
              of.0.0,
              subst (λ (k : List ℕ). IsKind k (Scheme of.0.0)) same of.1.kind,
              subst (λ (k : List ℕ). IsEntryUnder of.0.0 k) same of.2,
            )),
      )

  has_id : (o : Option (List ℕ)) → e.log_id ≡ o
      → Contains (entry_questions_under e (spki_named keys o)) row ↔ OfLogKey keys e (λ key. IsEntryUnder key.0 key.1)
  has_id None named = (
    (λ has. absurd (empty_has row has)),
    (λ of. absurd (let wrong : ◌≡◌ {A = Option (List ℕ)} (Some of.1.id) None = sym of.1.named ∙ named in cc)),
  )
  has_id (Some id) named = has_key id named (text_lookup (encode_lower id) keys) refl

  pub has_entry : Contains (entry_questions keys e) row ↔ (IsPromiseRow keys e row ⊎ IsNoteRow keys e row)
  has_entry =
      let at = has_id e.log_id refl in (
        (λ has. parts (at.0 has)),
        (λ is. at.1 (joined is)),
      )
    where
      parts : OfLogKey keys e (λ key. IsEntryUnder key.0 key.1) → IsPromiseRow keys e row ⊎ IsNoteRow keys e row
      parts (key, has, inl promise) = inl (key, has, promise)
      parts (key, has, inr note) = inr (key, has, note)

      joined : IsPromiseRow keys e row ⊎ IsNoteRow keys e row → OfLogKey keys e (λ key. IsEntryUnder key.0 key.1)
      joined (inl of) = (of.0, of.1, inl of.2)
      joined (inr of) = (of.0, of.1, inr of.2)
