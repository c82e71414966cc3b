-- What holds of each row of a kind holds of the questions that are rows of this kind.
use Rattle.std.proofs.Common.{ℕ, ◌-◌, ◌^◌, Bool, true, false, cond, nat_lt, List, [], ◌∷◌, ◌++◌, length, Option}
use Rattle.std.proofs.Common.{Some, None, Result, Ok, Err, inl, inr, sym, subst}
use Rattle.std.specs.List.{flat_map}
use Rattle.std.specs.Prelude.{Contains}
use Rattle.sig_base.specs.declared.checker.AcceptedRow.{AcceptedRow}
use Rattle.sig_base.specs.declared.fault.CheckpointFault.{CheckpointFault}
use Rattle.sig_base.specs.declared.scheme.VerifyScheme.{VerifyScheme}
use Rattle.sig_checked_bundle.specs.Checked.{Checked}
use Rattle.sig_bundle.specs.Promise.{promise_tree_of}
use Rattle.sig_checked_bundle.specs.declared.content_check.CheckedContent.{CheckedContent}
use Rattle.sig_checked_bundle.specs.declared.content_check.CheckedContent.TheVariants.{MessageSignature, Dsse}
use Rattle.sig_bundle.specs.declared.material.TransparencyLogEntry.{TransparencyLogEntry}
use Rattle.sig_certificate.specs.Certificate.{Cert}
use Rattle.sig_dsse.specs.declared.artifact_digest.ArtifactDigest.{ArtifactDigest}
use Rattle.sig_dsse.specs.declared.artifact_digest.ArtifactDigest.TheVariants.{Sha256, Sha512}
use Rattle.sig_json_text.specs.Canonical.{canonical_of}
use Rattle.sig_json_text.specs.declared.error.CanonicalError.{CanonicalError}
use Rattle.sig_key.specs.Kind.{key_kind}
use Rattle.sig_key.specs.declared.kind.KeyKind.{KeyKind}
use Rattle.sig_key.specs.declared.kind.KeyKind.TheVariants.{NoKeyInfo, Unsupported, Scheme}
use Rattle.sig_rekor.specs.CheckpointText.{checkpoint_of}
use Rattle.sig_rekor.specs.NoteText.{note_text}
use Rattle.sig_rekor.specs.declared.checkpoint.SignedCheckpoint.{SignedCheckpoint}
use Rattle.sig_timestamp.specs.Embedded.{ready}
use Rattle.sig_timestamp.specs.SctBytes.{signed_bytes}
use Rattle.sig_timestamp.specs.Timestamps.{sct_of}
use Rattle.sig_timestamp.specs.declared.sct_error.SCTError.{SCTError}
use Rattle.sig_timestamp.specs.declared.signed.DigitallySigned.{DigitallySigned}
use Rattle.sig_verify.specs.CertificateLinks.{Trust}
use Rattle.sig_verify.specs.EntryLinks.{LogKeys}
use Rattle.sig_questions.proofs.RowLaws.{empty_has, has_both, has_each, has_one}
use Rattle.sig_questions.specs.Lists.{certificate_questions, checkpoint_questions, content_questions}
use Rattle.sig_questions.specs.Lists.{content_questions_under, embedded_questions, entry_questions}
use Rattle.sig_questions.specs.Lists.{entry_questions_under, if_scheme, note_question, note_questions}
use Rattle.sig_questions.specs.Lists.{Pair, Side, pair_questions, pairs, side_questions, signed_side, signer_side, signers}
use Rattle.sig_questions.specs.Asked.{signature_row}
use Rattle.sig_x509.specs.Possible.{may_sign}
use Rattle.sig_questions.specs.Lists.{pointed_questions, promise_questions, promise_questions_by}
use Rattle.sig_questions.specs.Lists.{promise_questions_over, sct_questions, spki_named}
use Rattle.sig_questions.specs.Lists.{text_of_proof, text_questions}
use Rattle.sig_questions.specs.Rows.{certificate_row, message_row, point_row, prehash_row}

module _ (P : AcceptedRow → Type 0) where
  -- ---- lists put together of others

  abbrev pub AllHave : List AcceptedRow → Type 0
  AllHave rows = (row : AcceptedRow) → Contains rows row → P row

  none : AllHave []
  none row has = absurd (empty_has row has)

  one : (y : AcceptedRow) → P y → AllHave (y ∷ [])
  one y is row has = subst P (sym ((has_one y row).0 has)) is

  pub both : (xs ys : List AcceptedRow) → AllHave xs → AllHave ys → AllHave (xs ++ ys)
  both xs ys front after row has = elim ((has_both xs ys row).0 has) [
    | inl early ↦ front row early
    | inr late ↦ after row late
  ]

  each : {X : Type 0} (f : X → List AcceptedRow) (xs : List X) → ((x : X) → AllHave (f x)) → AllHave (flat_map f xs)
  each f xs all row has =
      let of = (has_each f (λ x r. Contains (f x) r) xs row (λ x. ((λ h. h), (λ h. h)))).0 has in all of.1 row of.3

  if_so : (b : Bool) (xs : List AcceptedRow) → AllHave xs → AllHave (cond b xs [])
  if_so true xs all = all
  if_so false xs all = none

  if_not : (b : Bool) (xs : List AcceptedRow) → AllHave xs → AllHave (cond b [] xs)
  if_not true xs all = none
  if_not false xs all = all

  scheme_had : (kind : KeyKind) (rows : VerifyScheme → List AcceptedRow) → ((s : VerifyScheme) → AllHave (rows s))
      → AllHave (if_scheme kind rows)
  scheme_had (Scheme s) rows all = all s
  scheme_had NoKeyInfo rows all = none
  scheme_had Unsupported rows all = none

  -- ---- of certificates

  module _ (certificate : (issuer algorithm tbs signature : List ℕ) → P (certificate_row issuer algorithm tbs signature)) where
    pair_had : (trust : Trust) (c : Checked) (pair : Pair) → AllHave (pair_questions trust c pair)
    pair_had trust c pair =
        let y : Cert = (signed_side c pair.0).certificate in
        let x : Cert = (signer_side trust c pair.1).certificate in
        if_so (may_sign (signed_side c pair.0) (signer_side trust c pair.1)) (signature_row y x ∷ [])
        (one (signature_row y x) (certificate x.spki y.algorithm y.tbs y.signature))

    pub certificates_had : (trust : Trust) (c : Checked) → AllHave (certificate_questions trust c)
    certificates_had trust c = each (pair_questions trust c) (pairs trust c) (λ pair. pair_had trust c pair)

  -- ---- of the SCT

  module _ (point : (key message signature : List ℕ) → P (point_row key message signature)) where
    pointed_had : (o : Option (List ℕ)) (d : DigitallySigned) → AllHave (pointed_questions o d)
    pointed_had None d = none
    pointed_had (Some key) d = one (point_row key (signed_bytes d) d.signature) (point key (signed_bytes d) d.signature)

    embedded_had : (points : List ℕ → Option (List ℕ)) (r : Result DigitallySigned SCTError)
        → AllHave (embedded_questions points r)
    embedded_had points (Ok d) =
        if_not (nat_lt (2 ^ 24 - 1) (length d.tbs_certificate))
        (cond (nat_lt (2 ^ 16 - 1) (length d.extensions)) [] (pointed_questions (points d.log_id) d))
        (if_not (nat_lt (2 ^ 16 - 1) (length d.extensions)) (pointed_questions (points d.log_id) d)
        (pointed_had (points d.log_id) d))
    embedded_had points (Err e) = none

    side_had : (trust : Trust) (c : Checked) (side : Side) → AllHave (side_questions trust c side)
    side_had trust c side =
        let ready_under = ready c.certificate (signer_side trust c side).certificate.spki (sct_of c.certificate) in
        if_so (may_sign (signed_side c None) (signer_side trust c side)) (embedded_questions trust.points ready_under)
        (embedded_had trust.points ready_under)

    pub points_had : (trust : Trust) (c : Checked) → AllHave (sct_questions trust c)
    points_had trust c = each (side_questions trust c) (signers trust c) (λ side. side_had trust c side)

  -- ---- of the content, and of the log entry

  module _ (message : (scheme : VerifyScheme) (spki text signature : List ℕ) → P (message_row scheme spki text signature))
      (prehash : (scheme : VerifyScheme) (spki digest signature : List ℕ) → P (prehash_row scheme spki digest signature)) where
    content_under : (s : VerifyScheme) (spki : List ℕ) (d : ArtifactDigest) (content : CheckedContent) (signature : List ℕ)
        → AllHave (content_questions_under s spki d content signature)
    content_under s spki d (Dsse pae digests envelope payload) signature =
        one (message_row s spki pae signature) (message s spki pae signature)
    content_under s spki (Sha256 bytes) MessageSignature signature =
        one (prehash_row s spki bytes signature) (prehash s spki bytes signature)
    content_under s spki (Sha512 bytes) MessageSignature signature = none

    content_had : (d : ArtifactDigest) (c : Checked) → AllHave (content_questions d c)
    content_had d c =
        scheme_had (key_kind c.certificate.spki)
        (λ s. content_questions_under s c.certificate.spki d c.content c.signature)
        (λ s. content_under s c.certificate.spki d c.content c.signature)

    promise_over : (s : VerifyScheme) (spki promise : List ℕ) (r : Result (List ℕ) CanonicalError)
        → AllHave (promise_questions_over s spki promise r)
    promise_over s spki promise (Ok text) = one (message_row s spki text promise) (message s spki text promise)
    promise_over s spki promise (Err e) = none

    promise_by : (s : VerifyScheme) (spki : List ℕ) (e : TransparencyLogEntry) (o : Option (List ℕ))
        → AllHave (promise_questions_by s spki e o)
    promise_by s spki e None = none
    promise_by s spki e (Some promise) = promise_over s spki promise (canonical_of (promise_tree_of e))

    checkpoint_had : (s : VerifyScheme) (spki : List ℕ) (r : Result SignedCheckpoint CheckpointFault)
        → AllHave (checkpoint_questions s spki r)
    checkpoint_had s spki (Ok n) =
        each (note_question s spki (note_text n.note)) n.signatures
        (λ signature. one (message_row s spki (note_text n.note) signature.raw)
        (message s spki (note_text n.note) signature.raw))
    checkpoint_had s spki (Err fault) = none

    text_had : (s : VerifyScheme) (spki : List ℕ) (o : Option (List ℕ)) → AllHave (text_questions s spki o)
    text_had s spki None = none
    text_had s spki (Some text) = checkpoint_had s spki (checkpoint_of text)

    entry_under : (e : TransparencyLogEntry) (o : Option (List ℕ)) → AllHave (entry_questions_under e o)
    entry_under e None = none
    entry_under e (Some spki) =
        scheme_had (key_kind spki) (λ s. promise_questions s spki e ++ note_questions s spki e)
        (λ s. both (promise_questions s spki e) (note_questions s spki e) (promise_by s spki e e.inclusion_promise)
        (text_had s spki (text_of_proof e)))

    pub others_had : (d : ArtifactDigest) (keys : LogKeys) (c : Checked)
        → AllHave (content_questions d c ++ entry_questions keys c.entry)
    others_had d keys c =
        both (content_questions d c) (entry_questions keys c.entry) (content_had d c)
        (entry_under c.entry (spki_named keys c.entry.log_id))
