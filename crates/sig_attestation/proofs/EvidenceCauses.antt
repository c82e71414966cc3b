-- What a bundle brings beside its envelope: values and errors.
use Rattle.std.proofs.Common.{◌≡◌, ◌≢◌, ◌⊎◌, ℕ, List, [], ◌∷◌, length, Bool, true, false, Option, Some, None, Result}
use Rattle.std.proofs.Common.{Ok, Err, inl, inr, refl, sym, ap, ◌∙◌, arith}
use Rattle.std.specs.Bool.{Decides}
use Rattle.std.specs.Option.{ok_or}
use Rattle.hex.specs.Hex.{encode_lower}
use Rattle.sig_base.proofs.ResultSteps.{err_is, ok_is}
use Rattle.sig_base.specs.ByText.{text_lookup}
use Rattle.sig_base.specs.declared.error.SigstoreError.{SigstoreError}
use Rattle.sig_base.specs.declared.error.SigstoreError.TheVariants.{RekorPublicKeyNotFoundError, UnexpectedError}
use Rattle.sig_base.specs.declared.unexpected.UnexpectedKind.TheVariants as kind
use Rattle.sig_bundle.specs.declared.bundle.Bundle.{Bundle}
use Rattle.sig_bundle.specs.declared.material.MaterialContent.{MaterialContent}
use Rattle.sig_bundle.specs.declared.material.MaterialContent.TheVariants.{Certificate, PublicKey, X509CertificateChain}
use Rattle.sig_bundle.specs.declared.material.TransparencyLogEntry.{TransparencyLogEntry}
use Rattle.sig_bundle.specs.declared.material.VerificationMaterial.{VerificationMaterial}
use Rattle.sig_dsse.specs.EnvelopeText.{envelope_text}
use Rattle.sig_dsse.specs.declared.envelope.DsseEnvelope.{DsseEnvelope}
use Rattle.sig_dsse.specs.declared.envelope.DsseSignature.{DsseSignature}
use Rattle.sig_key.specs.Key.{key_accepts}
use Rattle.sig_key.specs.declared.verification_key.CosignVerificationKey.{CosignVerificationKey}
use Rattle.sig_payload.specs.Bundles.{Keys, found_key, key_named}
use Rattle.sig_verify.proofs.EntryProofs.{ProofLaws}
use Rattle.sig_verify.specs.LogEntry.{vouched}
use Rattle.sig_verify.specs.declared.logged_entry.LoggedEntry.{LoggedEntry}
use Rattle.sig_verify.specs.declared.offline_error.OfflineError.{OfflineError}
use Rattle.sig_attestation.proofs.LogFaults.{said_vouched, unvouched, vouched_said}
use Rattle.sig_attestation.proofs.OneSignatureBodies.{logged_decides}
use Rattle.sig_attestation.proofs.StepOutcomes.{Tells, tells_done, tells_ends, tells_some, tells_then}
use Rattle.sig_attestation.specs.Attestation.{evidence_answer, evidence_of}
use Rattle.sig_attestation.specs.Body.{body_answer, if_logged, is_logged_once}
use Rattle.sig_attestation.specs.Causes.{Asked, IsBodyOf, IsEntryFault, IsEvidenceFault, IsEvidenceOf, IsKeyFault}
use Rattle.sig_attestation.specs.Causes.{IsSignerFault, IsVouchedFor, OfCertificate, OfEntry, OfId, OfKey}
use Rattle.sig_attestation.specs.Causes.{OfMaterial, Told}
use Rattle.sig_attestation.specs.LogCauses.{IsLogFault, IsVouched}
use Rattle.sig_attestation.specs.Material.{certificate_in, entry_in, material_in, signature_in}
use Rattle.sig_attestation.specs.Vouching.{entry_answer, from_vouched, log_refusal}
use Rattle.sig_attestation.specs.declared.attestation.Evidence.{Evidence}

err_of : {A : Type 0} (k e : SigstoreError) → e ≡ k → ◌≡◌ {A = Result A SigstoreError} (Err k) (Err e)
err_of k e is = ap (λ (x : SigstoreError). Err x) (sym is)

-- ---- lists of one

signature_tells : (signatures : List DsseSignature)
    → Tells (signature_in signatures) (λ s. signatures ≡ s ∷ [])
    (λ e. Told e (kind.SignatureCount (length signatures)) (length signatures ≢ 1))
signature_tells [] = record {
  ok = λ x. ((λ is. absurd cc), (λ is. absurd cc));
  err = λ e. (
    (λ is. (sym (err_is (UnexpectedError (kind.SignatureCount 0)) e is), λ one. absurd (omega arith))),
    (λ bad. err_of (UnexpectedError (kind.SignatureCount 0)) e bad.0),
  );
}
signature_tells (s ∷ []) = record {
  ok = λ x. ((λ is. ap (λ (y : DsseSignature). y ∷ []) (ok_is s x is)), (λ is. let same : s ≡ x = cc in ap (λ (y : DsseSignature). Ok y) same));
  err = λ e. ((λ is. absurd cc), (λ bad. absurd (bad.1 refl)));
}
signature_tells (s ∷ next ∷ others) = record {
  ok = λ x. ((λ is. absurd cc), (λ is. absurd cc));
  err = λ e. (
    (λ is. (sym (err_is (UnexpectedError (kind.SignatureCount (length (s ∷ next ∷ others)))) e is), λ one. absurd (omega arith))),
    (λ bad. err_of (UnexpectedError (kind.SignatureCount (length (s ∷ next ∷ others)))) e bad.0),
  );
}

entry_tells : (entries : List TransparencyLogEntry)
    → Tells (entry_in entries) (λ t. entries ≡ t ∷ [])
    (λ e. Told e (kind.EntryCount (length entries)) (length entries ≢ 1))
entry_tells [] = record {
  ok = λ x. ((λ is. absurd cc), (λ is. absurd cc));
  err = λ e. (
    (λ is. (sym (err_is (UnexpectedError (kind.EntryCount 0)) e is), λ one. absurd (omega arith))),
    (λ bad. err_of (UnexpectedError (kind.EntryCount 0)) e bad.0),
  );
}
entry_tells (t ∷ []) = record {
  ok = λ x. ((λ is. ap (λ (y : TransparencyLogEntry). y ∷ []) (ok_is t x is)), (λ is. let same : t ≡ x = cc in ap (λ (y : TransparencyLogEntry). Ok y) same));
  err = λ e. ((λ is. absurd cc), (λ bad. absurd (bad.1 refl)));
}
entry_tells (t ∷ next ∷ others) = record {
  ok = λ x. ((λ is. absurd cc), (λ is. absurd cc));
  err = λ e. (
    (λ is. (sym (err_is (UnexpectedError (kind.EntryCount (length (t ∷ next ∷ others)))) e is), λ one. absurd (omega arith))),
    (λ bad. err_of (UnexpectedError (kind.EntryCount (length (t ∷ next ∷ others)))) e bad.0),
  );
}

-- ---- the certificate

other_signer : (c : MaterialContent) → ((der : List ℕ) → c ≢ Certificate der)
    → Tells (certificate_in (Some c)) (λ der. Some c ≡ Some (Certificate der)) (IsSignerFault (Some c))
other_signer (Certificate der) not = absurd (not der refl)
other_signer (X509CertificateChain ders) not = record {
  ok = λ x. ((λ is. absurd cc), (λ is. absurd cc));
  err = λ e. (
    (λ is. inr (sym (err_is (UnexpectedError kind.MaterialNotCertificate) e is), (X509CertificateChain ders, refl, not))),
    (λ bad. elim bad [
      | inl none ↦ absurd (let wrong = none.1 in cc)
      | inr other ↦ err_of (UnexpectedError kind.MaterialNotCertificate) e other.0
    ]),
  );
}
other_signer PublicKey not = record {
  ok = λ x. ((λ is. absurd cc), (λ is. absurd cc));
  err = λ e. (
    (λ is. inr (sym (err_is (UnexpectedError kind.MaterialNotCertificate) e is), (PublicKey, refl, not))),
    (λ bad. elim bad [
      | inl none ↦ absurd (let wrong = none.1 in cc)
      | inr other ↦ err_of (UnexpectedError kind.MaterialNotCertificate) e other.0
    ]),
  );
}

certificate_tells : (content : Option MaterialContent)
    → Tells (certificate_in content) (λ der. content ≡ Some (Certificate der)) (IsSignerFault content)
certificate_tells None = record {
  ok = λ x. ((λ is. absurd cc), (λ is. absurd cc));
  err = λ e. (
    (λ is. inl (sym (err_is (UnexpectedError kind.MaterialMissing) e is), refl)),
    (λ bad. elim bad [
      | inl none ↦ err_of (UnexpectedError kind.MaterialMissing) e none.0
      | inr other ↦ absurd (let wrong = other.1.1 in cc)
    ]),
  );
}
certificate_tells (Some (Certificate der)) = record {
  ok = λ x. (
    (λ is. ap (λ (y : List ℕ). Some (Certificate y)) (ok_is der x is)),
    (λ is. let same : der ≡ x = cc in ap (λ (y : List ℕ). Ok y) same),
  );
  err = λ e. (
    (λ is. absurd cc),
    (λ bad. elim bad [
      | inl none ↦ absurd (let wrong = none.1 in cc)
      | inr other ↦ absurd (other.1.2 der (let same : other.1.0 ≡ Certificate der = cc in same))
    ]),
  );
}
certificate_tells (Some (X509CertificateChain ders)) = other_signer (X509CertificateChain ders) (λ der is. absurd cc)
certificate_tells (Some PublicKey) = other_signer PublicKey (λ der is. absurd cc)

-- ---- the log's word

key_by : (keys : Keys) (id : List ℕ) (o : Option CosignVerificationKey) → text_lookup (encode_lower id) keys ≡ o
    → Tells (found_key (encode_lower id) o) (λ key. text_lookup (encode_lower id) keys ≡ Some key) (IsKeyFault keys id)
key_by keys id None is = record {
  ok = λ x. ((λ told. absurd cc), (λ held. let wrong = sym is ∙ held in absurd cc));
  err = λ e. (
    (λ told. (sym (err_is (RekorPublicKeyNotFoundError (encode_lower id)) e told), is)),
    (λ bad. err_of (RekorPublicKeyNotFoundError (encode_lower id)) e bad.0),
  );
}
key_by keys id (Some key) is = record {
  ok = λ x. (
    (λ told. is ∙ ap (λ (y : CosignVerificationKey). Some y) (ok_is key x told)),
    (λ held. let both : Some key ≡ Some x = sym is ∙ held in let same : key ≡ x = cc in ap (λ (y : CosignVerificationKey). Ok y) same),
  );
  err = λ e. ((λ told. absurd cc), (λ bad. let wrong = sym is ∙ bad.1 in absurd cc));
}

module _ (laws : ProofLaws) where
  vouched_by : (accepts : List ℕ → List ℕ → Bool) (t : TransparencyLogEntry) (r : Result LoggedEntry OfflineError)
      → vouched accepts t ≡ r
      → Tells (from_vouched r) (λ done. IsVouched accepts t)
      (λ e. (why : OfflineError) × (e ≡ log_refusal why) × IsLogFault accepts t why)
  vouched_by accepts t (Ok offline) is = record {
    ok = λ x. ((λ told. vouched_said accepts t laws offline is), (λ held. refl));
    err = λ e. (
      (λ told. absurd cc),
      (λ bad. let wrong = sym is ∙ (unvouched accepts t laws bad.0).1 bad.2 in absurd cc),
    );
  }
  vouched_by accepts t (Err why) is = record {
    ok = λ x. (
      (λ told. absurd cc),
      (λ held. let wrong = sym is ∙ (said_vouched accepts t laws held).1 in absurd cc),
    );
    err = λ e. (
      (λ told. (why, sym (err_is (log_refusal why) e told), (unvouched accepts t laws why).0 is)),
      (λ bad.
          let both = sym is ∙ (unvouched accepts t laws bad.0).1 bad.2 in
          ap (λ (y : OfflineError). Err (log_refusal y)) (err_is why bad.0 both)
          ∙ ap (λ (y : SigstoreError). Err y) (sym bad.1)),
    );
  }

  module _ (q : Asked) (t : TransparencyLogEntry) where
    vouching_tells : Tells (entry_answer q.spki q.keys t) (λ done. IsVouchedFor q t) (IsEntryFault q t)
    vouching_tells =
        tells_then (ok_or q.keys (UnexpectedError kind.KeysMissing)) _ (λ keys. q.keys ≡ Some keys) (λ e. Told e kind.KeysMissing (q.keys ≡ None))
        (λ keys done. OfId t (λ id. OfKey keys id (λ key. IsVouched (key_accepts q.spki key) t)))
        (λ keys e. Told e kind.LogIdMissing (t.log_id ≡ None) ⊎ OfId t (λ id. IsKeyFault keys id e
        ⊎ OfKey keys id (λ key. (why : OfflineError) × (e ≡ log_refusal why)
        × IsLogFault (key_accepts q.spki key) t why)))
        (tells_some q.keys (UnexpectedError kind.KeysMissing))
        (λ keys given. tells_then (ok_or t.log_id (UnexpectedError kind.LogIdMissing)) _ (λ id. t.log_id ≡ Some id) (λ e. Told e kind.LogIdMissing (t.log_id ≡ None))
        (λ id done. OfKey keys id (λ key. IsVouched (key_accepts q.spki key) t))
        (λ id e. IsKeyFault keys id e ⊎ OfKey keys id (λ key. (why : OfflineError) × (e ≡ log_refusal why)
        × IsLogFault (key_accepts q.spki key) t why))
        (tells_some t.log_id (UnexpectedError kind.LogIdMissing))
        (λ id named. tells_then (key_named keys (encode_lower id)) _
        (λ key. text_lookup (encode_lower id) keys ≡ Some key) (IsKeyFault keys id)
        (λ key done. IsVouched (key_accepts q.spki key) t)
        (λ key e. (why : OfflineError) × (e ≡ log_refusal why) × IsLogFault (key_accepts q.spki key) t why)
        (key_by keys id (text_lookup (encode_lower id) keys) refl)
        (λ key found. vouched_by (key_accepts q.spki key) t (vouched (key_accepts q.spki key) t) refl)))

  -- ---- the body

  logged_by : (b : Bool) (P : Type 0) → Decides b P → Tells (if_logged b) (λ done. P) (λ e. Told e kind.Body (¬ P))
  logged_by true P decides = record {
    ok = λ x. ((λ is. decides.0 refl), (λ p. refl));
    err = λ e. ((λ is. absurd cc), (λ bad. absurd (bad.1 (decides.0 refl))));
  }
  logged_by false P decides = record {
    ok = λ x. ((λ is. absurd cc), (λ p. let wrong = decides.1 p in absurd cc));
    err = λ e. (
      (λ is. (sym (err_is (UnexpectedError kind.Body) e is), λ p. let wrong = decides.1 p in absurd cc)),
      (λ bad. err_of (UnexpectedError kind.Body) e bad.0),
    );
  }

  body_tells : (v : DsseEnvelope) (s : DsseSignature) (der : List ℕ) (t : TransparencyLogEntry)
      → Tells (body_answer v s der t.canonicalized_body) (λ done. IsBodyOf v s der t)
      (λ e. Told e kind.Body (¬ IsBodyOf v s der t))
  body_tells v s der t =
      logged_by (is_logged_once (envelope_text v) v.payload s.sig der t.canonicalized_body) (IsBodyOf v s der t)
      (logged_decides (envelope_text v) v.payload s.sig der t.canonicalized_body)

  -- ---- all of them

  module _ (q : Asked) (b : Bundle) (v : DsseEnvelope) where
    abbrev Kept : DsseSignature → List ℕ → TransparencyLogEntry → Evidence → Type 0
    Kept s der t x = IsVouchedFor q t × (IsBodyOf v s der t × (x ≡ evidence_of v s der t))

    abbrev Vouching : DsseSignature → List ℕ → TransparencyLogEntry → SigstoreError → Type 0
    Vouching s der t e = IsEntryFault q t e ⊎ (IsVouchedFor q t × Told e kind.Body (¬ IsBodyOf v s der t))

    abbrev OfLogged : DsseSignature → VerificationMaterial → List ℕ → SigstoreError → Type 0
    OfLogged s m der e =
        Told e (kind.EntryCount (length m.tlog_entries)) (length m.tlog_entries ≢ 1)
        ⊎ OfEntry m (λ t. Vouching s der t e)

    abbrev OfSigner : DsseSignature → VerificationMaterial → SigstoreError → Type 0
    OfSigner s m e = IsSignerFault m.content e ⊎ OfCertificate m (λ der. OfLogged s m der e)

    pub evidence_tells : Tells (evidence_answer q.spki q.keys b v) (IsEvidenceOf q b v) (IsEvidenceFault q b v)
    unfolding evidence_answer
    evidence_tells =
        tells_then (signature_in v.signatures) _ (λ s. v.signatures ≡ s ∷ [])
        (λ e. Told e (kind.SignatureCount (length v.signatures)) (length v.signatures ≢ 1))
        (λ s x. OfMaterial b (λ m. OfCertificate m (λ der. OfEntry m (λ t. Kept s der t x))))
        (λ s e. Told e kind.MaterialMissing (b.verification_material ≡ None) ⊎ OfMaterial b (λ m. OfSigner s m e))
        (signature_tells v.signatures)
        (λ s one. tells_then (material_in b.verification_material) _ (λ m. b.verification_material ≡ Some m)
        (λ e. Told e kind.MaterialMissing (b.verification_material ≡ None))
        (λ m x. OfCertificate m (λ der. OfEntry m (λ t. Kept s der t x))) (λ m e. OfSigner s m e)
        (tells_some b.verification_material (UnexpectedError kind.MaterialMissing))
        (λ m brought. tells_then (certificate_in m.content) _ (λ der. m.content ≡ Some (Certificate der))
        (IsSignerFault m.content) (λ der x. OfEntry m (λ t. Kept s der t x)) (λ der e. OfLogged s m der e)
        (certificate_tells m.content)
        (λ der held. tells_then (entry_in m.tlog_entries) _ (λ t. m.tlog_entries ≡ t ∷ [])
        (λ e. Told e (kind.EntryCount (length m.tlog_entries)) (length m.tlog_entries ≢ 1))
        (λ t x. Kept s der t x) (λ t e. Vouching s der t e)
        (entry_tells m.tlog_entries)
        (λ t only. tells_done (entry_answer q.spki q.keys t) _ (IsVouchedFor q t) (IsEntryFault q t)
        (λ x. IsBodyOf v s der t × (x ≡ evidence_of v s der t)) (λ e. Told e kind.Body (¬ IsBodyOf v s der t))
        (vouching_tells q t)
        (λ is. tells_ends (body_answer v s der t.canonicalized_body) _ (evidence_of v s der t) (IsBodyOf v s der t)
        (λ e. Told e kind.Body (¬ IsBodyOf v s der t)) refl (body_tells v s der t))))))
