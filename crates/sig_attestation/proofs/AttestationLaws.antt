-- What a bundle attests: values and errors.
use Rattle.std.proofs.Common.{◌≡◌, ◌≢◌, ◌⊎◌, Option, Some, None, Result, Ok, Err, IfOk, IfErr, inl, inr, refl}
use Rattle.std.proofs.Common.{sym, ap, ◌∙◌}
use Rattle.sig_base.proofs.ResultSteps.{err_is, ok_is}
use Rattle.sig_base.specs.Answers.{Answers, OrMemory, UnlessMemory}
use Rattle.sig_base.specs.declared.error.SigstoreError.{SigstoreError}
use Rattle.sig_base.specs.declared.error.SigstoreError.TheVariants.{OutOfMemory, UnexpectedError}
use Rattle.sig_base.specs.declared.unexpected.UnexpectedKind.TheVariants as kind
use Rattle.sig_bundle.specs.BundleRecord.{bundle_in}
use Rattle.sig_bundle.specs.declared.bundle.Bundle.{Bundle}
use Rattle.sig_bundle.specs.declared.bundle.Content.{Content}
use Rattle.sig_bundle.specs.declared.bundle.Content.TheVariants as content
use Rattle.sig_dsse.specs.declared.envelope.DsseEnvelope.{DsseEnvelope}
use Rattle.sig_json.specs.declared.error.JsonError.{JsonError}
use Rattle.sig_payload.specs.Bundles.{readable}
use Rattle.sig_verify.proofs.EntryProofs.{ProofLaws}
use Rattle.sig_attestation.proofs.EvidenceCauses.{evidence_tells}
use Rattle.sig_attestation.proofs.ImageCauses.{image_tells}
use Rattle.sig_attestation.proofs.StepOutcomes.{Tells, tells_made, tells_then}
use Rattle.sig_attestation.specs.Attestation.{attestation_answer, attestation_of, attested, evidence_answer}
use Rattle.sig_attestation.specs.Causes.{Asked, IsAttestation, IsEvidenceFault, IsEvidenceOf, IsFault, IsImageFault}
use Rattle.sig_attestation.specs.Causes.{IsImageOf, OfEnvelope, Told}
use Rattle.sig_attestation.specs.Image.{envelope_in, image_answer}
use Rattle.sig_attestation.specs.declared.attestation.Attestation.{Attestation}
use Rattle.sig_attestation.specs.declared.attestation.Evidence.{Evidence}
use Rattle.sig_attestation.specs.declared.image.Image.{Image}

err_of : {A : Type 0} (k e : SigstoreError) → e ≡ k → ◌≡◌ {A = Result A SigstoreError} (Err k) (Err e)
err_of k e is = ap (λ (x : SigstoreError). Err x) (sym is)

readable_tells : (r : Result Bundle JsonError)
    → Tells (readable r) (λ b. r ≡ Ok b) (λ e. Told e kind.BundleUnreadable ((b : Bundle) → r ≢ Ok b))
readable_tells (Ok b) = record {
  ok = λ x. ((λ is. ap (λ (y : Bundle). Ok y) (ok_is b x is)), (λ is. ap (λ (y : Bundle). Ok y) (ok_is b x is)));
  err = λ e. ((λ is. absurd cc), (λ bad. absurd (bad.1 b refl)));
}
readable_tells (Err d) = record {
  ok = λ x. ((λ is. absurd cc), (λ is. absurd cc));
  err = λ e. (
    (λ is. (sym (err_is (UnexpectedError kind.BundleUnreadable) e is), λ b wrong. absurd cc)),
    (λ bad. err_of (UnexpectedError kind.BundleUnreadable) e bad.0),
  );
}

envelope_tells : (o : Option Content)
    → Tells (envelope_in o) (λ v. o ≡ Some (content.DsseEnvelope v))
    (λ e. Told e kind.ContentNotDsse ((v : DsseEnvelope) → o ≢ Some (content.DsseEnvelope v)))
envelope_tells None = record {
  ok = λ x. ((λ is. absurd cc), (λ is. absurd cc));
  err = λ e. (
    (λ is. (sym (err_is (UnexpectedError kind.ContentNotDsse) e is), λ v wrong. absurd cc)),
    (λ bad. err_of (UnexpectedError kind.ContentNotDsse) e bad.0),
  );
}
envelope_tells (Some (content.MessageSignature m)) = record {
  ok = λ x. ((λ is. absurd cc), (λ is. absurd cc));
  err = λ e. (
    (λ is. (sym (err_is (UnexpectedError kind.ContentNotDsse) e is), λ v wrong. absurd cc)),
    (λ bad. err_of (UnexpectedError kind.ContentNotDsse) e bad.0),
  );
}
envelope_tells (Some (content.DsseEnvelope v)) = record {
  ok = λ x. (
    (λ is. ap (λ (y : DsseEnvelope). Some (content.DsseEnvelope y)) (ok_is v x is)),
    (λ is. let same : v ≡ x = cc in ap (λ (y : DsseEnvelope). Ok y) same),
  );
  err = λ e. ((λ is. absurd cc), (λ bad. absurd (bad.1 v refl)));
}

module _ (laws : ProofLaws) (q : Asked) where
  abbrev OfEvidence : Bundle → DsseEnvelope → Image → Attestation → Type 0
  OfEvidence b v image a = (evidence : Evidence) × IsEvidenceOf q b v evidence × (a ≡ attestation_of image evidence)

  attestation_tells : Tells (attestation_answer q.spki q.keys q.source q.text) (IsAttestation q) (IsFault q)
  attestation_tells =
      tells_then (readable (bundle_in q.text)) (attested q.spki q.keys q.source) (λ b. bundle_in q.text ≡ Ok b)
      (λ e. Told e kind.BundleUnreadable ((b : Bundle) → bundle_in q.text ≢ Ok b))
      (λ b a. OfEnvelope b (λ v. (image : Image) × IsImageOf q.source v image × OfEvidence b v image a))
      (λ b e. Told e kind.ContentNotDsse ((v : DsseEnvelope) → b.content ≢ Some (content.DsseEnvelope v))
      ⊎ OfEnvelope b (λ v. IsImageFault q.source v e
      ⊎ ((image : Image) × IsImageOf q.source v image × IsEvidenceFault q b v e)))
      (readable_tells (bundle_in q.text))
      (λ b read. tells_then (envelope_in b.content) _ (λ v. b.content ≡ Some (content.DsseEnvelope v))
      (λ e. Told e kind.ContentNotDsse ((v : DsseEnvelope) → b.content ≢ Some (content.DsseEnvelope v)))
      (λ v a. (image : Image) × IsImageOf q.source v image × OfEvidence b v image a)
      (λ v e. IsImageFault q.source v e ⊎ ((image : Image) × IsImageOf q.source v image × IsEvidenceFault q b v e))
      (envelope_tells b.content)
      (λ v held. tells_then (image_answer q.source v) _ (IsImageOf q.source v) (IsImageFault q.source v)
      (λ image a. OfEvidence b v image a) (λ image e. IsEvidenceFault q b v e)
      (image_tells q.source v)
      (λ image about. tells_made (evidence_answer q.spki q.keys b v) _ (attestation_of image) (IsEvidenceOf q b v)
      (IsEvidenceFault q b v) (λ evidence. refl) (evidence_tells laws q b v))))

  -- ---- of what is returned

  abbrev Returned : Type 0
  Returned = Result Attestation SigstoreError

  abbrev meant : Returned
  meant = attestation_answer q.spki q.keys q.source q.text

  pub attested_found : (r : Returned) → Answers OutOfMemory (λ (a : Attestation). a) r meant → IfOk r (IsAttestation q)
  attested_found (Ok a) is = (attestation_tells.ok a).0 is
  attested_found (Err e) is = tt

  pub attested_only : (r : Returned) → Answers OutOfMemory (λ (a : Attestation). a) r meant → (a : Attestation)
      → IsAttestation q a → UnlessMemory OutOfMemory r (r ≡ Ok a)
  attested_only (Ok x) is a held = inr (sym is ∙ (attestation_tells.ok a).1 held)
  attested_only (Err e) (inl memory) a held = inl (ap (λ (x : SigstoreError). Err x) memory)
  attested_only (Err e) (inr is) a held = inr (sym is ∙ (attestation_tells.ok a).1 held)

  pub refused_found : (r : Returned) → Answers OutOfMemory (λ (a : Attestation). a) r meant
      → IfErr r (λ e. OrMemory OutOfMemory e (IsFault q e))
  refused_found (Ok a) is = tt
  refused_found (Err e) (inl memory) = inl memory
  refused_found (Err e) (inr is) = inr ((attestation_tells.err e).0 is)

  pub refused_only : (r : Returned) → Answers OutOfMemory (λ (a : Attestation). a) r meant → (e : SigstoreError)
      → IsFault q e → UnlessMemory OutOfMemory r (r ≡ Err e)
  refused_only (Ok x) is e cause = inr (sym is ∙ (attestation_tells.err e).1 cause)
  refused_only (Err d) (inl memory) e cause = inl (ap (λ (x : SigstoreError). Err x) memory)
  refused_only (Err d) (inr is) e cause = inr (sym is ∙ (attestation_tells.err e).1 cause)
