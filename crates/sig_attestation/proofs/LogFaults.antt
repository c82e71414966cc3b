-- What a log's word on an entry tells: values and errors.
use Rattle.std.proofs.Common.{◌≡◌, ◌⊎◌, ℕ, List, Bool, true, false, Option, Some, None, Result, Ok, Err, inl, inr, refl}
use Rattle.std.proofs.Common.{sym, ap, ◌∙◌, subst}
use Rattle.std.specs.Prelude.{◌↔◌}
use Rattle.sig_base.proofs.ResultSteps.{err_is, ok_is}
use Rattle.sig_base.specs.ResultSteps.{◌>>=◌}
use Rattle.sig_base.specs.declared.error.SigstoreError.{SigstoreError}
use Rattle.sig_bundle.specs.Promise.{promise_tree_of}
use Rattle.sig_bundle.specs.Proof.{IsProof, IsProofFault, proof_or_fault}
use Rattle.sig_bundle.specs.declared.material.ProofFields.{ProofFields}
use Rattle.sig_bundle.specs.declared.material.TransparencyLogEntry.{TransparencyLogEntry}
use Rattle.sig_bundle.specs.declared.proof_error.ProofFieldsError.{ProofFieldsError}
use Rattle.sig_json_text.specs.Canonical.{canon, canonical_of, or_too_large}
use Rattle.sig_json_text.specs.declared.error.CanonicalError.TheVariants.{IntegerTooLarge}
use Rattle.sig_rekor.specs.Verify.{proof_answer}
use Rattle.sig_rekor.specs.declared.inclusion_proof.InclusionProof.{InclusionProof}
use Rattle.sig_verify.proofs.EntryProofs.{ProofLaws}
use Rattle.sig_verify.proofs.EntrySteps.{included_is, logged}
use Rattle.sig_verify.specs.ContentCheck.{AcceptsUnder}
use Rattle.sig_verify.specs.EntryLinks.{OfProof}
use Rattle.sig_verify.specs.LogEntry.{fields_answer, from_canonical, from_fields, from_proof, if_promised, included}
use Rattle.sig_verify.specs.LogEntry.{promise_answer, promised, vouched}
use Rattle.sig_verify.specs.OfflineErrors.{of_fields, of_proof}
use Rattle.sig_verify.specs.declared.logged_entry.LoggedEntry.{LoggedEntry}
use Rattle.sig_verify.specs.declared.offline_error.OfflineError.{OfflineError}
use Rattle.sig_verify.specs.declared.offline_error.OfflineError.TheVariants as error
use Rattle.sig_attestation.proofs.StepOutcomes.{Tells, retold, tells_done, tells_ends, tells_then}
use Rattle.sig_attestation.specs.LogCauses.{IsInclusionFault, IsLogFault, IsPromised, IsPromiseFault}
use Rattle.sig_attestation.specs.LogCauses.{IsVouched, OfRead, OfText}

module _ (accepts : AcceptsUnder) (t : TransparencyLogEntry) where
  -- ---- the promise

  signed_tells : (b : Bool) → Tells (if_promised b) (λ done. b ≡ true) (λ e. (e ≡ error.Promise) × ¬ (b ≡ true))
  signed_tells true = record {
    ok = λ x. ((λ is. refl), (λ is. refl));
    err = λ e. ((λ is. absurd cc), (λ bad. absurd (bad.1 refl)));
  }
  signed_tells false = record {
    ok = λ x. ((λ is. absurd cc), (λ is. absurd cc));
    err = λ e. ((λ is. (sym (err_is error.Promise e is), λ wrong. absurd cc)), (λ bad. ap (λ (x : OfflineError). Err x) (sym bad.0)));
  }

  text_by : (o : Option (List ℕ))
      → Tells (from_canonical (or_too_large o)) (λ text. or_too_large o ≡ Ok text)
      (λ e. (e ≡ error.PromiseInteger) × (or_too_large o ≡ Err IntegerTooLarge))
  text_by None = record {
    ok = λ x. ((λ is. absurd cc), (λ is. absurd cc));
    err = λ e. ((λ is. (sym (err_is error.PromiseInteger e is), refl)), (λ bad. ap (λ (x : OfflineError). Err x) (sym bad.0)));
  }
  text_by (Some text) = record {
    ok = λ x. (
      (λ is. ap (λ (y : List ℕ). Ok y) (ok_is text x is)),
      (λ is. ap (λ (y : List ℕ). Ok y) (ok_is text x is)),
    );
    err = λ e. ((λ is. absurd cc), (λ bad. let wrong = bad.1 in absurd cc));
  }

  promise_by : (o : Option (List ℕ)) → t.inclusion_promise ≡ o
      → Tells (promised accepts t o) (λ done. IsPromised accepts t) (IsPromiseFault accepts t)
  promise_by None is = record {
    ok = λ x. ((λ told. absurd cc), (λ held. let wrong = sym is ∙ held.1 in absurd cc));
    err = λ e. (
      (λ told. inl (sym (err_is error.PromiseMissing e told), is)),
      (λ bad. elim bad [
        | inl missing ↦ ap (λ (x : OfflineError). Err x) (sym missing.0)
        | inr held ↦ absurd (let wrong = sym is ∙ held.1 in cc)
      ]),
    );
  }
  promise_by (Some promise) is =
      retold (promised accepts t (Some promise)) _ (λ done. IsPromised accepts t) _ (IsPromiseFault accepts t)
      (tells_then (from_canonical (canonical_of (promise_tree_of t))) (λ text. if_promised (accepts text promise))
      (λ text. canonical_of (promise_tree_of t) ≡ Ok text)
      (λ e. (e ≡ error.PromiseInteger) × (canonical_of (promise_tree_of t) ≡ Err IntegerTooLarge))
      (λ text done. accepts text promise ≡ true)
      (λ text e. (e ≡ error.Promise) × ¬ (accepts text promise ≡ true))
      (text_by (canon (promise_tree_of t)))
      (λ text found. signed_tells (accepts text promise)))
      (λ x. (
        (λ held. (promise, is, held)),
        (λ held. subst (λ (p : List ℕ). OfText t (λ text. accepts text p ≡ true)) (same held.0 held.1) held.2),
      ))
      (λ e. (
        (λ bad. inr (promise, is, bad)),
        (λ bad. elim bad [
          | inl missing ↦ absurd (let wrong = sym is ∙ missing.1 in cc)
          | inr held ↦
              subst (λ (p : List ℕ).
              ((e ≡ error.PromiseInteger) × (canonical_of (promise_tree_of t) ≡ Err IntegerTooLarge))
              ⊎ OfText t (λ text. (e ≡ error.Promise) × ¬ (accepts text p ≡ true))) (same held.0 held.1) held.2
        ]),
      ))
    where
      same : (p : List ℕ) → t.inclusion_promise ≡ Some p → p ≡ promise
      same p held = let both : Some p ≡ Some promise = sym held ∙ is in cc

  promise_tells : Tells (promise_answer accepts t) (λ done. IsPromised accepts t) (IsPromiseFault accepts t)
  promise_tells = promise_by t.inclusion_promise refl

  -- ---- the proof

  proof_by : (r : Result (Unit {0}) SigstoreError)
      → Tells (from_proof r) (λ done. r ≡ Ok tt) (λ e. (x : SigstoreError) × (e ≡ of_proof x) × (r ≡ Err x))
  proof_by (Ok done) = record {
    ok = λ x. ((λ is. refl), (λ is. refl));
    err = λ e. ((λ is. absurd cc), (λ bad. let wrong = bad.2 in absurd cc));
  }
  proof_by (Err x) = record {
    ok = λ y. ((λ is. absurd cc), (λ is. absurd cc));
    err = λ e. (
      (λ is. (x, sym (err_is (of_proof x) e is), refl)),
      (λ bad. ap (λ (y : SigstoreError). Err (of_proof y)) (err_is x bad.0 bad.2) ∙ ap (λ (y : OfflineError). Err y) (sym bad.1)),
    );
  }

  module _ (laws : ProofLaws) where
    read_by : (p : ProofFields) (r : Result InclusionProof ProofFieldsError) → proof_or_fault p ≡ r
        → Tells (from_fields r) (λ proof. IsProof p proof)
        (λ e. (f : ProofFieldsError) × (e ≡ of_fields f) × IsProofFault p f)
    read_by p (Ok proof) is = record {
      ok = λ x. (
        (λ told. (laws.proofs p x).0 (is ∙ ap (λ (y : InclusionProof). Ok y) (ok_is proof x told))),
        (λ of. let both = sym is ∙ (laws.proofs p x).1 of in ap (λ (y : InclusionProof). Ok y) (ok_is proof x both)),
      );
      err = λ e. (
        (λ told. absurd cc),
        (λ bad. let both = sym is ∙ (laws.faults p bad.0).1 bad.2 in absurd cc),
      );
    }
    read_by p (Err f) is = record {
      ok = λ x. ((λ told. absurd cc), (λ of. let both = sym is ∙ (laws.proofs p x).1 of in absurd cc));
      err = λ e. (
        (λ told. (f, sym (err_is (of_fields f) e told), (laws.faults p f).0 is)),
        (λ bad.
            let both = sym is ∙ (laws.faults p bad.0).1 bad.2 in
            ap (λ (y : ProofFieldsError). Err (of_fields y)) (err_is f bad.0 both) ∙ ap (λ (y : OfflineError). Err y) (sym bad.1)),
      );
    }

    -- what is checked of a proof, with the value that is made of it
    abbrev rest : InclusionProof → Result LoggedEntry OfflineError
    rest proof = included accepts t proof

    abbrev Ended : InclusionProof → LoggedEntry → Type 0
    Ended proof offline =
        (proof_answer accepts t.canonicalized_body proof ≡ Ok tt)
        × (offline ≡ record { body = t.canonicalized_body; proof = proof })

    abbrev Refused : InclusionProof → OfflineError → Type 0
    Refused proof e =
        (x : SigstoreError) × (e ≡ of_proof x) × (proof_answer accepts t.canonicalized_body proof ≡ Err x)

    rest_tells : (proof : InclusionProof) → Tells (rest proof) (Ended proof) (Refused proof)
    rest_tells proof =
        subst (λ (r : Result LoggedEntry OfflineError). Tells r (Ended proof) (Refused proof))
        (sym (included_is accepts t proof))
        (tells_ends (from_proof (proof_answer accepts t.canonicalized_body proof))
        (λ (done : Unit {0}). Ok (logged t proof)) (logged t proof)
        (proof_answer accepts t.canonicalized_body proof ≡ Ok tt) (Refused proof) refl
        (proof_by (proof_answer accepts t.canonicalized_body proof)))

    abbrev IsShown : LoggedEntry → Type 0
    IsShown offline = OfProof t (λ p. OfRead p (λ proof. Ended proof offline))

    proof_told : (o : Option ProofFields) → t.inclusion_proof ≡ o
        → Tells (fields_answer o >>= rest) IsShown (IsInclusionFault accepts t)
    proof_told None is = record {
      ok = λ x. ((λ told. absurd cc), (λ held. let wrong = sym is ∙ held.1 in absurd cc));
      err = λ e. (
        (λ told. inl (sym (err_is error.ProofMissing e told), is)),
        (λ bad. elim bad [
          | inl missing ↦ ap (λ (x : OfflineError). Err x) (sym missing.0)
          | inr held ↦ absurd (let wrong = sym is ∙ held.1 in cc)
        ]),
      );
    }
    proof_told (Some p) is =
        retold (fields_answer (Some p) >>= rest) _ IsShown _ (IsInclusionFault accepts t)
        (tells_then (fields_answer (Some p)) rest (λ proof. IsProof p proof)
        (λ e. (f : ProofFieldsError) × (e ≡ of_fields f) × IsProofFault p f) Ended Refused
        (read_by p (proof_or_fault p) refl) (λ proof of. rest_tells proof))
        (λ x. (
          (λ held. (p, is, held)),
          (λ held. subst (λ (g : ProofFields). OfRead g (λ proof. Ended proof x)) (same held.0 held.1) held.2),
        ))
        (λ e. (
          (λ bad. inr (p, is, bad)),
          (λ bad. elim bad [
            | inl missing ↦ absurd (let wrong = sym is ∙ missing.1 in cc)
            | inr held ↦
                subst (λ (g : ProofFields).
                ((f : ProofFieldsError) × (e ≡ of_fields f) × IsProofFault g f) ⊎ OfRead g (λ proof. Refused proof e))
                (same held.0 held.1) held.2
          ]),
        ))
      where
        same : (g : ProofFields) → t.inclusion_proof ≡ Some g → g ≡ p
        same g held = let both : Some g ≡ Some p = sym held ∙ is in cc

    -- ---- both

    vouched_tells : Tells (vouched accepts t) (λ offline. IsPromised accepts t × IsShown offline) (IsLogFault accepts t)
    vouched_tells =
        tells_done (promise_answer accepts t) _ (IsPromised accepts t) (IsPromiseFault accepts t) IsShown
        (IsInclusionFault accepts t) promise_tells (λ is. proof_told t.inclusion_proof refl)

    pub vouched_said : (offline : LoggedEntry) → vouched accepts t ≡ Ok offline → IsVouched accepts t
    vouched_said offline is =
        let held = (vouched_tells.ok offline).0 is in
        let shown = held.1 in
        (held.0, (shown.0, shown.1, (shown.2.0, shown.2.1, shown.2.2.0)))

    pub said_vouched : IsVouched accepts t → (offline : LoggedEntry) × (vouched accepts t ≡ Ok offline)
    said_vouched held =
        let proved = held.1 in
        let offline : LoggedEntry = record { body = t.canonicalized_body; proof = proved.2.0 } in (
          offline,
          (vouched_tells.ok offline).1
              (held.0, (proved.0, proved.1, (proved.2.0, proved.2.1, (proved.2.2, refl)))),
        )

    pub unvouched : (e : OfflineError) → (vouched accepts t ≡ Err e) ↔ IsLogFault accepts t e
    unvouched e = vouched_tells.err e
