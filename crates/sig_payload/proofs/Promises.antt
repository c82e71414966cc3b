-- What a log promised: the computed result and what it means are the same.
use Rattle.std.proofs.Common.{◌≡◌, inl, inr, ℕ, List, Bool, true, false, Option, Some, None, Result, Ok, Err}
use Rattle.std.proofs.Common.{IfOk, IfErr, refl, sym, ap, subst, ◌∙◌, if◌then◌else◌}
use Rattle.sig_base.specs.Answers.{Answers, OrMemory, UnlessMemory}
use Rattle.sig_base.specs.ByText.{text_lookup}
use Rattle.sig_base.specs.ResultSteps.{◌>>=◌}
use Rattle.sig_base.specs.declared.error.SigstoreError.{SigstoreError}
use Rattle.sig_base.specs.declared.error.SigstoreError.TheVariants.{UnexpectedError, RekorPublicKeyNotFoundError}
use Rattle.sig_base.specs.declared.error.SigstoreError.TheVariants.{Base64DecodeError, PublicKeyVerificationError}
use Rattle.sig_base.specs.declared.error.SigstoreError.TheVariants.{OutOfMemory}
use Rattle.sig_base.specs.declared.unexpected.UnexpectedKind.TheVariants.{BundleUnreadable}
use Rattle.sig_json.specs.declared.error.JsonError.{JsonError}
use Rattle.sig_key.specs.Key.{check_answer, key_accepts}
use Rattle.sig_key.specs.Signature.{text_bytes}
use Rattle.sig_key.specs.declared.verification_key.CosignVerificationKey.{CosignVerificationKey}
use Rattle.sig_payload.proofs.PayloadTexts.{exact-text, exact_or_wide, wide-text}
use Rattle.sig_payload.specs.Bundles.{AcceptsSpki, Keys, found_key, promise_answer, readable}
use Rattle.sig_payload.specs.Promised.{IsExactPayload, IsFaultBy, IsPromiseFault, IsPromised, IsPromisedBy}
use Rattle.sig_payload.specs.Promised.{promised_text}
use Rattle.sig_payload.specs.declared.bundle.Bundle.{Bundle}

module _ (spki : AcceptsSpki) (keys : Keys) where
  -- what a result says of a bundle
  abbrev Told : Bundle → Result (Unit {0}) SigstoreError → Type 0
  Told b (Ok done) = IsPromised spki keys b
  Told b (Err e) = IsPromiseFault spki keys b e

  by_word : (b : Bundle) (key : CosignVerificationKey) (bytes : List ℕ) (word : Bool) → IsExactPayload b.payload
      → text_lookup b.payload.log_id keys ≡ Some key → text_bytes b.signed_entry_timestamp ≡ Some bytes
      → key_accepts spki key (promised_text b.payload) bytes ≡ word
      → Told b (if word then Ok tt else Err PublicKeyVerificationError)
  by_word b key bytes true exact found coded said = record { exact = exact; signed = (key, (found, (bytes, (coded, said)))) }
  by_word b key bytes false exact found coded said = (exact, (key, (found, (bytes, (coded, said)))))

  by_parts : (b : Bundle) (found : Option CosignVerificationKey) (bytes : Option (List ℕ)) → IsExactPayload b.payload
      → text_lookup b.payload.log_id keys ≡ found → text_bytes b.signed_entry_timestamp ≡ bytes
      → Told b (found_key b.payload.log_id found
      >>= λ key. check_answer (key_accepts spki key (promised_text b.payload)) bytes)
  by_parts b None bytes exact found coded = (exact, (refl, found))
  by_parts b (Some key) None exact found coded = (exact, ((key, (found, tt)), coded))
  by_parts b (Some key) (Some bytes) exact found coded =
      by_word b key bytes (key_accepts spki key (promised_text b.payload) bytes) exact found coded refl

  told : (b : Bundle) → Told b (promise_answer spki keys b)
  told b = elim (exact_or_wide b.payload) [
    | inl exact ↦ rw (exact-text b.payload exact) (by_parts b (text_lookup b.payload.log_id keys)
        (text_bytes b.signed_entry_timestamp) exact refl refl)
    | inr wide ↦ rw (wide-text b.payload wide) (refl, wide)
  ]

  only-promised : (b : Bundle) → IsPromised spki keys b → promise_answer spki keys b ≡ Ok tt
  only-promised b is =
      let found = is.signed.1 in
      let bytes = found.1.1 in
      rw (exact-text b.payload is.exact, found.0, bytes.0, bytes.1) refl

  only-fault : (b : Bundle) (e : SigstoreError) → IsPromiseFault spki keys b e → promise_answer spki keys b ≡ Err e
  only-fault b (UnexpectedError kind) is = rw (wide-text b.payload is.1, is.0) refl
  only-fault b (RekorPublicKeyNotFoundError id) is = rw (exact-text b.payload is.0, is.1.1, is.1.0) refl
  only-fault b Base64DecodeError is = rw (exact-text b.payload is.0, is.1.0.1.0, is.1.1) refl
  only-fault b PublicKeyVerificationError is =
      let found = is.1.1 in
      let bytes = found.1.1 in
      rw (exact-text b.payload is.0, found.0, bytes.0, bytes.1) refl
  only-fault b other is = absurd is

  -- ---- of what a text is read as

  module _ {A : Type 0} (bundle : A → Bundle) (read : Result A JsonError) where
    abbrev pub answer_by : Result A SigstoreError
    answer_by = readable read >>= λ x. promise_answer spki keys (bundle x) >>= λ done. Ok x

    abbrev ToldBy : Result A SigstoreError → Type 0
    ToldBy (Ok x) = IsPromisedBy bundle read spki keys x
    ToldBy (Err e) = IsFaultBy bundle read spki keys e

    after : (x : A) (r : Result (Unit {0}) SigstoreError) → read ≡ Ok x → Told (bundle x) r → ToldBy (r >>= λ done. Ok x)
    after x (Ok done) is promised = (is, promised)
    after x (Err e) is fault = inr (x, (is, fault))

    told_by : (r : Result A JsonError) → read ≡ r
        → ToldBy (readable r >>= λ x. promise_answer spki keys (bundle x) >>= λ done. Ok x)
    told_by (Ok x) is = after x (promise_answer spki keys (bundle x)) is (told (bundle x))
    told_by (Err why) is = inl (refl, λ x same. let wrong = sym is ∙ same in cc)

    only_by : (x : A) → IsPromisedBy bundle read spki keys x → answer_by ≡ Ok x
    only_by x is = rw (is.0, only-promised (bundle x) is.1) refl

    unread : (r : Result A JsonError) (e : SigstoreError) → e ≡ UnexpectedError BundleUnreadable
        → ((x : A) → ¬ (r ≡ Ok x)) → (readable r >>= λ x. promise_answer spki keys (bundle x) >>= λ done. Ok x) ≡ Err e
    unread (Ok x) e is never = absurd (never x refl)
    unread (Err why) e is never = rw is refl

    fault_by : (e : SigstoreError) → IsFaultBy bundle read spki keys e → answer_by ≡ Err e
    fault_by e (inl none) = unread read e none.0 none.1
    fault_by e (inr x) = rw (x.1.0, only-fault (bundle x.0) e x.1.1) refl

    -- ---- the clauses

    pub clause-found : (r : Result A SigstoreError) → Answers OutOfMemory (λ x. x) r answer_by
        → IfOk r (IsPromisedBy bundle read spki keys)
    clause-found (Ok x) is = subst ToldBy is (told_by read refl)
    clause-found (Err e) is = tt

    pub clause-only : (r : Result A SigstoreError) (x : A) → Answers OutOfMemory (λ x. x) r answer_by
        → IsPromisedBy bundle read spki keys x → UnlessMemory OutOfMemory r (r ≡ Ok x)
    clause-only (Ok y) x is promised = inr (sym is ∙ only_by x promised)
    clause-only (Err e) x (inl memory) promised = inl (ap Err memory)
    clause-only (Err e) x (inr is) promised = inr (sym is ∙ only_by x promised)

    pub clause-err : (r : Result A SigstoreError) → Answers OutOfMemory (λ x. x) r answer_by
        → IfErr r (λ e. OrMemory OutOfMemory e (IsFaultBy bundle read spki keys e))
    clause-err (Ok x) is = tt
    clause-err (Err e) (inl memory) = inl memory
    clause-err (Err e) (inr is) = inr (subst ToldBy is (told_by read refl))

    pub clause-refused : (r : Result A SigstoreError) (e : SigstoreError) → Answers OutOfMemory (λ x. x) r answer_by
        → IsFaultBy bundle read spki keys e → UnlessMemory OutOfMemory r (r ≡ Err e)
    clause-refused (Ok y) e is fault = inr (sym is ∙ fault_by e fault)
    clause-refused (Err d) e (inl memory) fault = inl (ap Err memory)
    clause-refused (Err d) e (inr is) fault = inr (sym is ∙ fault_by e fault)
