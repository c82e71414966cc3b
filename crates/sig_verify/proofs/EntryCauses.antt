-- Each error of a log's entry has its cause, and comes where it has.
use Rattle.std.proofs.Common.{◌≡◌, ◌⊎◌, ℕ, Bool, true, false, cond, List, [], ◌∷◌, Option, Some, None, Result, Ok, Err}
use Rattle.std.proofs.Common.{inl, inr, refl, sym, ap, subst, ◌∙◌}
use Rattle.std.specs.Prelude.{is_some, nat_lt, bytes_eq, IsSome, ℤ, pos, negsuc}
use Rattle.hex.specs.Hex.{encode_lower}
use Rattle.sig_base.proofs.ByteLists.{byte_at}
use Rattle.sig_base.proofs.ResultSteps.{bind_err, err_is}
use Rattle.sig_base.specs.Answers.{OrMemory}
use Rattle.sig_base.specs.ByText.{text_lookup}
use Rattle.sig_base.specs.ResultSteps.{◌>>=◌}
use Rattle.sig_base.specs.declared.error.SigstoreError.{SigstoreError}
use Rattle.sig_base.specs.declared.error.SigstoreError.TheVariants as sigstore
use Rattle.sig_base.specs.declared.merkle_error.MerkleProofError.{MerkleProofError}
use Rattle.sig_base.specs.declared.scheme.VerifyScheme.{VerifyScheme}
use Rattle.sig_bundle.proofs.PromiseLaws.{exact-promise, exact_or_wide, wide-promise}
use Rattle.sig_bundle.specs.Promise.{IsExactEntry, promise_of_entry, promise_tree_of}
use Rattle.sig_bundle.specs.Proof.{IsProof, IsProofFault, proof_or_fault}
use Rattle.sig_bundle.specs.declared.material.ProofFields.{ProofFields}
use Rattle.sig_bundle.specs.declared.material.TransparencyLogEntry.{TransparencyLogEntry}
use Rattle.sig_bundle.specs.declared.proof_error.ProofFieldsError.{ProofFieldsError}
use Rattle.sig_bundle.specs.declared.proof_error.ProofFieldsError.TheVariants as fault
use Rattle.sig_json_text.specs.Canonical.{canonical_of}
use Rattle.sig_json_text.specs.declared.error.CanonicalError.{CanonicalError}
use Rattle.sig_key.proofs.KeyKinds.{key_kind_is, key_kind_only}
use Rattle.sig_key.specs.Kind.{IsKind, key_kind, kind_answer}
use Rattle.sig_key.specs.declared.kind.KeyKind.{KeyKind}
use Rattle.sig_key.specs.declared.kind.KeyKind.TheVariants.{NoKeyInfo, Unsupported, Scheme}
use Rattle.sig_rekor.specs.Verify.{and_then, as_inclusion, checkpoint_answer, has_accepted_signature, inclusion_at}
use Rattle.sig_rekor.specs.Verify.{proof_answer, signed_answer, tree_answer}
use Rattle.sig_rekor.specs.declared.checkpoint.SignedCheckpoint.{SignedCheckpoint}
use Rattle.sig_rekor.specs.declared.inclusion_proof.InclusionProof.{InclusionProof}
use Rattle.sig_merkle.specs.Inclusion.{inclusion_answer}
use Rattle.sig_merkle.specs.Root.{leaf_of}
use Rattle.sig_verify.proofs.EntryKeys.{key_again, key_has}
use Rattle.sig_verify.proofs.EntryPromises.{judged_promise}
use Rattle.sig_verify.proofs.EntryProofs.{ProofLaws, proof_taken}
use Rattle.sig_verify.proofs.EntrySteps.{included_is, logged}
use Rattle.sig_verify.specs.ContentCheck.{AcceptsSpki}
use Rattle.sig_verify.specs.EntryCauses.{EntryErrorsHaveTheirCause, HasFault, HasRefusal, IsEntryCause, IsPromisedEntry}
use Rattle.sig_verify.specs.EntryCauses.{OfFoundKey}
use Rattle.sig_verify.specs.EntryLinks.{HasCanonicalPromise, HasLogKey, HoldsOfEntry, IsOfBytes, IsPromisedBy, LogKeys}
use Rattle.sig_verify.specs.EntryLinks.{OfProof}
use Rattle.sig_verify.specs.Judged.{Judged}
use Rattle.sig_verify.specs.LogEntry.{fields_answer, from_canonical, from_fields, from_kind}
use Rattle.sig_verify.specs.LogEntry.{from_proof, if_promised, included, log_entry_answer, log_key_answer}
use Rattle.sig_verify.specs.LogEntry.{promise_answer, promised, read_found, vouched}
use Rattle.sig_verify.specs.OfflineErrors.{IsProofRefusal, of_fields, of_proof}
use Rattle.sig_verify.specs.declared.link.Link.TheVariants.{Promise}
use Rattle.sig_verify.specs.declared.offline_error.OfflineError.{OfflineError}
use Rattle.sig_verify.specs.declared.offline_error.OfflineError.TheVariants as error

-- ---- what a proof is refused with, whose checkpoint was read

signed_three : (b : Bool) (why : SigstoreError)
    → ◌≡◌ {A = Result (Unit {0}) SigstoreError} (cond b (Ok tt) (Err sigstore.CheckpointSignatureVerificationError))
    (Err why) → IsProofRefusal why
signed_three true why is = absurd cc
signed_three false why is = inl (sym (err_is sigstore.CheckpointSignatureVerificationError why is))

tree_three : (a b c : Bool) (x y z : MerkleProofError) (why : SigstoreError)
    → ◌≡◌ {A = Result (Unit {0}) SigstoreError} (cond a (Err (sigstore.ConsistencyProofError x))
    (cond b (Err (sigstore.ConsistencyProofError y)) (cond c (Ok tt) (Err (sigstore.ConsistencyProofError z)))))
    (Err why) → IsProofRefusal why
tree_three true b c x y z why is = inr (inl (x, sym (err_is (sigstore.ConsistencyProofError x) why is)))
tree_three false true c x y z why is = inr (inl (y, sym (err_is (sigstore.ConsistencyProofError y) why is)))
tree_three false false true x y z why is = absurd cc
tree_three false false false x y z why is = inr (inl (z, sym (err_is (sigstore.ConsistencyProofError z) why is)))

path_three : (r : Result (Unit {0}) MerkleProofError) (why : SigstoreError) → as_inclusion r ≡ Err why → IsProofRefusal why
path_three (Ok done) why is = absurd cc
path_three (Err m) why is = inr (inr (m, sym (err_is (sigstore.InclusionProofError m) why is)))

at_three : (z : ℤ) (body : List ℕ) (proof : InclusionProof) (why : SigstoreError)
    → inclusion_at z body proof ≡ Err why → IsProofRefusal why
at_three (pos index) body proof why is =
    path_three (inclusion_answer index (leaf_of body) proof.tree_size proof.hashes proof.root_hash) why is
at_three (negsuc n) body proof why is = inr (inr (_, sym (err_is _ why is)))

first_three : (r next : Result (Unit {0}) SigstoreError) (why : SigstoreError)
    → ((x : SigstoreError) → r ≡ Err x → IsProofRefusal x) → ((x : SigstoreError) → next ≡ Err x → IsProofRefusal x)
    → and_then r next ≡ Err why → IsProofRefusal why
first_three (Ok done) next why one other is = other why is
first_three (Err x) next why one other is =
    subst IsProofRefusal (err_is x why is) (one x refl)

refused_three : (accepts : List ℕ → List ℕ → Bool) (body : List ℕ) (proof : InclusionProof) (n : SignedCheckpoint)
    → proof.checkpoint ≡ Some n → (why : SigstoreError) → proof_answer accepts body proof ≡ Err why → IsProofRefusal why
unfolding proof_answer
refused_three accepts body proof n carried why is =
    first_three (and_then (signed_answer accepts n) (tree_answer n proof.root_hash proof.tree_size))
    (inclusion_at proof.log_index body proof) why
    (λ x told. first_three (signed_answer accepts n) (tree_answer n proof.root_hash proof.tree_size) x
    (λ y said. signed_three (has_accepted_signature accepts n) y said)
    (λ y said. tree_three (nat_lt proof.tree_size n.note.size) (nat_lt n.note.size proof.tree_size)
    (bytes_eq n.note.hash proof.root_hash) _ _ _ y said) told)
    (λ x told. at_three proof.log_index body proof x told)
    (subst (λ (o : Option SignedCheckpoint). and_then (checkpoint_answer accepts proof o)
    (inclusion_at proof.log_index body proof) ≡ Err why) carried is)

-- of each check
pub note_key_refusal : (accepts : List ℕ → List ℕ → Bool) (n : SignedCheckpoint) (why : SigstoreError)
    → OrMemory sigstore.OutOfMemory why (signed_answer accepts n ≡ Err why)
    → OrMemory sigstore.OutOfMemory why (IsProofRefusal why)
note_key_refusal accepts n why (inl memory) = inl memory
note_key_refusal accepts n why (inr told) = inr (signed_three (has_accepted_signature accepts n) why told)

pub note_match_refusal : (n : SignedCheckpoint) (root : List ℕ) (size : ℕ) (why : SigstoreError)
    → ◌≡◌ {A = Result (Unit {0}) SigstoreError} (Err why) (tree_answer n root size)
    → OrMemory sigstore.OutOfMemory why (IsProofRefusal why)
note_match_refusal n root size why told =
    inr (tree_three (nat_lt size n.note.size) (nat_lt n.note.size size) (bytes_eq n.note.hash root) _ _ _ why
    (sym told))

pub audit_path_refusal : (body : List ℕ) (proof : InclusionProof) (why : SigstoreError)
    → ◌≡◌ {A = Result (Unit {0}) SigstoreError} (Err why) (inclusion_at proof.log_index body proof)
    → OrMemory sigstore.OutOfMemory why (IsProofRefusal why)
audit_path_refusal body proof why told = inr (at_three proof.log_index body proof why (sym told))

-- ---- steps

after_err : {A B : Type 0} (r : Result A OfflineError) (f : A → Result B OfflineError) (why : OfflineError)
    → r ≡ Err why → (r >>= f) ≡ Err why
after_err {A = A} r f why is = ap (λ (x : Result A OfflineError). x >>= f) is

after_ok : {A B : Type 0} (r : Result A OfflineError) (f : A → Result B OfflineError) (x : A) → r ≡ Ok x
    → (r >>= f) ≡ f x
after_ok {A = A} r f x is = ap (λ (y : Result A OfflineError). y >>= f) is

module _ (laws : ProofLaws) (spki : AcceptsSpki) (keys : LogKeys) (e : TransparencyLogEntry)
    (bytes : IsOfBytes keys e) where
  abbrev Is : OfflineError → Type 0
  Is why = IsEntryCause spki keys e why

  -- an error that is named has its cause
  under : (named why : OfflineError) → ◌≡◌ {A = Result (Unit {0}) OfflineError} (Err named) (Err why) → Is named → Is why
  under named why told cause = subst Is (err_is named why told) cause

  -- ---- the key

  kind_caused : (id der : List ℕ) → e.log_id ≡ Some id → text_lookup (encode_lower id) keys ≡ Some der
      → (kind : KeyKind) → IsKind der kind → (why : OfflineError) → from_kind (kind_answer der kind) ≡ Err why → Is why
  kind_caused id der named found NoKeyInfo is why told =
      subst Is (err_is error.KeyParsingError why told) (id, named, der, found, is)
  kind_caused id der named found Unsupported is why told =
      subst Is (err_is error.PublicKeyUnsupportedAlgorithmError why told) (id, named, der, found, is)
  kind_caused id der named found (Scheme s) is why told = absurd cc

  found_caused : (id : List ℕ) → e.log_id ≡ Some id → (found : Option (List ℕ))
      → text_lookup (encode_lower id) keys ≡ found → (why : OfflineError)
      → read_found (encode_lower id) found ≡ Err why → Is why
  found_caused id named None found why told =
      subst Is (err_is (error.RekorPublicKeyNotFoundError (encode_lower id)) why told) (id, named, refl, found)
  found_caused id named (Some der) found why told =
      kind_caused id der named found (key_kind der) (key_kind_is der (byte_at der (bytes.key id der named found))) why
      told

  id_caused : (id : Option (List ℕ)) → e.log_id ≡ id → (why : OfflineError) → log_key_answer keys id ≡ Err why → Is why
  id_caused None named why told = subst Is (err_is error.LogIdMissing why told) named
  id_caused (Some id) named why told = found_caused id named (text_lookup (encode_lower id) keys) refl why told

  -- ---- the promise

  module _ (key : VerifyScheme × List ℕ) (has : HasLogKey keys e key) where
    abbrev Holds : Type 0
    Holds = HoldsOfEntry spki keys e Promise

    -- the check of the promise says whether the link holds
    record Said (r : Result (Unit {0}) OfflineError) : Type 0 where
      refused : (why : OfflineError) → r ≡ Err why → ¬ Holds
      passed : (done : Unit {0}) → r ≡ Ok done → Holds
      again : Holds → r ≡ Ok tt

    said_of : (r : Result (Unit {0}) OfflineError) → Judged (HoldsOfEntry spki keys e) (Promise ∷ []) r → Said r
    said_of (Ok done) judged = record {
      refused = λ why is. absurd cc;
      passed = λ also is. judged.0;
      again = λ holds. refl;
    }
    said_of (Err x) (link, is, inl first) = record {
      refused = λ why same. first.0;
      passed = λ also same. absurd cc;
      again = λ holds. absurd (first.0 holds);
    }
    said_of (Err x) (link, is, inr later) = absurd later.1

    promise_said : Said (promise_answer (spki key.0 key.1) e)
    promise_said = said_of (promise_answer (spki key.0 key.1) e) (judged_promise spki keys e bytes key has)

    abbrev with_text : List ℕ → Result (List ℕ) CanonicalError → Result (Unit {0}) OfflineError
    with_text promise found = from_canonical found >>= λ text. if_promised (spki key.0 key.1 text promise)

    exact_text : (promise : List ℕ) → IsExactEntry e
        → with_text promise (canonical_of (promise_tree_of e))
        ≡ if_promised (spki key.0 key.1 (promise_of_entry e) promise)
    exact_text promise exact = ap (with_text promise) (exact-promise e bytes.body bytes.id exact)

    wide_text : (promise : List ℕ) → ¬ IsExactEntry e
        → with_text promise (canonical_of (promise_tree_of e)) ≡ Err error.PromiseInteger
    wide_text promise wide = ap (with_text promise) (wide-promise e wide)

    -- a promise with integers that are exact is refused for its signature alone
    signed_caused : (b : Bool) (why : OfflineError) → if_promised b ≡ Err why → ¬ Holds
        → IsSome e.inclusion_promise → IsExactEntry e → Is why
    signed_caused true why told fails some exact = absurd cc
    signed_caused false why told fails some exact =
        under error.Promise why told ((key, has, tt), (some, exact), (λ signed. fails ((some, exact), signed)))

    text_caused : (promise : List ℕ) → e.inclusion_promise ≡ Some promise → IsExactEntry e ⊎ ¬ IsExactEntry e
        → (why : OfflineError) → with_text promise (canonical_of (promise_tree_of e)) ≡ Err why → ¬ Holds → Is why
    text_caused promise is (inl exact) why told fails =
        signed_caused (spki key.0 key.1 (promise_of_entry e) promise) why (sym (exact_text promise exact) ∙ told) fails
        (ap is_some is) exact
    text_caused promise is (inr wide) why told fails =
        under error.PromiseInteger why (sym (wide_text promise wide) ∙ told) ((key, has, tt), ap is_some is, wide)

    promise_caused : (promise : Option (List ℕ)) → e.inclusion_promise ≡ promise → (why : OfflineError)
        → promised (spki key.0 key.1) e promise ≡ Err why → ¬ Holds → Is why
    promise_caused None is why told fails = under error.PromiseMissing why told ((key, has, tt), is)
    promise_caused (Some promise) is why told fails = text_caused promise is (exact_or_wide e) why told fails

    -- ---- the proof

    module _ (before : IsPromisedEntry spki keys e) where
      fault_caused : (p : ProofFields) → e.inclusion_proof ≡ Some p → (f : ProofFieldsError) → IsProofFault p f
          → Is (of_fields f)
      fault_caused p is fault.RootLength cause = (before, (p, is, cause))
      fault_caused p is (fault.HashLength index) cause = (before, (p, is, cause))
      fault_caused p is fault.TreeSize cause = (before, (p, is, cause))
      fault_caused p is fault.CheckpointMissing cause = (before, (p, is, cause))
      fault_caused p is (fault.Checkpoint f) cause = (before, (p, is, cause))
      fault_caused p is fault.OutOfMemory cause = absurd cause

      read_caused : (p : ProofFields) → e.inclusion_proof ≡ Some p → (r : Result InclusionProof ProofFieldsError)
          → proof_or_fault p ≡ r → (why : OfflineError) → from_fields r ≡ Err why → Is why
      read_caused p is (Ok proof) said why told = absurd cc
      read_caused p is (Err f) said why told =
          subst Is (err_is (of_fields f) why told) (fault_caused p is f ((laws.faults p f).0 said))

      fields_caused : (fields : Option ProofFields) → e.inclusion_proof ≡ fields → (why : OfflineError)
          → fields_answer fields ≡ Err why → Is why
      fields_caused None is why told = subst Is (err_is error.ProofMissing why told) (before, is)
      fields_caused (Some p) is why told = read_caused p is (proof_or_fault p) refl why told

      -- ---- the checkpoint's signature, its tree and the path

      module _ (p : ProofFields) (is : e.inclusion_proof ≡ Some p) (proof : InclusionProof) (of : IsProof p proof) where
        three_caused : (x : SigstoreError) → proof_answer (spki key.0 key.1) e.canonicalized_body proof ≡ Err x
            → IsProofRefusal x → Is (of_proof x)
        three_caused x said (inl same) =
            subst (λ (y : SigstoreError). Is (of_proof y)) (sym same)
            (before, (key, has, (p, is, (proof, of, said ∙ ap Err same))))
        three_caused x said (inr (inl (m, same))) =
            subst (λ (y : SigstoreError). Is (of_proof y)) (sym same)
            (before, (key, has, (p, is, (proof, of, said ∙ ap Err same))))
        three_caused x said (inr (inr (m, same))) =
            subst (λ (y : SigstoreError). Is (of_proof y)) (sym same)
            (before, (key, has, (p, is, (proof, of, said ∙ ap Err same))))

        refusal_caused : (r : Result (Unit {0}) SigstoreError)
            → proof_answer (spki key.0 key.1) e.canonicalized_body proof ≡ r → (why : OfflineError)
            → from_proof r ≡ Err why → Is why
        refusal_caused (Ok done) said why told = absurd cc
        refusal_caused (Err x) said why told =
            subst Is (err_is (of_proof x) why told)
            (three_caused x said (refused_three (spki key.0 key.1) e.canonicalized_body proof of.checkpoint of.carried x
            said))

        included_caused : (why : OfflineError) → included (spki key.0 key.1) e proof ≡ Err why → Is why
        included_caused why told =
            elim (bind_err (from_proof (proof_answer (spki key.0 key.1) e.canonicalized_body proof))
            (λ (done : Unit {0}). Ok (logged e proof)) why
            (sym (included_is (spki key.0 key.1) e proof) ∙ told)) [
              | inl refused ↦
                  refusal_caused (proof_answer (spki key.0 key.1) e.canonicalized_body proof) refl why refused
              | inr some ↦ absurd (let wrong = some.2 in cc)
            ]

    vouched_caused : (why : OfflineError) → vouched (spki key.0 key.1) e ≡ Err why → Is why
    vouched_caused why told =
        elim (bind_err (promise_answer (spki key.0 key.1) e) _ why told) [
          | inl refused ↦ promise_caused e.inclusion_promise refl why refused (promise_said.refused why refused)
          | inr some ↦ after (promise_said.passed some.0 some.1) some.2
        ] where
          after : Holds → (fields_answer e.inclusion_proof >>= λ proof. included (spki key.0 key.1) e proof) ≡ Err why
              → Is why
          after holds rest =
              let before : IsPromisedEntry spki keys e =
              record { key = (key, has, tt); canonical = holds.0; signed = holds.1 } in
              elim (bind_err (fields_answer e.inclusion_proof) _ why rest) [
                | inl faulty ↦ fields_caused before e.inclusion_proof refl why faulty
                | inr read ↦
                    let of = proof_taken laws e e.inclusion_proof read.0 refl read.1 in
                    included_caused before of.0 of.1 read.0 of.2 why read.2
              ]

    -- ---- an error comes where it has its cause

    keyed : (why : OfflineError) → vouched (spki key.0 key.1) e ≡ Err why → log_entry_answer spki keys e ≡ Err why
    keyed why told =
        after_ok (log_key_answer keys e.log_id) (λ k. vouched (spki k.0 k.1) e) key (key_again keys e bytes key has)
        ∙ told

    unpromised : (why : OfflineError) → promise_answer (spki key.0 key.1) e ≡ Err why
        → log_entry_answer spki keys e ≡ Err why
    unpromised why told =
        keyed why (after_err (promise_answer (spki key.0 key.1) e)
        (λ done. fields_answer e.inclusion_proof >>= λ proof. included (spki key.0 key.1) e proof) why told)

    past_promise : Holds → (why : OfflineError)
        → (fields_answer e.inclusion_proof >>= λ proof. included (spki key.0 key.1) e proof) ≡ Err why
        → log_entry_answer spki keys e ≡ Err why
    past_promise holds why told =
        keyed why (after_ok (promise_answer (spki key.0 key.1) e)
        (λ done. fields_answer e.inclusion_proof >>= λ proof. included (spki key.0 key.1) e proof) tt
        (promise_said.again holds) ∙ told)

    some_promise : (o : Option (List ℕ)) → e.inclusion_promise ≡ o → IsSome e.inclusion_promise
        → (promise : List ℕ) × (e.inclusion_promise ≡ Some promise)
    some_promise None is some = absurd (let wrong : false ≡ true = sym (ap is_some is) ∙ some in cc)
    some_promise (Some promise) is some = (promise, is)

    wide_told : IsSome e.inclusion_promise → ¬ IsExactEntry e
        → promise_answer (spki key.0 key.1) e ≡ Err error.PromiseInteger
    wide_told some wide =
        let promise = some_promise e.inclusion_promise refl some in
        ap (promised (spki key.0 key.1) e) promise.1 ∙ wide_text promise.0 wide

    unsigned_told : (promise : List ℕ) → e.inclusion_promise ≡ Some promise → ¬ IsPromisedBy spki keys e → (b : Bool)
        → spki key.0 key.1 (promise_of_entry e) promise ≡ b → if_promised b ≡ Err error.Promise
    unsigned_told promise is unsigned true said = absurd (unsigned (key, has, (promise, is, said)))
    unsigned_told promise is unsigned false said = refl

    signature_told : HasCanonicalPromise e → ¬ IsPromisedBy spki keys e
        → promise_answer (spki key.0 key.1) e ≡ Err error.Promise
    signature_told canonical unsigned =
        let promise = some_promise e.inclusion_promise refl canonical.0 in
        ap (promised (spki key.0 key.1) e) promise.1 ∙ exact_text promise.0 canonical.1
        ∙ unsigned_told promise.0 promise.1 unsigned (spki key.0 key.1 (promise_of_entry e) promise.0) refl

    fault_told : Holds → (f : ProofFieldsError) → OfProof e (λ p. IsProofFault p f)
        → log_entry_answer spki keys e ≡ Err (of_fields f)
    fault_told holds f (p, is, faulty) =
        past_promise holds (of_fields f) (after_err (fields_answer e.inclusion_proof)
        (λ proof. included (spki key.0 key.1) e proof) (of_fields f)
        (ap fields_answer is ∙ ap from_fields ((laws.faults p f).1 faulty)))

    refusal_told : Holds → (x : SigstoreError) (p : ProofFields) → e.inclusion_proof ≡ Some p → (proof : InclusionProof)
        → IsProof p proof → proof_answer (spki key.0 key.1) e.canonicalized_body proof ≡ Err x
        → log_entry_answer spki keys e ≡ Err (of_proof x)
    refusal_told holds x p is proof of said =
        past_promise holds (of_proof x) (after_ok (fields_answer e.inclusion_proof)
        (λ read. included (spki key.0 key.1) e read) proof
        (ap fields_answer is ∙ ap from_fields ((laws.proofs p proof).1 of))
        ∙ included_is (spki key.0 key.1) e proof
        ∙ after_err (from_proof (proof_answer (spki key.0 key.1) e.canonicalized_body proof))
        (λ (done : Unit {0}). Ok (logged e proof)) (of_proof x) (ap from_proof said))

  -- no key of the log
  unkeyed : (why : OfflineError) → log_key_answer keys e.log_id ≡ Err why → log_entry_answer spki keys e ≡ Err why
  unkeyed why told = after_err (log_key_answer keys e.log_id) (λ k. vouched (spki k.0 k.1) e) why told

  found_answer : (kind : KeyKind) → (found : OfFoundKey keys e (λ der. IsKind der kind))
      → log_key_answer keys e.log_id ≡ from_kind (kind_answer found.2 kind)
  found_answer kind (id, named, der, found, is) =
      ap (log_key_answer keys) named ∙ ap (read_found (encode_lower id)) found
      ∙ ap (λ (k : KeyKind). from_kind (kind_answer der k))
      (sym (key_kind_only der (byte_at der (bytes.key id der named found)) kind is))

  faulty : (f : ProofFieldsError) → HasFault spki keys e f → log_entry_answer spki keys e ≡ Err (of_fields f)
  faulty f (before, of) =
      fault_told before.key.0 before.key.1 (before.canonical, before.signed) f of

  refused : (x : SigstoreError) → HasRefusal spki keys e x → log_entry_answer spki keys e ≡ Err (of_proof x)
  refused x (before, (key, has, (p, is, (proof, of, said)))) =
      refusal_told key has (before.canonical, before.signed) x p is proof of said

  comes : (why : OfflineError) → Is why → log_entry_answer spki keys e ≡ Err why
  comes error.LogIdMissing is = unkeyed error.LogIdMissing (ap (log_key_answer keys) is)
  comes (error.RekorPublicKeyNotFoundError name) (id, named, same, absent) =
      unkeyed (error.RekorPublicKeyNotFoundError name)
      (ap (log_key_answer keys) named
      ∙ ap (read_found (encode_lower id)) (subst (λ (n : List ℕ). text_lookup n keys ≡ None) same absent)
      ∙ ap (λ (n : List ℕ). Err (error.RekorPublicKeyNotFoundError n)) (sym same))
  comes error.KeyParsingError found = unkeyed error.KeyParsingError (found_answer NoKeyInfo found)
  comes error.PublicKeyUnsupportedAlgorithmError found =
      unkeyed error.PublicKeyUnsupportedAlgorithmError (found_answer Unsupported found)
  comes error.PromiseMissing ((key, has, _), is) =
      unpromised key has error.PromiseMissing (ap (promised (spki key.0 key.1) e) is)
  comes error.PromiseInteger ((key, has, _), some, wide) =
      unpromised key has error.PromiseInteger (wide_told key has some wide)
  comes error.Promise ((key, has, _), canonical, unsigned) =
      unpromised key has error.Promise (signature_told key has canonical unsigned)
  comes error.ProofMissing (before, is) =
      let key = before.key in
      past_promise key.0 key.1 (before.canonical, before.signed) error.ProofMissing
      (after_err (fields_answer e.inclusion_proof) (λ proof. included (spki key.0.0 key.0.1) e proof) error.ProofMissing
      (ap fields_answer is))
  comes error.RootLength cause = faulty fault.RootLength cause
  comes (error.HashLength index) cause = faulty (fault.HashLength index) cause
  comes error.TreeSize cause = faulty fault.TreeSize cause
  comes error.CheckpointMissing cause = faulty fault.CheckpointMissing cause
  comes (error.ParseCheckpointError f) cause = faulty (fault.Checkpoint f) cause
  comes error.CheckpointSignatureVerificationError cause =
      refused sigstore.CheckpointSignatureVerificationError cause
  comes (error.ConsistencyProofError m) cause = refused (sigstore.ConsistencyProofError m) cause
  comes (error.InclusionProofError m) cause = refused (sigstore.InclusionProofError m) cause
  comes (error.Json part why) cause = absurd cause
  comes (error.TrustRoot part) cause = absurd cause
  comes (error.Anchor place) cause = absurd cause
  comes (error.Bundle kind) cause = absurd cause
  comes (error.Certificate kind) cause = absurd cause
  comes (error.Policy refusal) cause = absurd cause
  comes (error.Signature kind) cause = absurd cause
  comes error.OutOfMemory cause = absurd cause

  caused : (why : OfflineError) → log_entry_answer spki keys e ≡ Err why → Is why
  caused why told =
      elim (bind_err (log_key_answer keys e.log_id) _ why told) [
        | inl none ↦ id_caused e.log_id refl why none
        | inr some ↦ vouched_caused some.0 (key_has keys e bytes some.0 some.1) why some.2
      ]

pub entry_errors_have_their_cause : ProofLaws → EntryErrorsHaveTheirCause
entry_errors_have_their_cause laws spki keys e bytes why =
    (caused laws spki keys e bytes why, comes laws spki keys e bytes why)
