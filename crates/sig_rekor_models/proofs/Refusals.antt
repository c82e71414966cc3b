-- Each error of the calls on Rekor's models has its cause, and where the cause is, the error comes.
use Rattle.std.proofs.Common.{◌≡◌, ◌↔◌, inl, inr, ℕ, Bool, List, Option, Some, None, Result}
use Rattle.std.proofs.Common.{Ok, Err, refl, sym, ap, subst, ◌∙◌}
use Rattle.std.specs.Option.{ok_or}
use Rattle.std.specs.Prelude.{⊤}
use Rattle.std.specs.Str.{is_utf8}
use Rattle.std.proofs.lemmas.Str.{IsUtf8-from_is_utf8, is_utf8-from_IsUtf8}
use Rattle.std.proofs.lemmas.Bool.{false_from_ne_true}
use Rattle.sig_base.proofs.ResultSteps.{bind_err, bind_ok, err_is, ok_is}
use Rattle.sig_base.specs.Base64.{base64_bytes}
use Rattle.sig_base.specs.ResultSteps.{◌>>=◌}
use Rattle.sig_base.specs.declared.error.SigstoreError.{SigstoreError}
use Rattle.sig_base.specs.declared.error.SigstoreError.TheVariants.{Base64DecodeError, ConsistencyProofError}
use Rattle.sig_base.specs.declared.error.SigstoreError.TheVariants.{UnexpectedError, Utf8Error}
use Rattle.sig_base.specs.declared.merkle_error.MerkleProofError.{MerkleProofError}
use Rattle.sig_base.specs.declared.unexpected.UnexpectedKind.{UnexpectedKind}
use Rattle.sig_base.specs.declared.unexpected.UnexpectedKind.TheVariants.{ProofMissing, ProofConversion, CanonicalBody}
use Rattle.sig_base.specs.declared.unexpected.UnexpectedKind.TheVariants.{RootLength}
use Rattle.sig_json_text.specs.Canonical.{canonical_of}
use Rattle.sig_merkle.proofs.ConsistencyAnswers.{consistency_answers}
use Rattle.sig_merkle.specs.ConsistencyAnswer.{consistency_answer}
use Rattle.sig_rekor.proofs.HashFaults.{hash-found, hash-only, hash-fails, hash-only_fails, hash_of}
use Rattle.sig_rekor.proofs.HashFaults.{hashes-found, hashes-only, hashes-fail, hashes-only_fail}
use Rattle.sig_rekor.proofs.ProofFaults.{proof-is, proof-faults}
use Rattle.sig_rekor.proofs.Refusals.{proof-refused, proof-only_refused, signed-found, signed-only, unsigned}
use Rattle.sig_rekor.proofs.Refusals.{unsigned-only, tree-refusals}
use Rattle.sig_rekor.proofs.VerifyLaws.{of_tree, tree_accepted}
use Rattle.sig_rekor.proofs.Steps.{chosen, ok_or-ok}
use Rattle.sig_rekor.specs.Faults.{OfBytes}
use Rattle.sig_rekor.specs.HashFaults.{IsHashFault}
use Rattle.sig_rekor.specs.HashText.{hash_in, hashes_from}
use Rattle.sig_rekor.specs.RekorProof.{inclusion_proof_from_rekor}
use Rattle.sig_rekor.specs.Verify.{signed_answer, tree_answer, proof_answer}
use Rattle.sig_rekor.specs.declared.inclusion_proof.InclusionProof.{InclusionProof}
use Rattle.sig_rekor_models.specs.Body.{body_tree}
use Rattle.sig_rekor_models.specs.Consistency.{as_consistency, consistency_proof_from_rekor, head_answer}
use Rattle.sig_rekor_models.specs.Inclusion.{or_unexpected, carried_proof, logged_bytes, entry_answer}
use Rattle.sig_rekor_models.specs.LogEntry.{LogEntry}
use Rattle.sig_rekor_models.specs.LogInfo.{log_info_from_rekor}
use Rattle.sig_rekor_models.specs.PublicKey.{text_of_bytes, decoded_text}
use Rattle.sig_rekor_models.specs.Refusals.{IsLeafRefusal, IsEntryRefusal, IsHeadOf, IsConsistencyOf}
use Rattle.sig_rekor_models.specs.Refusals.{IsConsistencyFault, IsGrowthRefusal, IsKeyText, IsKeyFault}
use Rattle.sig_rekor_models.specs.declared.consistency_proof.ConsistencyProof.{ConsistencyProof}
use Rattle.sig_rekor_models.specs.declared.consistency_proof.RekorConsistencyProof.{RekorConsistencyProof}
use Rattle.sig_rekor_models.specs.declared.log_info.LogInfo.{LogInfo}
use Rattle.sig_rekor_models.specs.declared.log_info.RekorLogInfo.{RekorLogInfo}

-- ---- an entry

renamed-fails : {A E : Type 0} (kind : UnexpectedKind) (r : Result A E) (e : SigstoreError)
    → or_unexpected kind r ≡ Err e → (d : E) × (r ≡ Err d) × (e ≡ UnexpectedError kind)
renamed-fails kind (Ok x) e is = absurd cc
renamed-fails kind (Err d) e is = (d, refl, sym (err_is (UnexpectedError kind) e is))

renamed-found : {A E : Type 0} (kind : UnexpectedKind) (r : Result A E) (x : A) → or_unexpected kind r ≡ Ok x
    → r ≡ Ok x
renamed-found kind (Ok y) x is = ap Ok (ok_is y x is)
renamed-found kind (Err d) x is = absurd cc

-- what has no value has an error, which is renamed
none-renamed : {A E : Type 0} (kind : UnexpectedKind) (r : Result A E) → ((x : A) → r ≡ Ok x → ⊥)
    → or_unexpected kind r ≡ Err (UnexpectedError kind)
none-renamed kind (Ok x) none = absurd (none x refl)
none-renamed kind (Err d) none = refl

no_value : {A E : Type 0} (r : Result A E) (d : E) → r ≡ Err d → (x : A) → r ≡ Ok x → ⊥
no_value (Ok y) d is x e = cc
no_value (Err c) d is x e = cc

missing : {A : Type 0} (o : Option A) (d e : SigstoreError) → ok_or o d ≡ Err e → (o ≡ None) × (e ≡ d)
missing (Some x) d e is = absurd cc
missing None d e is = (refl, sym (err_is d e is))

module _ (accepts : List ℕ → List ℕ → Bool) (entry : LogEntry) where
  leaf-fails : (proof : InclusionProof) (e : SigstoreError)
      → (logged_bytes entry.body >>= λ leaf. proof_answer accepts leaf proof) ≡ Err e
      → IsLeafRefusal accepts entry proof e
  leaf-fails proof e is =
      elim (bind_err (logged_bytes entry.body) (λ leaf. proof_answer accepts leaf proof) e is) [
        | inl none ↦
            let f = renamed-fails CanonicalBody (canonical_of (body_tree entry.body)) e none in
            inl (λ leaf has. no_value (canonical_of (body_tree entry.body)) f.0 f.1 leaf has, f.2)
        | inr some ↦ inr (
          some.0,
          renamed-found CanonicalBody (canonical_of (body_tree entry.body)) some.0 some.1,
          proof-refused accepts some.0 proof e some.2,
        )
      ]

  leaf-only_fails : (proof : InclusionProof) (e : SigstoreError) → IsLeafRefusal accepts entry proof e
      → (logged_bytes entry.body >>= λ leaf. proof_answer accepts leaf proof) ≡ Err e
  leaf-only_fails proof e (inl none) =
      rw (none-renamed CanonicalBody (canonical_of (body_tree entry.body)) none.0, none.1) refl
  leaf-only_fails proof e (inr (leaf, has, refused)) =
      rw has (proof-only_refused accepts leaf proof e refused)

  entry-fails : (e : SigstoreError) → entry_answer accepts entry ≡ Err e → IsEntryRefusal accepts entry e
  unfolding entry_answer
  entry-fails e is =
      let held = entry.verification.inclusion_proof in
      elim (bind_err (carried_proof entry) _ e is) [
        | inl wrong ↦
            elim (bind_err (ok_or held (UnexpectedError ProofMissing)) _ e wrong) [
              | inl none ↦ inl (missing held (UnexpectedError ProofMissing) e none)
              | inr api ↦
                  let f = renamed-fails ProofConversion (inclusion_proof_from_rekor api.0) e api.2 in
                  inr (
                    api.0,
                    ok_or-ok held (UnexpectedError ProofMissing) api.0 api.1,
                    inl (f.0, (proof-faults api.0 f.0).0 f.1, f.2),
                  )
            ]
        | inr proof ↦
            let api = bind_ok (ok_or held (UnexpectedError ProofMissing)) _ proof.0 proof.1 in
            let made = renamed-found ProofConversion (inclusion_proof_from_rekor api.0) proof.0 api.2 in
            inr (
              api.0,
              ok_or-ok held (UnexpectedError ProofMissing) api.0 api.1,
              inr (proof.0, (proof-is api.0 proof.0).0 made, leaf-fails proof.0 e proof.2),
            )
      ]

  entry-only_fails : (e : SigstoreError) → IsEntryRefusal accepts entry e → entry_answer accepts entry ≡ Err e
  unfolding entry_answer
  entry-only_fails e (inl none) = rw (none.0, none.1) refl
  entry-only_fails e (inr (api, brought, (inl (fault, has, named)))) =
      rw (brought, (proof-faults api fault).1 has, named) refl
  entry-only_fails e (inr (api, brought, (inr (proof, is, refused)))) =
      rw (brought, (proof-is api proof).1 is) (leaf-only_fails proof e refused)

pub entry-refusals : (accepts : List ℕ → List ℕ → Bool) (entry : LogEntry) (e : SigstoreError)
    → (entry_answer accepts entry ≡ Err e) ↔ IsEntryRefusal accepts entry e
entry-refusals accepts entry e = (entry-fails accepts entry e, entry-only_fails accepts entry e)

-- ---- a tree head, and a consistency proof

pub head-is : (raw : RekorLogInfo) (head : LogInfo) → (log_info_from_rekor raw ≡ Ok head) ↔ IsHeadOf raw head
unfolding log_info_from_rekor
head-is raw head = (found, only) where
  found : log_info_from_rekor raw ≡ Ok head → IsHeadOf raw head
  found e =
      let a = bind_ok (hash_in RootLength raw.root_hash) _ head e in
      let made : LogInfo = record {
        root_hash = a.0;
        tree_size = raw.tree_size;
        signed_tree_head = raw.signed_tree_head;
        tree_id = raw.tree_id;
        inactive_shards = raw.inactive_shards;
      } in
      subst (IsHeadOf raw) (ok_is made head a.2) (record {
        root = hash-found RootLength raw.root_hash a.0 a.1;
        size = refl;
        signed = refl;
        id = refl;
        shards = refl;
      })

  only : IsHeadOf raw head → log_info_from_rekor raw ≡ Ok head
  only is =
      rw (
        hash-only RootLength raw.root_hash head.root_hash is.root,
        ← is.size,
        ← is.signed,
        ← is.id,
        ← is.shards,
      ) refl

pub head-faults : (raw : RekorLogInfo) (e : SigstoreError)
    → (log_info_from_rekor raw ≡ Err e) ↔ IsHashFault RootLength raw.root_hash e
unfolding log_info_from_rekor
head-faults raw e = (fails, only) where
  fails : log_info_from_rekor raw ≡ Err e → IsHashFault RootLength raw.root_hash e
  fails is = elim (bind_err (hash_in RootLength raw.root_hash) _ e is) [
    | inl wrong ↦ hash-fails RootLength raw.root_hash e wrong
    | inr good ↦ absurd (let f = good.2 in cc)
  ]

  only : IsHashFault RootLength raw.root_hash e → log_info_from_rekor raw ≡ Err e
  only fault = rw (hash-only_fails RootLength raw.root_hash e fault) refl

pub consistency-is : (raw : RekorConsistencyProof) (proof : ConsistencyProof)
    → (consistency_proof_from_rekor raw ≡ Ok proof) ↔ IsConsistencyOf raw proof
unfolding consistency_proof_from_rekor
consistency-is raw proof = (found, only) where
  found : consistency_proof_from_rekor raw ≡ Ok proof → IsConsistencyOf raw proof
  found e =
      let a = bind_ok (hash_in RootLength raw.root_hash) _ proof e in
      let b = bind_ok (hashes_from 0 raw.hashes) _ proof a.2 in
      let made : ConsistencyProof = record { root_hash = a.0; hashes = b.0 } in
      subst (IsConsistencyOf raw) (ok_is made proof b.2) (record {
        root = hash-found RootLength raw.root_hash a.0 a.1;
        hashes = hashes-found 0 raw.hashes b.0 b.1;
      })

  only : IsConsistencyOf raw proof → consistency_proof_from_rekor raw ≡ Ok proof
  only is =
      rw (
        hash-only RootLength raw.root_hash proof.root_hash is.root,
        hashes-only 0 raw.hashes proof.hashes is.hashes,
      ) refl

pub consistency-faults : (raw : RekorConsistencyProof) (e : SigstoreError)
    → (consistency_proof_from_rekor raw ≡ Err e) ↔ IsConsistencyFault raw e
unfolding consistency_proof_from_rekor
consistency-faults raw e = (fails, only) where
  fails : consistency_proof_from_rekor raw ≡ Err e → IsConsistencyFault raw e
  fails is = elim (bind_err (hash_in RootLength raw.root_hash) _ e is) [
    | inl wrong ↦ inl (hash-fails RootLength raw.root_hash e wrong)
    | inr a ↦
        let root = (hash-found RootLength raw.root_hash a.0 a.1).0 in
        elim (bind_err (hashes_from 0 raw.hashes) _ e a.2) [
          | inl wrong ↦ inr (root, hashes-fail raw.hashes e wrong)
          | inr b ↦ absurd (let f = b.2 in cc)
        ]
  ]

  only : IsConsistencyFault raw e → consistency_proof_from_rekor raw ≡ Err e
  only (inl fault) = rw (hash-only_fails RootLength raw.root_hash e fault) refl
  only (inr (is, fault)) =
      let root = hash_of raw.root_hash is in
      rw (hash-only RootLength raw.root_hash root.0 root.1, hashes-only_fail raw.hashes e fault) refl

grown-fails : (r : Result (Unit {0}) MerkleProofError) (e : SigstoreError) → as_consistency r ≡ Err e
    → (cause : MerkleProofError) × (r ≡ Err cause) × (e ≡ ConsistencyProofError cause)
grown-fails (Ok _) e is = absurd cc
grown-fails (Err cause) e is = (cause, refl, sym (err_is (ConsistencyProofError cause) e is))

module _ (accepts : List ℕ → List ℕ → Bool) (head : LogInfo) (old_size : ℕ) (old_root : List ℕ)
    (proof : ConsistencyProof) where
  growth-fails : (e : SigstoreError) → head_answer accepts head old_size old_root proof ≡ Err e
      → IsGrowthRefusal accepts head old_size old_root proof e
  unfolding head_answer
  growth-fails e is = elim (bind_err (signed_answer accepts head.signed_tree_head) _ e is) [
    | inl none ↦ inl (inl (unsigned accepts head.signed_tree_head e none))
    | inr one ↦
        let signed = signed-found accepts head.signed_tree_head one.1 in
        elim (bind_err (tree_answer head.signed_tree_head head.root_hash head.tree_size) _ e one.2) [
          | inl other ↦
              inl (inr (
                signed,
                (tree-refusals head.signed_tree_head head.root_hash head.tree_size e).0 other,
              ))
          | inr same ↦
              let f = grown-fails (consistency_answer old_size head.tree_size proof.hashes old_root head.root_hash) e
              same.2 in
              inr (
                f.0,
                (signed, of_tree head.signed_tree_head head.root_hash head.tree_size same.1),
                (consistency_answers old_size head.tree_size old_root head.root_hash proof.hashes (Err f.0)).0 f.1,
                f.2,
              )
        ]
  ]

  growth-only_fails : (e : SigstoreError) → IsGrowthRefusal accepts head old_size old_root proof e
      → head_answer accepts head old_size old_root proof ≡ Err e
  unfolding head_answer
  growth-only_fails e (inl (inl none)) = rw (unsigned-only accepts head.signed_tree_head none.0, none.1) refl
  growth-only_fails e (inl (inr other)) =
      rw (
        signed-only accepts head.signed_tree_head other.0,
        (tree-refusals head.signed_tree_head head.root_hash head.tree_size e).1 other.1,
      ) refl
  growth-only_fails e (inr (cause, signed, shown, named)) =
      rw (
        signed-only accepts head.signed_tree_head signed.0,
        tree_accepted head.signed_tree_head head.root_hash head.tree_size signed.1,
        (consistency_answers old_size head.tree_size old_root head.root_hash proof.hashes (Err cause)).1 shown,
        named,
      ) refl

pub growth-refusals : (accepts : List ℕ → List ℕ → Bool) (head : LogInfo) (old_size : ℕ) (old_root : List ℕ)
    (proof : ConsistencyProof) (e : SigstoreError)
    → (head_answer accepts head old_size old_root proof ≡ Err e)
    ↔ IsGrowthRefusal accepts head old_size old_root proof e
growth-refusals accepts head old_size old_root proof e =
    (growth-fails accepts head old_size old_root proof e, growth-only_fails accepts head old_size old_root proof e)

-- ---- a public key

key-text : (coded text : List ℕ) (o : Option (List ℕ)) → base64_bytes coded ≡ o → text_of_bytes o ≡ Ok text
    → IsKeyText coded text
key-text coded text None is e = absurd cc
key-text coded text (Some bytes) is e = elim (chosen (is_utf8 bytes) (Ok bytes) (Err Utf8Error) (Ok text) e) [
  | inl valid ↦ (bytes, is, (ok_is bytes text valid.1, IsUtf8-from_is_utf8 bytes valid.0))
  | inr invalid ↦ absurd (let f = invalid.1 in cc)
]

pub key-is : (coded text : List ℕ) → (decoded_text coded ≡ Ok text) ↔ IsKeyText coded text
unfolding decoded_text
key-is coded text = (key-text coded text (base64_bytes coded) refl, only) where
  only : IsKeyText coded text → decoded_text coded ≡ Ok text
  only (bytes, is, (same, utf8)) = rw (is, is_utf8-from_IsUtf8 bytes utf8, same) refl

key-fails : (coded : List ℕ) (e : SigstoreError) (o : Option (List ℕ)) → base64_bytes coded ≡ o
    → text_of_bytes o ≡ Err e → IsKeyFault coded e
key-fails coded e None is told =
    inl (λ (bytes, has, _). (let f = sym is ∙ has in cc), sym (err_is Base64DecodeError e told))
key-fails coded e (Some bytes) is told = elim (chosen (is_utf8 bytes) (Ok bytes) (Err Utf8Error) (Err e) told) [
  | inl valid ↦ absurd (let f = valid.1 in cc)
  | inr invalid ↦ inr (
    (bytes, is, λ utf8. (let f = is_utf8-from_IsUtf8 bytes utf8 in let g = invalid.0 in cc)),
    sym (err_is Utf8Error e invalid.1),
  )
]

no_bytes : (coded : List ℕ) (o : Option (List ℕ)) → base64_bytes coded ≡ o → ¬ OfBytes coded (λ bytes. ⊤)
    → base64_bytes coded ≡ None
no_bytes coded (Some bytes) is none = absurd (none (bytes, is, tt))
no_bytes coded None is none = is

pub key-faults : (coded : List ℕ) (e : SigstoreError) → (decoded_text coded ≡ Err e) ↔ IsKeyFault coded e
unfolding decoded_text
key-faults coded e = (key-fails coded e (base64_bytes coded) refl, only) where
  only : IsKeyFault coded e → decoded_text coded ≡ Err e
  only (inl (none, named)) = rw (no_bytes coded (base64_bytes coded) refl none, named) refl
  only (inr ((bytes, is, other), named)) =
      rw (is, false_from_ne_true (is_utf8 bytes) (λ valid. other (IsUtf8-from_is_utf8 bytes valid)), named) refl
