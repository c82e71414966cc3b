-- The inclusion proof of Rekor's API is the proof that it is, or has the fault of its first part that is wrong.
use Rattle.std.proofs.Common.{◌≡◌, ◌≢◌, ◌↔◌, inl, inr, ℕ, List, [], ◌∷◌, Option, Some, None, Result, Ok, Err, refl, sym}
use Rattle.std.proofs.Common.{subst, ◌∙◌, ap}
use Rattle.sig_base.proofs.ResultSteps.{bind_err, bind_ok, err_is, ok_is}
use Rattle.sig_base.specs.declared.error.SigstoreError.{SigstoreError}
use Rattle.sig_base.specs.declared.error.SigstoreError.TheVariants.{ParseCheckpointError}
use Rattle.sig_base.specs.declared.fault.CheckpointFault.{CheckpointFault}
use Rattle.sig_base.specs.declared.unexpected.UnexpectedKind.TheVariants.{RootLength}
use Rattle.sig_rekor.proofs.CheckpointFaults.{checkpoint-fails, checkpoint-only_fails}
use Rattle.sig_rekor.proofs.CheckpointLaws.{checkpoint-found, checkpoint-only}
use Rattle.sig_rekor.proofs.HashFaults.{hash-found, hash-only, hash-fails, hash-only_fails, hash_of}
use Rattle.sig_rekor.proofs.HashFaults.{hashes-found, hashes-only, hashes-fail, hashes-only_fail, hashes_of, all_texts}
use Rattle.sig_rekor.specs.CheckpointText.{checkpoint_of}
use Rattle.sig_rekor.specs.HashFaults.{IsCheckpointOf, IsProofOf, IsTextFault, IsProofFault}
use Rattle.sig_rekor.specs.HashText.{hash_in, hashes_from}
use Rattle.sig_rekor.specs.RekorProof.{there, checkpoint_or_none, inclusion_proof_from_rekor}
use Rattle.sig_rekor.specs.declared.checkpoint.SignedCheckpoint.{SignedCheckpoint}
use Rattle.sig_rekor.specs.declared.inclusion_proof.InclusionProof.{InclusionProof}
use Rattle.sig_rekor.specs.declared.rekor_proof.RekorInclusionProof.{RekorInclusionProof}

-- ---- the checkpoint

read-found : (text : List ℕ) (read : Result SignedCheckpoint CheckpointFault) (o : Option SignedCheckpoint)
    → text ≢ [] → checkpoint_of text ≡ read → there read ≡ Ok o → IsCheckpointOf text o
read-found text (Ok checkpoint) None some is e = absurd cc
read-found text (Ok checkpoint) (Some other) some is e =
    let same : checkpoint ≡ other = cc in (some, checkpoint-found text other (is ∙ ap Ok same))
read-found text (Err fault) o some is e = absurd cc

text-found : (text : List ℕ) (o : Option SignedCheckpoint) → checkpoint_or_none text ≡ Ok o → IsCheckpointOf text o
unfolding checkpoint_or_none
text-found [] None e = refl
text-found [] (Some checkpoint) e = absurd cc
text-found (letter ∷ text) o e =
    read-found (letter ∷ text) (checkpoint_of (letter ∷ text)) o (λ none. absurd cc) refl e

text-only : (text : List ℕ) (o : Option SignedCheckpoint) → IsCheckpointOf text o → checkpoint_or_none text ≡ Ok o
unfolding checkpoint_or_none
text-only [] None is = refl
text-only [] (Some checkpoint) is = absurd (is.0 refl)
text-only (letter ∷ text) None is = absurd cc
text-only (letter ∷ text) (Some checkpoint) is = rw (checkpoint-only (letter ∷ text) checkpoint is.1) refl

read-fails : (text : List ℕ) (read : Result SignedCheckpoint CheckpointFault) (e : SigstoreError)
    → text ≢ [] → checkpoint_of text ≡ read → there read ≡ Err e → IsTextFault text e
read-fails text (Ok checkpoint) e some is told = absurd cc
read-fails text (Err fault) e some is told =
    (fault, some, checkpoint-fails text fault is, sym (err_is (ParseCheckpointError fault) e told))

text-fails : (text : List ℕ) (e : SigstoreError) → checkpoint_or_none text ≡ Err e → IsTextFault text e
unfolding checkpoint_or_none
text-fails [] e is = absurd cc
text-fails (letter ∷ text) e is =
    read-fails (letter ∷ text) (checkpoint_of (letter ∷ text)) e (λ none. absurd cc) refl is

text-only_fails : (text : List ℕ) (e : SigstoreError) → IsTextFault text e → checkpoint_or_none text ≡ Err e
unfolding checkpoint_or_none
text-only_fails [] e is = absurd (is.1 refl)
text-only_fails (letter ∷ text) e is = rw (checkpoint-only_fails (letter ∷ text) is.0 is.2, is.3) refl

-- ---- the proof

proof-found : (api : RekorInclusionProof) (proof : InclusionProof) → inclusion_proof_from_rekor api ≡ Ok proof
    → IsProofOf api proof
unfolding inclusion_proof_from_rekor
proof-found api proof e =
    let a = bind_ok (hashes_from 0 api.hashes) _ proof e in
    let b = bind_ok (hash_in RootLength api.root_hash) _ proof a.2 in
    let k = bind_ok (checkpoint_or_none api.checkpoint) _ proof b.2 in
    let made : InclusionProof = record {
      log_index = api.log_index;
      root_hash = b.0;
      tree_size = api.tree_size;
      hashes = a.0;
      checkpoint = k.0;
    } in
    subst (IsProofOf api) (ok_is made proof k.2) (record {
      index = refl;
      size = refl;
      hashes = hashes-found 0 api.hashes a.0 a.1;
      root = hash-found RootLength api.root_hash b.0 b.1;
      checkpoint = text-found api.checkpoint k.0 k.1;
    })

proof-only : (api : RekorInclusionProof) (proof : InclusionProof) → IsProofOf api proof
    → inclusion_proof_from_rekor api ≡ Ok proof
unfolding inclusion_proof_from_rekor
proof-only api proof is =
    rw (
      hashes-only 0 api.hashes proof.hashes is.hashes,
      hash-only RootLength api.root_hash proof.root_hash is.root,
      text-only api.checkpoint proof.checkpoint is.checkpoint,
      ← is.index,
      ← is.size,
    ) refl

pub proof-is : (api : RekorInclusionProof) (proof : InclusionProof)
    → (inclusion_proof_from_rekor api ≡ Ok proof) ↔ IsProofOf api proof
proof-is api proof = (proof-found api proof, proof-only api proof)

proof-fails : (api : RekorInclusionProof) (e : SigstoreError) → inclusion_proof_from_rekor api ≡ Err e
    → IsProofFault api e
unfolding inclusion_proof_from_rekor
proof-fails api e is =
    elim (bind_err (hashes_from 0 api.hashes) _ e is) [
      | inl wrong ↦ inl (hashes-fail api.hashes e wrong)
      | inr a ↦
          let hashes = all_texts api.hashes a.0 (hashes-found 0 api.hashes a.0 a.1) in
          elim (bind_err (hash_in RootLength api.root_hash) _ e a.2) [
            | inl wrong ↦ inr (inl (hashes, hash-fails RootLength api.root_hash e wrong))
            | inr b ↦
                let root = (hash-found RootLength api.root_hash b.0 b.1).0 in
                elim (bind_err (checkpoint_or_none api.checkpoint) _ e b.2) [
                  | inl wrong ↦ inr (inr (hashes, root, text-fails api.checkpoint e wrong))
                  | inr k ↦ absurd (let f = k.2 in cc)
                ]
          ]
    ]

proof-only_fails : (api : RekorInclusionProof) (e : SigstoreError) → IsProofFault api e
    → inclusion_proof_from_rekor api ≡ Err e
unfolding inclusion_proof_from_rekor
proof-only_fails api e (inl fault) = rw (hashes-only_fail api.hashes e fault) refl
proof-only_fails api e (inr (inl fault)) =
    let hashes = hashes_of api.hashes fault.0 in
    rw (hashes-only 0 api.hashes hashes.0 hashes.1, hash-only_fails RootLength api.root_hash e fault.1) refl
proof-only_fails api e (inr (inr fault)) =
    let hashes = hashes_of api.hashes fault.0 in
    let root = hash_of api.root_hash fault.1 in
    rw (
      hashes-only 0 api.hashes hashes.0 hashes.1,
      hash-only RootLength api.root_hash root.0 root.1,
      text-only_fails api.checkpoint e fault.2,
    ) refl

pub proof-faults : (api : RekorInclusionProof) (e : SigstoreError)
    → (inclusion_proof_from_rekor api ≡ Err e) ↔ IsProofFault api e
proof-faults api e = (proof-fails api e, proof-only_fails api e)
