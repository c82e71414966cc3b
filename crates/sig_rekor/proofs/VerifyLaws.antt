-- An inclusion proof is accepted if and only if the log vouches for the entry.
use Rattle.std.proofs.Common.{◌≡◌, ℕ, Bool, true, cond, nat_lt, List, Option, Some, None, Result, Ok, Err, refl, ap}
use Rattle.std.proofs.Common.{inl, inr, arith, ℤ, pos, negsuc, IsOk, IsOkUnless, OnOk, sym, ◌∙◌, ◌↔◌}
use Rattle.std.proofs.lemmas.Bool.{ltb-false, le-ltb}
use Rattle.std.specs.Cmp.Lexicographic.{bytes_decides}
use Rattle.std.specs.Str.{bytes_eq}
use Rattle.sig_base.specs.Answers.{Answers}
use Rattle.sig_base.specs.declared.error.SigstoreError.{SigstoreError}
use Rattle.sig_base.specs.declared.error.SigstoreError.TheVariants.{OutOfMemory, CheckpointSignatureVerificationError}
use Rattle.sig_base.specs.declared.error.SigstoreError.TheVariants.{ConsistencyProofError}
use Rattle.sig_base.specs.declared.merkle_error.MerkleProofError.{MerkleProofError}
use Rattle.sig_base.specs.declared.merkle_error.MerkleProofError.TheVariants.{NewTreeSmaller, UnexpectedEmptyProof}
use Rattle.sig_base.specs.declared.merkle_error.MerkleProofError.TheVariants.{MismatchedRoot}
use Rattle.sig_merkle.specs.Root.{leaf_of}
use Rattle.sig_merkle.specs.Inclusion.{inclusion_answer}
use Rattle.sig_merkle.proofs.InclusionLaws.{inclusion_answers}
use Rattle.sig_rekor.specs.declared.checkpoint.SignedCheckpoint.{SignedCheckpoint}
use Rattle.sig_rekor.specs.declared.inclusion_proof.InclusionProof.{InclusionProof}
use Rattle.sig_rekor.specs.Verify.{has_accepted_signature, IsOfTree, signed_answer, tree_answer, as_inclusion}
use Rattle.sig_rekor.specs.Verify.{inclusion_at}
use Rattle.sig_rekor.specs.Verify.{and_then, checkpoint_answer, proof_answer, HasCheckpoint, IsIncludedAt, IsVouched}
use Rattle.sig_rekor.proofs.Steps.{chosen}

-- both are accepted
both_accepted : (first next : Result (Unit {0}) SigstoreError) → and_then first next ≡ Ok tt
    → (first ≡ Ok tt) × (next ≡ Ok tt)
both_accepted (Ok _) next e = (refl, e)
both_accepted (Err refusal) next e = cc

-- a note of the same tree
pub of_tree : (checkpoint : SignedCheckpoint) (root : List ℕ) (size : ℕ) → tree_answer checkpoint root size ≡ Ok tt
    → IsOfTree checkpoint root size
of_tree checkpoint root size e =
    let note = checkpoint.note in
    let apart : Result (Unit {0}) SigstoreError = Err
    (ConsistencyProofError (MismatchedRoot (record { root = note.hash }) (record { root = root }))) in
    let same : Result (Unit {0}) SigstoreError = cond (bytes_eq note.hash root) (Ok tt) apart in
    let smaller : Result (Unit {0}) SigstoreError =
    cond (nat_lt note.size size) (Err (ConsistencyProofError UnexpectedEmptyProof)) same in
    elim (chosen (nat_lt size note.size) (Err (ConsistencyProofError (NewTreeSmaller size note.size))) smaller
    (Ok tt) e) [
      | inl larger ↦ (let f = larger.1 in cc)
      | inr not_larger ↦ elim (chosen (nat_lt note.size size) (Err (ConsistencyProofError UnexpectedEmptyProof)) same
          (Ok tt) not_larger.1) [
            | inl below ↦ (let f = below.1 in cc)
            | inr not_below ↦ elim (chosen (bytes_eq note.hash root) (Ok tt) apart (Ok tt) not_below.1) [
              | inl equal ↦ (
                omega (arith, ltb-false size note.size not_larger.0, ltb-false note.size size not_below.0),
                (bytes_decides note.hash root).0 equal.0,
              )
              | inr other ↦ (let f = other.1 in cc)
            ]
          ]
    ]

pub tree_accepted : (checkpoint : SignedCheckpoint) (root : List ℕ) (size : ℕ) → IsOfTree checkpoint root size
    → tree_answer checkpoint root size ≡ Ok tt
tree_accepted checkpoint root size is =
    rw (
      le-ltb size checkpoint.note.size (omega arith),
      le-ltb checkpoint.note.size size (omega arith),
      (bytes_decides checkpoint.note.hash root).1 is.1,
    ) refl

-- a checkpoint that vouches for the tree
has_checkpoint : (accepts : List ℕ → List ℕ → Bool) (proof : InclusionProof) (o : Option SignedCheckpoint)
    → checkpoint_answer accepts proof o ≡ Ok tt → HasCheckpoint accepts proof o
has_checkpoint accepts proof None e = cc
has_checkpoint accepts proof (Some checkpoint) e =
    let both = both_accepted (signed_answer accepts checkpoint)
    (tree_answer checkpoint proof.root_hash proof.tree_size) e in
    (signed both.0, of_tree checkpoint proof.root_hash proof.tree_size both.1) where
      signed : signed_answer accepts checkpoint ≡ Ok tt → has_accepted_signature accepts checkpoint ≡ true
      signed f =
          elim (chosen (has_accepted_signature accepts checkpoint) (Ok tt) (Err CheckpointSignatureVerificationError)
          (Ok tt) f) [
            | inl is ↦ is.0
            | inr none ↦ (let g = none.1 in cc)
          ]

checkpoint_accepted : (accepts : List ℕ → List ℕ → Bool) (proof : InclusionProof) (o : Option SignedCheckpoint)
    → HasCheckpoint accepts proof o → checkpoint_answer accepts proof o ≡ Ok tt
checkpoint_accepted accepts proof None is = absurd is
checkpoint_accepted accepts proof (Some checkpoint) is =
    let signed : has_accepted_signature accepts checkpoint ≡ true =
    is.0 in rw (signed, tree_accepted checkpoint proof.root_hash proof.tree_size is.1) refl

-- the path
as_inclusion-ok : (r : Result (Unit {0}) MerkleProofError) → as_inclusion r ≡ Ok tt → r ≡ Ok tt
as_inclusion-ok (Ok _) e = refl
as_inclusion-ok (Err refusal) e = cc

included : (index : ℤ) (entry : List ℕ) (proof : InclusionProof) → inclusion_at index entry proof ≡ Ok tt
    → IsIncludedAt index entry proof
included (pos index) entry proof e =
    (inclusion_answers index proof.tree_size (leaf_of entry) proof.root_hash proof.hashes (Ok tt)).0
    (as_inclusion-ok (inclusion_answer index (leaf_of entry) proof.tree_size proof.hashes proof.root_hash) e)
included (negsuc index) entry proof e = cc

inclusion_accepted : (index : ℤ) (entry : List ℕ) (proof : InclusionProof) → IsIncludedAt index entry proof
    → inclusion_at index entry proof ≡ Ok tt
inclusion_accepted (pos index) entry proof is =
    ap as_inclusion ((inclusion_answers index proof.tree_size (leaf_of entry) proof.root_hash proof.hashes (Ok tt)).1
    is)
inclusion_accepted (negsuc index) entry proof is = absurd is

pub path_ok : (entry : List ℕ) (proof : InclusionProof) (r : Result (Unit {0}) SigstoreError)
    → r ≡ inclusion_at proof.log_index entry proof → IsOk r ↔ IsIncludedAt proof.log_index entry proof
path_ok entry proof (Ok _) is =
    ((λ ok. included proof.log_index entry proof (sym is)), (λ held. refl))
path_ok entry proof (Err e) is = (
  (λ ok. absurd cc),
  (λ held. let wrong = is ∙ inclusion_accepted proof.log_index entry proof held in absurd cc),
)

pub vouched : (accepts : List ℕ → List ℕ → Bool) (entry : List ℕ) (proof : InclusionProof)
    → proof_answer accepts entry proof ≡ Ok tt → IsVouched accepts entry proof
unfolding proof_answer
vouched accepts entry proof e =
    let both = both_accepted (checkpoint_answer accepts proof proof.checkpoint)
    (inclusion_at proof.log_index entry proof) e in
    record {
      checkpoint = has_checkpoint accepts proof proof.checkpoint both.0;
      path = included proof.log_index entry
          proof both.1;
    }

pub accepted : (accepts : List ℕ → List ℕ → Bool) (entry : List ℕ) (proof : InclusionProof)
    → IsVouched accepts entry proof → proof_answer accepts entry proof ≡ Ok tt
unfolding proof_answer
accepted accepts entry proof is =
    rw (
      checkpoint_accepted accepts proof proof.checkpoint is.checkpoint,
      inclusion_accepted proof.log_index entry
          proof is.path,
    ) refl

-- the answer of a call
pub vouched_ok : (accepts : List ℕ → List ℕ → Bool) (entry : List ℕ) (proof : InclusionProof)
    (r : Result (Unit {0}) SigstoreError) → Answers OutOfMemory (λ x. x) r (proof_answer accepts entry proof)
    → OnOk r (IsVouched accepts entry proof)
vouched_ok accepts entry proof (Ok _) is = vouched accepts entry proof is
vouched_ok accepts entry proof (Err e) is = tt

pub accepted_only : (accepts : List ℕ → List ℕ → Bool) (entry : List ℕ) (proof : InclusionProof)
    (r : Result (Unit {0}) SigstoreError) → Answers OutOfMemory (λ x. x) r (proof_answer accepts entry proof)
    → IsVouched accepts entry proof → IsOkUnless r OutOfMemory
accepted_only accepts entry proof (Ok _) is vouches = tt
accepted_only accepts entry proof (Err e) is vouches = elim is [
  | inl memory ↦ memory
  | inr refused ↦ (let f = accepted accepts entry proof vouches in cc)
]
