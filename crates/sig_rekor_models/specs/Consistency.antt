-- *Consistency proof from Rekor*: what Rekor's API returns, as the proof that it is (RFC 6962 section 2.1.2), and the
-- result of its check, also from a tree head.
use Rattle.std.specs.Prelude.{ℕ, Bool, IsTrue, List, Option, Some, None, Result, Ok, Err}
use Rattle.sig_base.specs.ResultSteps.{◌>>=◌}
use Rattle.sig_base.specs.declared.error.SigstoreError.{SigstoreError}
use Rattle.sig_base.specs.declared.error.SigstoreError.TheVariants.{ConsistencyProofError}
use Rattle.sig_base.specs.declared.merkle_error.MerkleProofError.{MerkleProofError}
use Rattle.sig_base.specs.declared.unexpected.UnexpectedKind.TheVariants.{RootLength}
use Rattle.sig_merkle.specs.ConsistencyAnswer.{IsConsistent, consistency_answer}
use Rattle.sig_rekor.specs.HashText.{hash_in, hashes_from}
use Rattle.sig_rekor.specs.Verify.{IsOfTree, has_accepted_signature, signed_answer, tree_answer}
use Rattle.sig_rekor_models.specs.declared.consistency_proof.ConsistencyProof.{ConsistencyProof}
use Rattle.sig_rekor_models.specs.declared.consistency_proof.RekorConsistencyProof.{RekorConsistencyProof}
use Rattle.sig_rekor_models.specs.declared.log_info.LogInfo.{LogInfo}

-- the proof, or the first part that is wrong: the root hash, then the hashes in order
unfoldable pub consistency_proof_from_rekor : RekorConsistencyProof → Result ConsistencyProof SigstoreError
consistency_proof_from_rekor raw = do
  root ← hash_in RootLength raw.root_hash
  hashes ← hashes_from 0 raw.hashes
  Ok (record { root_hash = root; hashes = hashes })

-- the root that is given, else the proof's own
abbrev pub given_or : List ℕ → Option (List ℕ) → List ℕ
given_or own None = own
given_or own (Some root) = root

-- the error of the proof as this crate's error
abbrev pub as_consistency : Result (Unit {0}) MerkleProofError → Result (Unit {0}) SigstoreError
as_consistency (Ok _) = Ok tt
as_consistency (Err refusal) = Err (ConsistencyProofError refusal)

-- the result of a check that a tree head's tree has an older one as its first leaves: the first of the tree head's
-- signature, its tree, and the proof that fails
unfoldable pub head_answer : (List ℕ → List ℕ → Bool) → LogInfo → ℕ → List ℕ → ConsistencyProof
    → Result (Unit {0}) SigstoreError
head_answer accepts head old_size old_root proof = do
  _ ← signed_answer accepts head.signed_tree_head
  _ ← tree_answer head.signed_tree_head head.root_hash head.tree_size
  as_consistency (consistency_answer old_size head.tree_size proof.hashes old_root head.root_hash)

-- *Grown tree head*: the log signed the tree head's own tree, and the proof shows that it has the older one as its
-- first leaves
pub record IsGrownHead (accepts : List ℕ → List ℕ → Bool) (head : LogInfo) (old_size : ℕ) (old_root : List ℕ)
    (proof : ConsistencyProof) : Type 0 where
  pub signed : IsTrue (has_accepted_signature accepts head.signed_tree_head)
  pub tree : IsOfTree head.signed_tree_head head.root_hash head.tree_size
  pub grown : IsConsistent old_size head.tree_size proof.hashes old_root head.root_hash
