-- *Causes of the refusals*: what is taken from Rekor's API, and each error of its calls, by the first rule that does
-- not hold. `accepts` is what the checker accepts under the log's key.
use Rattle.std.specs.Prelude.{◌≡◌, ◌⊎◌, ℕ, Bool, List, Some, None, Ok, Err, ⊤}
use Rattle.std.specs.List.{AllZip}
use Rattle.std.specs.Str.{IsUtf8}
use Rattle.sig_base.specs.declared.error.SigstoreError.{SigstoreError}
use Rattle.sig_base.specs.declared.error.SigstoreError.TheVariants.{Base64DecodeError, ConsistencyProofError}
use Rattle.sig_base.specs.declared.error.SigstoreError.TheVariants.{UnexpectedError, Utf8Error}
use Rattle.sig_base.specs.declared.merkle_error.MerkleProofError.{MerkleProofError}
use Rattle.sig_base.specs.declared.unexpected.UnexpectedKind.TheVariants.{ProofMissing, ProofConversion, CanonicalBody}
use Rattle.sig_base.specs.declared.unexpected.UnexpectedKind.TheVariants.{RootLength}
use Rattle.sig_json_text.specs.Canonical.{canonical_of}
use Rattle.sig_merkle.specs.ConsistencyAnswer.{IsConsistencyAnswer}
use Rattle.sig_rekor.specs.Faults.{OfBytes}
use Rattle.sig_rekor.specs.HashFaults.{IsHashOf, IsHashText, IsHashFault, IsHashesFault, IsProofOf, IsProofFault}
use Rattle.sig_rekor.specs.Refusals.{IsHeadRefusal, IsProofRefusal, IsSignedHead}
use Rattle.sig_rekor.specs.declared.inclusion_proof.InclusionProof.{InclusionProof}
use Rattle.sig_rekor.specs.declared.rekor_proof.RekorInclusionProof.{RekorInclusionProof}
use Rattle.sig_rekor_models.specs.Body.{body_tree}
use Rattle.sig_rekor_models.specs.LogEntry.{LogEntry}
use Rattle.sig_rekor_models.specs.declared.consistency_proof.ConsistencyProof.{ConsistencyProof}
use Rattle.sig_rekor_models.specs.declared.consistency_proof.RekorConsistencyProof.{RekorConsistencyProof}
use Rattle.sig_rekor_models.specs.declared.log_info.LogInfo.{LogInfo}
use Rattle.sig_rekor_models.specs.declared.log_info.RekorLogInfo.{RekorLogInfo}

-- ---- an entry

-- the body has a canonical text (RFC 8785)
abbrev pub HasLeaf : LogEntry → List ℕ → Type 0
HasLeaf entry leaf = canonical_of (body_tree entry.body) ≡ Ok leaf

-- *Refusal of a leaf*: the body has no canonical text; or it has one, and its inclusion is rejected
abbrev pub IsLeafRefusal : (List ℕ → List ℕ → Bool) → LogEntry → InclusionProof → SigstoreError → Type 0
IsLeafRefusal accepts entry proof e =
    (((leaf : List ℕ) → ¬ HasLeaf entry leaf) × (e ≡ UnexpectedError CanonicalBody))
    ⊎ ((leaf : List ℕ) × HasLeaf entry leaf × IsProofRefusal accepts leaf proof e)

-- *Refusal of an entry*: it has no proof; or one with a fault; or one without a fault, and its leaf is rejected
abbrev pub IsEntryRefusal : (List ℕ → List ℕ → Bool) → LogEntry → SigstoreError → Type 0
IsEntryRefusal accepts entry e =
    ((entry.verification.inclusion_proof ≡ None) × (e ≡ UnexpectedError ProofMissing))
    ⊎ ((api : RekorInclusionProof) × (entry.verification.inclusion_proof ≡ Some api)
    × (((fault : SigstoreError) × IsProofFault api fault × (e ≡ UnexpectedError ProofConversion))
    ⊎ ((proof : InclusionProof) × IsProofOf api proof × IsLeafRefusal accepts entry proof e)))

-- ---- a tree head, and a consistency proof

-- *Head of the API*: its text is the digits of the root, and the other parts are the same
pub record IsHeadOf (raw : RekorLogInfo) (head : LogInfo) : Type 0 where
  pub root : IsHashOf raw.root_hash head.root_hash
  pub size : head.tree_size ≡ raw.tree_size
  pub signed : head.signed_tree_head ≡ raw.signed_tree_head
  pub id : head.tree_id ≡ raw.tree_id
  pub shards : head.inactive_shards ≡ raw.inactive_shards

-- *Consistency proof of the API*: its texts are the digits of the root and of the hashes
pub record IsConsistencyOf (raw : RekorConsistencyProof) (proof : ConsistencyProof) : Type 0 where
  pub root : IsHashOf raw.root_hash proof.root_hash
  pub hashes : AllZip IsHashOf raw.hashes proof.hashes

-- *Fault of a consistency proof*: that of the root; or the root is a hash, and the fault is that of the hashes
abbrev pub IsConsistencyFault : RekorConsistencyProof → SigstoreError → Type 0
IsConsistencyFault raw e =
    IsHashFault RootLength raw.root_hash e ⊎ (IsHashText raw.root_hash × IsHashesFault raw.hashes e)

-- *Refusal of growth*: the head is refused, for its own tree; or the log signed for that tree, and the proof does not
-- show that it has the older one as its first leaves (RFC 6962 section 2.1.2)
abbrev pub IsGrowthRefusal : (List ℕ → List ℕ → Bool) → LogInfo → ℕ → List ℕ → ConsistencyProof → SigstoreError
    → Type 0
IsGrowthRefusal accepts head old_size old_root proof e =
    IsHeadRefusal accepts head.signed_tree_head head.root_hash head.tree_size e
    ⊎ ((cause : MerkleProofError) × IsSignedHead accepts head.signed_tree_head head.root_hash head.tree_size
    × IsConsistencyAnswer old_size head.tree_size proof.hashes old_root head.root_hash (Err cause)
    × (e ≡ ConsistencyProofError cause))

-- ---- a public key

-- *Text of a key*: the UTF-8 that its base64 encodes
abbrev pub IsKeyText : List ℕ → List ℕ → Type 0
IsKeyText coded text = OfBytes coded (λ bytes. (bytes ≡ text) × IsUtf8 bytes)

-- *Fault of a key*: it is not base64, or is base64 of bytes that are not UTF-8
abbrev pub IsKeyFault : List ℕ → SigstoreError → Type 0
IsKeyFault coded e =
    (¬ OfBytes coded (λ bytes. ⊤) × (e ≡ Base64DecodeError))
    ⊎ (OfBytes coded (λ bytes. ¬ IsUtf8 bytes) × (e ≡ Utf8Error))
