-- *Proof of an entry*: what the members of an inclusion proof have to be so that an audit path can be followed
-- (Sigstore bundle format, InclusionProof; RFC 6962 section 2.1.1), and the first of them that is not.
use Rattle.std.specs.Prelude.{◌≡◌, ℕ, ◌==◌, ℤ, pos, negsuc, if◌then◌else◌}
use Rattle.std.specs.Prelude.{List, ◌∷◌, ◌++◌, length, Option, Some, None, Result, Ok, Err}
use Rattle.std.specs.List.{AllByRecursion}
use Rattle.sig_base.specs.ResultSteps.{◌>>=◌, each_from}
use Rattle.sig_base.specs.declared.fault.CheckpointFault.{CheckpointFault}
use Rattle.sig_rekor.specs.CheckpointText.{IsCheckpoint, checkpoint_of}
use Rattle.sig_rekor.specs.Faults.{IsCheckpointFault}
use Rattle.sig_rekor.specs.declared.checkpoint.SignedCheckpoint.{SignedCheckpoint}
use Rattle.sig_rekor.specs.declared.inclusion_proof.InclusionProof.{InclusionProof}
use Rattle.sig_bundle.specs.declared.material.ProofFields.{ProofFields}
use Rattle.sig_bundle.specs.declared.proof_error.ProofFieldsError.{ProofFieldsError}
use Rattle.sig_bundle.specs.declared.proof_error.ProofFieldsError.TheVariants.{RootLength, HashLength, TreeSize}
use Rattle.sig_bundle.specs.declared.proof_error.ProofFieldsError.TheVariants.{CheckpointMissing, Checkpoint}
use Rattle.sig_bundle.specs.declared.proof_error.ProofFieldsError.TheVariants.{OutOfMemory}

-- ---- the rules, one for each member that has one

-- SHA-256 has 32 bytes (FIPS 180-4 section 6.2)
abbrev pub IsHash : List ℕ → Type 0
IsHash bytes = length bytes ≡ 32

abbrev pub HasRoot : ProofFields → Type 0
HasRoot fields = IsHash fields.root_hash

abbrev pub HasHashes : ProofFields → Type 0
HasHashes fields = AllByRecursion IsHash fields.hashes

-- the size is a number of leaves
abbrev pub HasSize : ProofFields → Type 0
HasSize fields = (size : ℕ) × (fields.tree_size ≡ pos size)

-- there is a text of a checkpoint, and this holds of it
abbrev pub OfText : ProofFields → (List ℕ → Type 0) → Type 0
OfText fields P = (text : List ℕ) × (fields.checkpoint ≡ Some text) × P text

-- the first of the byte strings that is not a hash has this index
pub record IsFirstOther (hashes : List (List ℕ)) (index : ℕ) : Type 0 where
  pub before : List (List ℕ)
  pub other : List ℕ
  pub after : List (List ℕ)
  pub split : hashes ≡ before ++ other ∷ after
  pub place : length before ≡ index
  pub sound : AllByRecursion IsHash before
  pub wrong : ¬ IsHash other

-- ---- the proof, and the cause of each error

-- the members are those of this proof, which carries the checkpoint that their text is
pub record IsProof (fields : ProofFields) (proof : InclusionProof) : Type 0 where
  pub index : proof.log_index ≡ fields.log_index
  pub root : (proof.root_hash ≡ fields.root_hash) × HasRoot fields
  pub size : fields.tree_size ≡ pos proof.tree_size
  pub hashes : (proof.hashes ≡ fields.hashes) × HasHashes fields
  pub checkpoint : SignedCheckpoint
  pub decoded : OfText fields (λ text. IsCheckpoint text checkpoint)
  pub carried : proof.checkpoint ≡ Some checkpoint

-- the members' first rule that does not hold, in their order: root, hashes, size, checkpoint, its text
abbrev pub IsProofFault : ProofFields → ProofFieldsError → Type 0
IsProofFault fields RootLength = ¬ HasRoot fields
IsProofFault fields (HashLength index) = HasRoot fields × IsFirstOther fields.hashes index
IsProofFault fields TreeSize = HasRoot fields × HasHashes fields × ¬ HasSize fields
IsProofFault fields CheckpointMissing =
    HasRoot fields × HasHashes fields × HasSize fields × (fields.checkpoint ≡ None)
IsProofFault fields (Checkpoint fault) =
    HasRoot fields × HasHashes fields × HasSize fields × OfText fields (λ text. IsCheckpointFault text fault)
IsProofFault fields OutOfMemory = ⊥

-- the proof that the members are, or the error for the first rule that does not hold
abbrev pub IsProofOrFault : ProofFields → Result InclusionProof ProofFieldsError → Type 0
IsProofOrFault fields (Ok proof) = IsProof fields proof
IsProofOrFault fields (Err e) = IsProofFault fields e

-- ---- the same as one function

abbrev pub hash_or : ProofFieldsError → List ℕ → Result (List ℕ) ProofFieldsError
hash_or e bytes = if length bytes == 32 then Ok bytes else Err e

abbrev pub path_hash_at : ℕ → List ℕ → Result (List ℕ) ProofFieldsError
path_hash_at index = hash_or (HashLength index)

-- the hashes, counted from this index on
abbrev pub path_hashes_from : ℕ → List (List ℕ) → Result (List (List ℕ)) ProofFieldsError
path_hashes_from = each_from path_hash_at

abbrev pub size_or_fault : ℤ → Result ℕ ProofFieldsError
size_or_fault (pos size) = Ok size
size_or_fault (negsuc n) = Err TreeSize

abbrev pub under_proof_name : Result SignedCheckpoint CheckpointFault → Result SignedCheckpoint ProofFieldsError
under_proof_name (Ok checkpoint) = Ok checkpoint
under_proof_name (Err fault) = Err (Checkpoint fault)

abbrev pub checkpoint_or_fault : Option (List ℕ) → Result SignedCheckpoint ProofFieldsError
checkpoint_or_fault None = Err CheckpointMissing
checkpoint_or_fault (Some text) = under_proof_name (checkpoint_of text)

abbrev pub proof_or_fault : ProofFields → Result InclusionProof ProofFieldsError
proof_or_fault fields = do
  root ← hash_or RootLength fields.root_hash
  hashes ← path_hashes_from 0 fields.hashes
  size ← size_or_fault fields.tree_size
  checkpoint ← checkpoint_or_fault fields.checkpoint
  Ok (record {
    log_index = fields.log_index;
    root_hash = root;
    tree_size = size;
    hashes = hashes;
    checkpoint = Some checkpoint;
  })
