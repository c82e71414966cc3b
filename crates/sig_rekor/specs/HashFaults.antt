-- *Hashes and proofs of Rekor's API*, in the words of their texts: what each one is, and the error of the first that is
-- none.
use Rattle.std.specs.Prelude.{◌≡◌, ◌≢◌, ◌⊎◌, ℕ, ◌*◌, List, [], ◌∷◌, ◌++◌, length, Option, Some, None, Ok}
use Rattle.std.specs.List.{AllByRecursion, AllPass, AllZip}
use Rattle.hex.specs.Hex.{decode_of, is_hex_digit}
use Rattle.sig_base.specs.declared.error.SigstoreError.{SigstoreError}
use Rattle.sig_base.specs.declared.error.SigstoreError.TheVariants.{HexDecodeError, ParseCheckpointError}
use Rattle.sig_base.specs.declared.error.SigstoreError.TheVariants.{UnexpectedError}
use Rattle.sig_base.specs.declared.fault.CheckpointFault.{CheckpointFault}
use Rattle.sig_base.specs.declared.unexpected.UnexpectedKind.{UnexpectedKind}
use Rattle.sig_base.specs.declared.unexpected.UnexpectedKind.TheVariants.{HashLength, RootLength}
use Rattle.sig_rekor.specs.declared.checkpoint.SignedCheckpoint.{SignedCheckpoint}
use Rattle.sig_rekor.specs.declared.inclusion_proof.InclusionProof.{InclusionProof}
use Rattle.sig_rekor.specs.declared.rekor_proof.RekorInclusionProof.{RekorInclusionProof}
use Rattle.sig_rekor.specs.CheckpointText.{IsCheckpoint}
use Rattle.sig_rekor.specs.Faults.{IsCheckpointFault}

-- ---- a hash

-- two hexadecimal digits for each byte, in either case, and nothing else (RFC 4648 section 8)
abbrev pub IsOfBytes : List ℕ → Type 0
IsOfBytes text = (count : ℕ) × (length text ≡ 2 * count) × AllPass is_hex_digit text

-- those of the 32 bytes of a SHA-256 (FIPS 180-4 section 6.2)
abbrev pub IsHashText : List ℕ → Type 0
IsHashText text = (length text ≡ 64) × AllPass is_hex_digit text

-- *Hash of a text*: its digits are those of this hash
abbrev pub IsHashOf : List ℕ → List ℕ → Type 0
IsHashOf text hash = IsHashText text × (decode_of text ≡ Ok hash)

-- *Fault of a hash*: the text is not the digits of whole bytes; else it has another number of bytes, for which the
-- caller has an error
abbrev pub IsHashFault : UnexpectedKind → List ℕ → SigstoreError → Type 0
IsHashFault other_length text e =
    (¬ IsOfBytes text × (e ≡ HexDecodeError))
    ⊎ (IsOfBytes text × (length text ≢ 64) × (e ≡ UnexpectedError other_length))

abbrev pub AreHashTexts : List (List ℕ) → Type 0
AreHashTexts texts = AllByRecursion IsHashText texts

-- *Fault of hashes*: the fault of the first text that is not a hash; its index is the number of hashes before it
pub record IsHashesFault (texts : List (List ℕ)) (e : SigstoreError) : Type 0 where
  pub before : List (List ℕ)
  pub text : List ℕ
  pub after : List (List ℕ)
  pub split : texts ≡ before ++ text ∷ after
  pub sound : AreHashTexts before
  pub fault : IsHashFault (HashLength (length before)) text e

-- ---- an inclusion proof

-- the checkpoint that a text is; an empty text means no checkpoint
abbrev pub IsCheckpointOf : List ℕ → Option SignedCheckpoint → Type 0
IsCheckpointOf text None = text ≡ []
IsCheckpointOf text (Some checkpoint) = (text ≢ []) × IsCheckpoint text checkpoint

-- *Proof of the API*: each text is the digits or the checkpoint of its part, and the numbers are the same
pub record IsProofOf (api : RekorInclusionProof) (proof : InclusionProof) : Type 0 where
  pub index : proof.log_index ≡ api.log_index
  pub size : proof.tree_size ≡ api.tree_size
  pub hashes : AllZip IsHashOf api.hashes proof.hashes
  pub root : IsHashOf api.root_hash proof.root_hash
  pub checkpoint : IsCheckpointOf api.checkpoint proof.checkpoint

-- a text that is there and is not a checkpoint, with its own fault
abbrev pub IsTextFault : List ℕ → SigstoreError → Type 0
IsTextFault text e =
    (fault : CheckpointFault) × (text ≢ []) × IsCheckpointFault text fault × (e ≡ ParseCheckpointError fault)

-- *Fault of a proof of the API*: that of the hashes; else that of the root; else that of the checkpoint
abbrev pub IsProofFault : RekorInclusionProof → SigstoreError → Type 0
IsProofFault api e =
    IsHashesFault api.hashes e
    ⊎ (AreHashTexts api.hashes × IsHashFault RootLength api.root_hash e)
    ⊎ (AreHashTexts api.hashes × IsHashText api.root_hash × IsTextFault api.checkpoint e)
