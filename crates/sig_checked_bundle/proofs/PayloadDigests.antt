-- The digests of a payload under the names of a bundle.
use Rattle.std.proofs.Common.{◌≡◌, ◌⊎◌, inl, inr, ℕ, List, Ok, Err, refl}
use Rattle.sig_dsse.specs.Payload.{digests_of_payload}
use Rattle.sig_dsse.specs.declared.artifact_digest.ArtifactDigest.{ArtifactDigest}
use Rattle.sig_dsse.specs.declared.payload.PayloadFault.TheVariants as payload_fault
use Rattle.sig_dsse.specs.declared.recognized.SubjectFault.{SubjectFault}
use Rattle.sig_dsse.proofs.Payloads.{payload_told-digests, payload_told-fault, payload_told-none}
use Rattle.sig_checked_bundle.specs.Content.{digests_in, subject_refusal}
use Rattle.sig_checked_bundle.specs.declared.bundle_error.BundleErrorKind.{BundleErrorKind}
use Rattle.sig_checked_bundle.specs.declared.bundle_error.BundleErrorKind.TheVariants.{DssePayloadDecode, OutOfMemory}

pub digests-told : (payload : List ℕ) (digests : List ArtifactDigest) → digests_of_payload payload ≡ Ok digests
    → digests_in payload ≡ Ok digests
digests-told payload digests told = let has = payload_told-digests payload digests told in rw (has.1, has.2) refl

pub fault-told : (payload : List ℕ) (fault : SubjectFault) (refusal : BundleErrorKind)
    → refusal ≡ subject_refusal fault
    → (payload_fault.Subjects fault ≡ payload_fault.OutOfMemory) ⊎
    (digests_of_payload payload ≡ Err (payload_fault.Subjects fault))
    → (refusal ≡ OutOfMemory) ⊎ (digests_in payload ≡ Err refusal)
fault-told payload fault refusal named (inl memory) = cc
fault-told payload fault refusal named (inr told) =
    let has = payload_told-fault payload fault told in inr (rw (has.1, has.2, named) refl)

pub none-told : (payload : List ℕ)
    → (payload_fault.NoStatement ≡ payload_fault.OutOfMemory) ⊎
    (digests_of_payload payload ≡ Err payload_fault.NoStatement)
    → (DssePayloadDecode ≡ OutOfMemory) ⊎ (digests_in payload ≡ Err DssePayloadDecode)
none-told payload (inl memory) = cc
none-told payload (inr told) = inr (rw (payload_told-none payload told) refl)

pub ruleset payload_digests = (digests-told, fault-told, none-told)
