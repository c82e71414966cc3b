-- The link of each error of the chain of trust, and the error of each part as an error of the chain.
use Rattle.std.specs.Prelude.{◌≡◌, ◌⊎◌, ℕ, Option, Some, None}
use Rattle.sig_base.specs.declared.error.SigstoreError.{SigstoreError}
use Rattle.sig_base.specs.declared.error.SigstoreError.TheVariants as sigstore
use Rattle.sig_base.specs.declared.fault.TrustPart.{TrustPart}
use Rattle.sig_base.specs.declared.fault.TrustPart.TheVariants as part
use Rattle.sig_base.specs.declared.merkle_error.MerkleProofError.{MerkleProofError}
use Rattle.sig_checked_bundle.specs.declared.bundle_error.BundleErrorKind.{BundleErrorKind}
use Rattle.sig_checked_bundle.specs.declared.bundle_error.BundleErrorKind.TheVariants as bundle
use Rattle.sig_bundle.specs.declared.proof_error.ProofFieldsError.{ProofFieldsError}
use Rattle.sig_bundle.specs.declared.proof_error.ProofFieldsError.TheVariants as fields
use Rattle.sig_base.specs.declared.fault.PoolError.{PoolError}
use Rattle.sig_base.specs.declared.fault.PoolError.TheVariants as pool
use Rattle.sig_json.specs.declared.error.JsonError.{JsonError}
use Rattle.sig_json.specs.declared.error.JsonError.TheVariants as json
use Rattle.sig_json_text.specs.declared.error.CanonicalError.{CanonicalError}
use Rattle.sig_json_text.specs.declared.error.CanonicalError.TheVariants as canonical
use Rattle.sig_verify.specs.declared.error.CertificateErrorKind.{CertificateErrorKind}
use Rattle.sig_verify.specs.declared.error.CertificateErrorKind.TheVariants as certificate
use Rattle.sig_verify.specs.declared.error.SignatureErrorKind.{SignatureErrorKind}
use Rattle.sig_verify.specs.declared.error.SignatureErrorKind.TheVariants as signature
use Rattle.sig_verify.specs.declared.error.VerificationError.{VerificationError}
use Rattle.sig_verify.specs.declared.error.VerificationError.TheVariants as verification
use Rattle.sig_verify.specs.declared.link.Link.{Link}
use Rattle.sig_verify.specs.declared.link.Link.TheVariants as link
use Rattle.sig_verify.specs.declared.offline_error.OfflineError.{OfflineError}
use Rattle.sig_verify.specs.declared.offline_error.OfflineError.TheVariants as offline
use Rattle.sig_verify.specs.declared.offline_error.Part.{Part}
use Rattle.sig_verify.specs.declared.offline_error.Part.TheVariants as text

-- ---- links

abbrev pub bundle_link : BundleErrorKind → Option Link
bundle_link bundle.VerificationMaterialMissing = Some link.Material
bundle_link bundle.VerificationMaterialContentUnsupported = Some link.Material
bundle_link (bundle.TooManyCertificates count) = Some link.Certificate
bundle_link (bundle.CertificateMalformed place) = Some link.Certificate
bundle_link bundle.CertificatesMissing = Some link.Certificate
bundle_link (bundle.NoLeaf refusal) = Some link.Leaf
bundle_link bundle.RootInChain = Some link.RootInChain
bundle_link bundle.SignatureMissing = Some link.Content
bundle_link (bundle.DsseInvalidSignatureCount count) = Some link.Envelope
bundle_link bundle.DssePayloadDecode = Some link.Envelope
bundle_link (bundle.DsseTooManySubjects count) = Some link.Envelope
bundle_link (bundle.DsseTooManySubjectDigests count) = Some link.Envelope
bundle_link (bundle.DsseSubjectDigestMalformed name) = Some link.Envelope
bundle_link bundle.DsseNoRecognizedSubjectDigest = Some link.Envelope
bundle_link (bundle.TlogEntry count) = Some link.Entry
bundle_link (bundle.BundleProfile lacking) = Some link.Profile
bundle_link bundle.OutOfMemory = None

abbrev pub certificate_link : CertificateErrorKind → Option Link
certificate_link certificate.Malformed = Some link.Issuance
certificate_link certificate.VerificationFailed = Some link.Issuer
certificate_link (certificate.Sct error) = Some link.Sct
certificate_link certificate.Expired = Some link.Time

abbrev pub signature_link : SignatureErrorKind → Link
signature_link signature.AlgoUnsupported = link.Key
signature_link signature.DigestAlgorithmUnsupported = link.Signature
signature_link signature.VerificationFailed = link.Signature
signature_link signature.SubjectDigestMismatch = link.Subject
signature_link signature.Transparency = link.Body

abbrev pub link_of : OfflineError → Option Link
link_of (offline.Json text.Root why) = Some link.RootJson
link_of (offline.Json text.Bundle why) = Some link.BundleJson
link_of (offline.TrustRoot part.Fulcio) = Some link.Fulcio
link_of (offline.TrustRoot part.Ctfe) = Some link.Ctfe
link_of (offline.Anchor place) = Some link.Anchor
link_of (offline.Bundle kind) = bundle_link kind
link_of (offline.Certificate kind) = certificate_link kind
link_of (offline.Policy refusal) = Some link.Policy
link_of (offline.Signature kind) = Some (signature_link kind)
link_of offline.LogIdMissing = Some link.LogKey
link_of (offline.RekorPublicKeyNotFoundError id) = Some link.LogKey
link_of offline.KeyParsingError = Some link.LogKey
link_of offline.PublicKeyUnsupportedAlgorithmError = Some link.LogKey
link_of offline.PromiseMissing = Some link.Promise
link_of offline.PromiseInteger = Some link.Promise
link_of offline.Promise = Some link.Promise
link_of offline.ProofMissing = Some link.Proof
link_of offline.RootLength = Some link.Proof
link_of (offline.HashLength index) = Some link.Proof
link_of offline.TreeSize = Some link.Proof
link_of offline.CheckpointMissing = Some link.Proof
link_of (offline.ParseCheckpointError fault) = Some link.Checkpoint
link_of offline.CheckpointSignatureVerificationError = Some link.NoteKey
link_of (offline.ConsistencyProofError error) = Some link.NoteMatch
link_of (offline.InclusionProofError error) = Some link.Inclusion
link_of offline.OutOfMemory = None

-- ---- errors

abbrev pub of_canonical : CanonicalError → OfflineError
of_canonical canonical.IntegerTooLarge = offline.PromiseInteger
of_canonical canonical.OutOfMemory = offline.OutOfMemory

abbrev pub of_fields : ProofFieldsError → OfflineError
of_fields fields.RootLength = offline.RootLength
of_fields (fields.HashLength index) = offline.HashLength index
of_fields fields.TreeSize = offline.TreeSize
of_fields fields.CheckpointMissing = offline.CheckpointMissing
of_fields (fields.Checkpoint fault) = offline.ParseCheckpointError fault
of_fields fields.OutOfMemory = offline.OutOfMemory

-- a digest that the caller gives is not read
abbrev pub of_verification : VerificationError → OfflineError
of_verification (verification.Input _) = offline.OutOfMemory
of_verification (verification.Bundle kind) = offline.Bundle kind
of_verification (verification.Certificate kind) = offline.Certificate kind
of_verification (verification.Signature kind) = offline.Signature kind
of_verification (verification.Policy refusal) = offline.Policy refusal
of_verification verification.OutOfMemory = offline.OutOfMemory

-- a proof whose checkpoint was read has only these
abbrev pub of_proof : SigstoreError → OfflineError
of_proof (sigstore.UnexpectedError kind) = offline.CheckpointMissing
of_proof sigstore.CheckpointSignatureVerificationError = offline.CheckpointSignatureVerificationError
of_proof (sigstore.ConsistencyProofError error) = offline.ConsistencyProofError error
of_proof (sigstore.InclusionProofError error) = offline.InclusionProofError error
of_proof other = offline.OutOfMemory

abbrev pub of_json : Part → JsonError → OfflineError
of_json part json.OutOfMemory = offline.OutOfMemory
of_json part why = offline.Json part why

abbrev pub offline_of_pool : PoolError → OfflineError
offline_of_pool (pool.Anchor place) = offline.Anchor place
offline_of_pool other = offline.OutOfMemory

-- a trusted root that does not give a verifier has only these errors
abbrev pub of_root : SigstoreError → OfflineError
of_root (sigstore.TufMetadataError lacking) = offline.TrustRoot lacking
of_root (sigstore.CertificatePoolError error) = offline_of_pool error
of_root other = offline.OutOfMemory

-- ---- which errors there are

-- why a trusted root is rejected, or that memory ran out
abbrev pub IsRootRefusal : SigstoreError → Type 0
IsRootRefusal error = (error ≡ sigstore.OutOfMemory)
    ⊎ (((lacking : TrustPart) × (error ≡ sigstore.TufMetadataError lacking))
    ⊎ ((place : ℕ) × (error ≡ sigstore.CertificatePoolError (pool.Anchor place))))

-- why a proof is rejected whose checkpoint was read
abbrev pub IsProofRefusal : SigstoreError → Type 0
IsProofRefusal error = (error ≡ sigstore.CheckpointSignatureVerificationError)
    ⊎ (((why : MerkleProofError) × (error ≡ sigstore.ConsistencyProofError why))
    ⊎ ((why : MerkleProofError) × (error ≡ sigstore.InclusionProofError why)))
