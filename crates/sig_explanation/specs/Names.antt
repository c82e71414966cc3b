-- The names of the variants of errors.
use Rattle.std.specs.Prelude.{ℕ, List, codes}
use Rattle.sig_base.specs.declared.fault.CheckpointFault.TheVariants as checkpoint
use Rattle.sig_base.specs.declared.fault.CheckpointFault.{CheckpointFault}
use Rattle.sig_base.specs.declared.fault.TrustPart.TheVariants as trust_part
use Rattle.sig_base.specs.declared.fault.TrustPart.{TrustPart}
use Rattle.sig_base.specs.declared.merkle_error.MerkleProofError.TheVariants as merkle
use Rattle.sig_base.specs.declared.merkle_error.MerkleProofError.{MerkleProofError}
use Rattle.sig_certificate.specs.declared.profile_error.CertificateValidationError.TheVariants as validation
use Rattle.sig_certificate.specs.declared.profile_error.CertificateValidationError.{CertificateValidationError}
use Rattle.sig_certificate.specs.declared.profile_error.ExtensionErrorKind.TheVariants as extension
use Rattle.sig_certificate.specs.declared.profile_error.ExtensionErrorKind.{ExtensionErrorKind}
use Rattle.sig_certificate.specs.declared.profile_error.NotCAErrorKind.TheVariants as not_ca
use Rattle.sig_certificate.specs.declared.profile_error.NotCAErrorKind.{NotCAErrorKind}
use Rattle.sig_certificate.specs.declared.profile_error.NotLeafErrorKind.TheVariants as not_leaf
use Rattle.sig_certificate.specs.declared.profile_error.NotLeafErrorKind.{NotLeafErrorKind}
use Rattle.sig_certificate.specs.declared.profile_error.PartName.TheVariants as part
use Rattle.sig_certificate.specs.declared.profile_error.PartName.{PartName}
use Rattle.sig_checked_bundle.specs.declared.bundle_error.Bundle01ProfileErrorKind.TheVariants as profile_01
use Rattle.sig_checked_bundle.specs.declared.bundle_error.Bundle01ProfileErrorKind.{Bundle01ProfileErrorKind}
use Rattle.sig_checked_bundle.specs.declared.bundle_error.Bundle02ProfileErrorKind.TheVariants as profile_02
use Rattle.sig_checked_bundle.specs.declared.bundle_error.Bundle02ProfileErrorKind.{Bundle02ProfileErrorKind}
use Rattle.sig_checked_bundle.specs.declared.bundle_error.BundleErrorKind.TheVariants as bundle
use Rattle.sig_checked_bundle.specs.declared.bundle_error.BundleErrorKind.{BundleErrorKind}
use Rattle.sig_checked_bundle.specs.declared.bundle_error.BundleProfileErrorKind.TheVariants as profile
use Rattle.sig_checked_bundle.specs.declared.bundle_error.BundleProfileErrorKind.{BundleProfileErrorKind}
use Rattle.sig_json.specs.declared.error.JsonError.TheVariants as json
use Rattle.sig_json.specs.declared.error.JsonError.{JsonError}
use Rattle.sig_policy.specs.declared.failure.PolicyError.TheOpen as policy
use Rattle.sig_policy.specs.declared.failure.PolicyError.TheOpen.{PolicyError-F}
use Rattle.sig_policy.specs.declared.failure.PolicyError.{PolicyError, out-PolicyError}
use Rattle.sig_policy.specs.declared.failure.PolicyErrors.{PolicyErrors}
use Rattle.sig_timestamp.specs.declared.keyring_error.KeyringError.TheVariants as keyring
use Rattle.sig_timestamp.specs.declared.keyring_error.KeyringError.{KeyringError}
use Rattle.sig_timestamp.specs.declared.sct_error.CertificateErrorKind.TheVariants as parsing
use Rattle.sig_timestamp.specs.declared.sct_error.CertificateErrorKind.{CertificateErrorKind as ParsingKind}
use Rattle.sig_timestamp.specs.declared.sct_error.SCTError.TheVariants as sct
use Rattle.sig_timestamp.specs.declared.sct_error.SCTError.{SCTError}
use Rattle.sig_verify.specs.declared.error.CertificateErrorKind.TheVariants as certificate
use Rattle.sig_verify.specs.declared.error.CertificateErrorKind.{CertificateErrorKind}
use Rattle.sig_verify.specs.declared.error.SignatureErrorKind.TheVariants as signature
use Rattle.sig_verify.specs.declared.error.SignatureErrorKind.{SignatureErrorKind}
use Rattle.sig_verify.specs.declared.offline_error.OfflineError.TheVariants as offline
use Rattle.sig_verify.specs.declared.offline_error.OfflineError.{OfflineError}

abbrev pub offline_name : OfflineError → List ℕ
offline_name (offline.Json _ _) = codes "Json"
offline_name (offline.TrustRoot _) = codes "TrustRoot"
offline_name (offline.Anchor _) = codes "Anchor"
offline_name (offline.Bundle _) = codes "Bundle"
offline_name (offline.Certificate _) = codes "Certificate"
offline_name (offline.Policy _) = codes "Policy"
offline_name (offline.Signature _) = codes "Signature"
offline_name offline.LogIdMissing = codes "LogIdMissing"
offline_name (offline.RekorPublicKeyNotFoundError _) = codes "RekorPublicKeyNotFoundError"
offline_name offline.KeyParsingError = codes "KeyParsingError"
offline_name offline.PublicKeyUnsupportedAlgorithmError = codes "PublicKeyUnsupportedAlgorithmError"
offline_name offline.PromiseMissing = codes "PromiseMissing"
offline_name offline.PromiseInteger = codes "PromiseInteger"
offline_name offline.Promise = codes "Promise"
offline_name offline.ProofMissing = codes "ProofMissing"
offline_name offline.RootLength = codes "RootLength"
offline_name (offline.HashLength _) = codes "HashLength"
offline_name offline.TreeSize = codes "TreeSize"
offline_name offline.CheckpointMissing = codes "CheckpointMissing"
offline_name (offline.ParseCheckpointError _) = codes "ParseCheckpointError"
offline_name offline.CheckpointSignatureVerificationError = codes "CheckpointSignatureVerificationError"
offline_name (offline.ConsistencyProofError _) = codes "ConsistencyProofError"
offline_name (offline.InclusionProofError _) = codes "InclusionProofError"
offline_name offline.OutOfMemory = codes "OutOfMemory"

abbrev pub json_name : JsonError → List ℕ
json_name json.NotJson = codes "NotJson"
json_name json.Float = codes "Float"
json_name json.Member = codes "Member"
json_name json.OutOfMemory = codes "OutOfMemory"

abbrev pub trust_part_name : TrustPart → List ℕ
trust_part_name trust_part.Fulcio = codes "Fulcio"
trust_part_name trust_part.Ctfe = codes "Ctfe"

abbrev pub bundle_name : BundleErrorKind → List ℕ
bundle_name bundle.VerificationMaterialMissing = codes "VerificationMaterialMissing"
bundle_name bundle.VerificationMaterialContentUnsupported = codes "VerificationMaterialContentUnsupported"
bundle_name (bundle.TooManyCertificates _) = codes "TooManyCertificates"
bundle_name (bundle.CertificateMalformed _) = codes "CertificateMalformed"
bundle_name bundle.CertificatesMissing = codes "CertificatesMissing"
bundle_name (bundle.NoLeaf _) = codes "NoLeaf"
bundle_name bundle.RootInChain = codes "RootInChain"
bundle_name bundle.SignatureMissing = codes "SignatureMissing"
bundle_name (bundle.DsseInvalidSignatureCount _) = codes "DsseInvalidSignatureCount"
bundle_name bundle.DssePayloadDecode = codes "DssePayloadDecode"
bundle_name (bundle.DsseTooManySubjects _) = codes "DsseTooManySubjects"
bundle_name (bundle.DsseTooManySubjectDigests _) = codes "DsseTooManySubjectDigests"
bundle_name (bundle.DsseSubjectDigestMalformed _) = codes "DsseSubjectDigestMalformed"
bundle_name bundle.DsseNoRecognizedSubjectDigest = codes "DsseNoRecognizedSubjectDigest"
bundle_name (bundle.TlogEntry _) = codes "TlogEntry"
bundle_name (bundle.BundleProfile _) = codes "BundleProfile"
bundle_name bundle.OutOfMemory = codes "OutOfMemory"

abbrev pub validation_name : CertificateValidationError → List ℕ
validation_name validation.VersionUnsupported = codes "VersionUnsupported"
validation_name validation.Malformed = codes "Malformed"
validation_name (validation.NotLeaf _) = codes "NotLeaf"
validation_name (validation.NotCA _) = codes "NotCA"
validation_name (validation.Extension _) = codes "Extension"

abbrev pub not_leaf_name : NotLeafErrorKind → List ℕ
not_leaf_name not_leaf.IsCA = codes "IsCA"

abbrev pub not_ca_name : NotCAErrorKind → List ℕ
not_ca_name not_ca.NotCA = codes "NotCA"
not_ca_name not_ca.NotRootCA = codes "NotRootCA"
not_ca_name (not_ca.Invalid _ _) = codes "Invalid"

abbrev pub extension_name : ExtensionErrorKind → List ℕ
extension_name (extension.Missing _) = codes "Missing"
extension_name (extension.NotCritical _) = codes "NotCritical"
extension_name (extension.BitUnset _) = codes "BitUnset"

abbrev pub part_name : PartName → List ℕ
part_name part.BasicConstraints = codes "BasicConstraints"
part_name part.KeyUsage = codes "KeyUsage"
part_name part.KeyUsageDigitalSignature = codes "KeyUsageDigitalSignature"
part_name part.ExtendedKeyUsage = codes "ExtendedKeyUsage"
part_name part.ExtendedKeyUsageDigitalSignature = codes "ExtendedKeyUsageDigitalSignature"

abbrev pub profile_name : BundleProfileErrorKind → List ℕ
profile_name (profile.Bundle01Profile _) = codes "Bundle01Profile"
profile_name (profile.Bundle02Profile _) = codes "Bundle02Profile"
profile_name (profile.Unknown _) = codes "Unknown"

abbrev pub profile_01_name : Bundle01ProfileErrorKind → List ℕ
profile_01_name profile_01.InclusionPromiseMissing = codes "InclusionPromiseMissing"

abbrev pub profile_02_name : Bundle02ProfileErrorKind → List ℕ
profile_02_name profile_02.InclusionProofMissing = codes "InclusionProofMissing"
profile_02_name profile_02.CheckpointMissing = codes "CheckpointMissing"

abbrev pub certificate_name : CertificateErrorKind → List ℕ
certificate_name certificate.Malformed = codes "Malformed"
certificate_name certificate.Expired = codes "Expired"
certificate_name (certificate.Sct _) = codes "Sct"
certificate_name certificate.VerificationFailed = codes "VerificationFailed"

abbrev pub sct_name : SCTError → List ℕ
sct_name (sct.Parsing _) = codes "Parsing"
sct_name sct.Serialization = codes "Serialization"
sct_name (sct.Verification _) = codes "Verification"
sct_name sct.OutOfMemory = codes "OutOfMemory"

abbrev pub parsing_name : ParsingKind → List ℕ
parsing_name parsing.LeafSCTMissing = codes "LeafSCTMissing"
parsing_name parsing.IssuerMissing = codes "IssuerMissing"
parsing_name parsing.LeafSCTMalformed = codes "LeafSCTMalformed"

abbrev pub keyring_name : KeyringError → List ℕ
keyring_name keyring.KeyMalformed = codes "KeyMalformed"
keyring_name keyring.AlgoUnsupported = codes "AlgoUnsupported"
keyring_name keyring.KeyNotFound = codes "KeyNotFound"
keyring_name keyring.VerificationFailed = codes "VerificationFailed"
keyring_name keyring.OutOfMemory = codes "OutOfMemory"

abbrev pub signature_name : SignatureErrorKind → List ℕ
signature_name signature.AlgoUnsupported = codes "AlgoUnsupported"
signature_name signature.VerificationFailed = codes "VerificationFailed"
signature_name signature.Transparency = codes "Transparency"
signature_name signature.SubjectDigestMismatch = codes "SubjectDigestMismatch"
signature_name signature.DigestAlgorithmUnsupported = codes "DigestAlgorithmUnsupported"

abbrev pub checkpoint_name : CheckpointFault → List ℕ
checkpoint_name checkpoint.Format = codes "Format"
checkpoint_name checkpoint.NoDash = codes "NoDash"
checkpoint_name checkpoint.SignatureFormat = codes "SignatureFormat"
checkpoint_name checkpoint.SignatureBase64 = codes "SignatureBase64"
checkpoint_name checkpoint.SignatureLength = codes "SignatureLength"
checkpoint_name checkpoint.NoteFormat = codes "NoteFormat"
checkpoint_name checkpoint.EmptyOrigin = codes "EmptyOrigin"
checkpoint_name checkpoint.Size = codes "Size"
checkpoint_name checkpoint.HashBase64 = codes "HashBase64"
checkpoint_name checkpoint.HashLength = codes "HashLength"

abbrev pub merkle_name : MerkleProofError → List ℕ
merkle_name (merkle.MismatchedRoot _ _) = codes "MismatchedRoot"
merkle_name merkle.IndexGtTreeSize = codes "IndexGtTreeSize"
merkle_name merkle.UnexpectedNonEmptyProof = codes "UnexpectedNonEmptyProof"
merkle_name merkle.UnexpectedEmptyProof = codes "UnexpectedEmptyProof"
merkle_name (merkle.NewTreeSmaller _ _) = codes "NewTreeSmaller"
merkle_name (merkle.WrongProofSize _ _) = codes "WrongProofSize"
merkle_name merkle.WrongEmptyTreeHash = codes "WrongEmptyTreeHash"

-- a refusal of a list of policies holds refusals of policies
abbrev pub opened_policy_name : PolicyError-F PolicyError PolicyErrors → List ℕ
opened_policy_name policy.ExtensionNotFound = codes "ExtensionNotFound"
opened_policy_name (policy.ExtensionCheckFailed _ _ _) = codes "ExtensionCheckFailed"
opened_policy_name (policy.AllOf _ _) = codes "AllOf"
opened_policy_name (policy.AnyOf _) = codes "AnyOf"
opened_policy_name policy.OutOfMemory = codes "OutOfMemory"

abbrev pub policy_name : PolicyError → List ℕ
policy_name error = opened_policy_name (out-PolicyError error)
