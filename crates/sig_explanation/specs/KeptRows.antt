-- What errors keep, as members of the object of a refusal.
use Rattle.std.specs.Prelude.{ℕ, List, [], ◌∷◌, ◌++◌, codes, length, take, Bool, Some, if◌then◌else◌}
use Rattle.hex.specs.Hex.{encode_lower}
use Rattle.sig_base.specs.declared.merkle_error.MerkleProofError.{MerkleProofError}
use Rattle.sig_base.specs.declared.merkle_error.MerkleProofError.TheVariants as merkle
use Rattle.sig_json.specs.Writing.{TreeMember, list_tree, object_of}
use Rattle.sig_certificate.specs.declared.profile_error.CertificateValidationError.{CertificateValidationError}
use Rattle.sig_certificate.specs.declared.profile_error.CertificateValidationError.TheVariants as validation
use Rattle.sig_certificate.specs.declared.profile_error.ExtensionErrorKind.{ExtensionErrorKind}
use Rattle.sig_certificate.specs.declared.profile_error.ExtensionErrorKind.TheVariants as extension
use Rattle.sig_certificate.specs.declared.profile_error.NotCAErrorKind.{NotCAErrorKind}
use Rattle.sig_certificate.specs.declared.profile_error.NotCAErrorKind.TheVariants as not_ca
use Rattle.sig_certificate.specs.declared.profile_error.PartName.{PartName}
use Rattle.sig_checked_bundle.specs.declared.bundle_error.BundleErrorKind.{BundleErrorKind}
use Rattle.sig_checked_bundle.specs.declared.bundle_error.BundleErrorKind.TheVariants as bundle
use Rattle.sig_checked_bundle.specs.declared.bundle_error.BundleProfileErrorKind.{BundleProfileErrorKind}
use Rattle.sig_checked_bundle.specs.declared.bundle_error.BundleProfileErrorKind.TheVariants as profile
use Rattle.sig_dsse.specs.declared.recognized.DigestName.{DigestName}
use Rattle.sig_dsse.specs.declared.recognized.DigestName.TheVariants as digest
use Rattle.sig_json.specs.Data.{Data}
use Rattle.sig_policy.specs.Failures.{failures}
use Rattle.sig_policy.specs.declared.failure.PolicyError.{PolicyError, out-PolicyError}
use Rattle.sig_policy.specs.declared.failure.PolicyError.TheOpen as policy
use Rattle.sig_policy.specs.declared.failure.PolicyError.TheOpen.{PolicyError-F}
use Rattle.sig_policy.specs.declared.failure.PolicyErrors.{PolicyErrors}
use Rattle.sig_verify.specs.declared.offline_error.OfflineError.{OfflineError}
use Rattle.sig_verify.specs.declared.offline_error.OfflineError.TheVariants as offline
use Rattle.sig_explanation.specs.Names.{part_name, policy_name}
use Rattle.sig_shown.specs.ShownValues.{count_row, shown_rows, text_row, texts_row}

-- ---- trees of logs

abbrev pub merkle_rows : MerkleProofError → List TreeMember
merkle_rows (merkle.MismatchedRoot expected got) =
    text_row (codes "expected") (encode_lower expected.root) ∷ text_row (codes "got") (encode_lower got.root) ∷ []
merkle_rows (merkle.NewTreeSmaller new old) = count_row (codes "new") new ∷ count_row (codes "old") old ∷ []
merkle_rows (merkle.WrongProofSize got want) = count_row (codes "got") got ∷ count_row (codes "want") want ∷ []
merkle_rows other = []

-- ---- bundles

abbrev pub extension_part : ExtensionErrorKind → PartName
extension_part (extension.Missing part) = part
extension_part (extension.NotCritical part) = part
extension_part (extension.BitUnset part) = part

-- which of the two are set that an authority sets together
abbrev pub authority_bits : Bool → Bool → List (List ℕ)
authority_bits ca key_cert_sign =
    (if ca then codes "cA" ∷ [] else []) ++ (if key_cert_sign then codes "keyCertSign" ∷ [] else [])

abbrev pub not_ca_rows : NotCAErrorKind → List TreeMember
not_ca_rows (not_ca.Invalid ca key_cert_sign) = texts_row (codes "set") (authority_bits ca key_cert_sign) ∷ []
not_ca_rows other = []

abbrev pub validation_rows : CertificateValidationError → List TreeMember
validation_rows (validation.NotCA kind) = not_ca_rows kind
validation_rows (validation.Extension kind) = text_row (codes "part") (part_name (extension_part kind)) ∷ []
validation_rows other = []

abbrev pub profile_rows : BundleProfileErrorKind → List TreeMember
profile_rows (profile.Unknown media_type) = shown_rows (codes "mediaType") (codes "mediaTypeLength") media_type
profile_rows other = []

abbrev pub digest_name : DigestName → List ℕ
digest_name digest.Sha256 = codes "sha256"
digest_name digest.Sha512 = codes "sha512"

abbrev pub bundle_rows : BundleErrorKind → List TreeMember
bundle_rows (bundle.TooManyCertificates count) = count_row (codes "count") count ∷ []
bundle_rows (bundle.CertificateMalformed place) = count_row (codes "index") place ∷ []
bundle_rows (bundle.NoLeaf error) = validation_rows error
bundle_rows (bundle.DsseInvalidSignatureCount count) = count_row (codes "count") count ∷ []
bundle_rows (bundle.DsseTooManySubjects count) = count_row (codes "count") count ∷ []
bundle_rows (bundle.DsseTooManySubjectDigests count) = count_row (codes "count") count ∷ []
bundle_rows (bundle.DsseSubjectDigestMalformed name) = text_row (codes "algorithm") (digest_name name) ∷ []
bundle_rows (bundle.TlogEntry count) = count_row (codes "count") count ∷ []
bundle_rows (bundle.BundleProfile error) = profile_rows error
bundle_rows other = []

-- ---- policies

-- what was asked for, and what the certificate says
abbrev pub comparison_rows : List ℕ → List ℕ → List ℕ → List TreeMember
comparison_rows extension expected actual =
    shown_rows (codes "extension") (codes "extensionLength") extension
    ++ (shown_rows (codes "expected") (codes "expectedLength") expected
    ++ shown_rows (codes "actual") (codes "actualLength") actual)

-- a refusal without those that it holds
abbrev pub opened_policy_rows : PolicyError-F PolicyError PolicyErrors → List TreeMember
opened_policy_rows policy.ExtensionNotFound = []
opened_policy_rows (policy.ExtensionCheckFailed extension expected actual) = comparison_rows extension expected actual
opened_policy_rows (policy.AllOf total errors) =
    count_row (codes "total") total ∷ count_row (codes "failed") (length (failures errors)) ∷ []
opened_policy_rows (policy.AnyOf total) = count_row (codes "total") total ∷ []
opened_policy_rows policy.OutOfMemory = []

abbrev pub one_policy_rows : PolicyError → List TreeMember
one_policy_rows error = opened_policy_rows (out-PolicyError error)

-- a refusal in the list of another one
abbrev pub inner_policy_rows : PolicyError → List TreeMember
inner_policy_rows error = texts_row (codes "cause") (policy_name error ∷ []) ∷ one_policy_rows error

unfoldable pub inner_policy_tree : PolicyError → Data
inner_policy_tree error = object_of (inner_policy_rows error)

-- the greatest number of refusals of a list that are shown
abbrev pub most_refusals : ℕ
most_refusals = 64

unfoldable pub inner_policy_trees : List PolicyError → Data
inner_policy_trees errors = list_tree inner_policy_tree (take most_refusals errors)

abbrev pub opened_inner_rows : PolicyError-F PolicyError PolicyErrors → List TreeMember
opened_inner_rows (policy.AllOf total errors) = (codes "refusals", Some (inner_policy_trees (failures errors))) ∷ []
opened_inner_rows other = []

abbrev pub policy_rows : PolicyError → List TreeMember
policy_rows error = one_policy_rows error ++ opened_inner_rows (out-PolicyError error)

-- ---- all

abbrev pub kept_rows : OfflineError → List TreeMember
kept_rows (offline.Anchor place) = count_row (codes "index") place ∷ []
kept_rows (offline.Bundle kind) = bundle_rows kind
kept_rows (offline.Policy error) = policy_rows error
kept_rows (offline.RekorPublicKeyNotFoundError id) = shown_rows (codes "logId") (codes "logIdLength") id
kept_rows (offline.HashLength index) = count_row (codes "index") index ∷ []
kept_rows (offline.ConsistencyProofError error) = merkle_rows error
kept_rows (offline.InclusionProofError error) = merkle_rows error
kept_rows other = []
