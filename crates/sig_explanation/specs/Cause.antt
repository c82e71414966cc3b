-- The cause of a refusal: the names of an error's variants, the outermost first.
use Rattle.std.specs.Prelude.{ℕ, List, [], ◌∷◌}
use Rattle.sig_certificate.specs.declared.profile_error.CertificateValidationError.{CertificateValidationError}
use Rattle.sig_certificate.specs.declared.profile_error.CertificateValidationError.TheVariants as validation
use Rattle.sig_checked_bundle.specs.declared.bundle_error.BundleErrorKind.{BundleErrorKind}
use Rattle.sig_checked_bundle.specs.declared.bundle_error.BundleErrorKind.TheVariants as bundle
use Rattle.sig_checked_bundle.specs.declared.bundle_error.BundleProfileErrorKind.{BundleProfileErrorKind}
use Rattle.sig_checked_bundle.specs.declared.bundle_error.BundleProfileErrorKind.TheVariants as profile
use Rattle.sig_timestamp.specs.declared.sct_error.SCTError.{SCTError}
use Rattle.sig_timestamp.specs.declared.sct_error.SCTError.TheVariants as sct
use Rattle.sig_verify.specs.declared.error.CertificateErrorKind.{CertificateErrorKind}
use Rattle.sig_verify.specs.declared.error.CertificateErrorKind.TheVariants as certificate
use Rattle.sig_verify.specs.declared.offline_error.OfflineError.{OfflineError}
use Rattle.sig_verify.specs.declared.offline_error.OfflineError.TheVariants as offline
use Rattle.sig_explanation.specs.Names.{bundle_name, certificate_name, checkpoint_name, extension_name, json_name}
use Rattle.sig_explanation.specs.Names.{keyring_name, merkle_name, not_ca_name, not_leaf_name, offline_name}
use Rattle.sig_explanation.specs.Names.{parsing_name, policy_name, profile_01_name, profile_02_name, profile_name}
use Rattle.sig_explanation.specs.Names.{sct_name, signature_name, trust_part_name, validation_name}

-- the names after the first
abbrev pub after_validation : CertificateValidationError → List (List ℕ)
after_validation (validation.NotLeaf kind) = not_leaf_name kind ∷ []
after_validation (validation.NotCA kind) = not_ca_name kind ∷ []
after_validation (validation.Extension kind) = extension_name kind ∷ []
after_validation other = []

abbrev pub validation_cause : CertificateValidationError → List (List ℕ)
validation_cause error = validation_name error ∷ after_validation error

abbrev pub after_profile : BundleProfileErrorKind → List (List ℕ)
after_profile (profile.Bundle01Profile kind) = profile_01_name kind ∷ []
after_profile (profile.Bundle02Profile kind) = profile_02_name kind ∷ []
after_profile (profile.Unknown media_type) = []

abbrev pub profile_cause : BundleProfileErrorKind → List (List ℕ)
profile_cause error = profile_name error ∷ after_profile error

abbrev pub after_bundle : BundleErrorKind → List (List ℕ)
after_bundle (bundle.NoLeaf error) = validation_cause error
after_bundle (bundle.BundleProfile error) = profile_cause error
after_bundle other = []

abbrev pub bundle_cause : BundleErrorKind → List (List ℕ)
bundle_cause error = bundle_name error ∷ after_bundle error

abbrev pub after_sct : SCTError → List (List ℕ)
after_sct (sct.Parsing kind) = parsing_name kind ∷ []
after_sct (sct.Verification kind) = keyring_name kind ∷ []
after_sct other = []

abbrev pub sct_cause : SCTError → List (List ℕ)
sct_cause error = sct_name error ∷ after_sct error

abbrev pub after_certificate : CertificateErrorKind → List (List ℕ)
after_certificate (certificate.Sct error) = sct_cause error
after_certificate other = []

abbrev pub certificate_cause : CertificateErrorKind → List (List ℕ)
certificate_cause error = certificate_name error ∷ after_certificate error

abbrev pub after_offline : OfflineError → List (List ℕ)
after_offline (offline.Json part error) = json_name error ∷ []
after_offline (offline.TrustRoot part) = trust_part_name part ∷ []
after_offline (offline.Bundle kind) = bundle_cause kind
after_offline (offline.Certificate kind) = certificate_cause kind
after_offline (offline.Policy error) = policy_name error ∷ []
after_offline (offline.Signature kind) = signature_name kind ∷ []
after_offline (offline.ParseCheckpointError fault) = checkpoint_name fault ∷ []
after_offline (offline.ConsistencyProofError error) = merkle_name error ∷ []
after_offline (offline.InclusionProofError error) = merkle_name error ∷ []
after_offline other = []

abbrev pub cause : OfflineError → List (List ℕ)
cause error = offline_name error ∷ after_offline error
