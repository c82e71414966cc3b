-- What a bundle's media type requires of its log entries (sigstore_bundle.proto, the comments on media_type and
-- tlog_entries).
use Rattle.std.specs.Prelude.{ℕ, List, [], ◌∷◌, length, Option, Some, None, Result, Ok, Err}
use Rattle.sig_checked_bundle.specs.declared.bundle_error.BundleErrorKind.{BundleErrorKind}
use Rattle.sig_checked_bundle.specs.declared.bundle_error.BundleErrorKind.TheVariants.{TlogEntry, BundleProfile}
use Rattle.sig_checked_bundle.specs.declared.bundle_error.BundleProfileErrorKind.{BundleProfileErrorKind}
use Rattle.sig_checked_bundle.specs.declared.bundle_error.BundleProfileErrorKind.TheVariants.{Bundle01Profile}
use Rattle.sig_checked_bundle.specs.declared.bundle_error.BundleProfileErrorKind.TheVariants.{Bundle02Profile, Unknown}
use Rattle.sig_checked_bundle.specs.declared.bundle_error.Bundle01ProfileErrorKind.TheVariants.{InclusionPromiseMissing}
use Rattle.sig_checked_bundle.specs.declared.bundle_error.Bundle02ProfileErrorKind.TheVariants.{InclusionProofMissing}
use Rattle.sig_checked_bundle.specs.declared.bundle_error.Bundle02ProfileErrorKind.TheVariants.{CheckpointMissing}
use Rattle.sig_bundle.specs.declared.material.ProofFields.{ProofFields}
use Rattle.sig_bundle.specs.declared.material.TransparencyLogEntry.{TransparencyLogEntry}
use Rattle.sig_checked_bundle.specs.declared.version.Version.{Version}
use Rattle.sig_checked_bundle.specs.declared.version.Version.TheVariants.{Bundle0_1, Bundle0_2, Bundle0_3}
use Rattle.sig_checked_bundle.specs.Version.{version_of}

-- the one log entry
abbrev pub entry_among : List TransparencyLogEntry → Result TransparencyLogEntry BundleErrorKind
entry_among [] = Err (TlogEntry 0)
entry_among (entry ∷ []) = Ok entry
entry_among (entry ∷ other ∷ others) = Err (TlogEntry (length (entry ∷ other ∷ others)))

abbrev pub lacks_checkpoint : Option (List ℕ) → Option BundleProfileErrorKind
lacks_checkpoint None = Some (Bundle02Profile CheckpointMissing)
lacks_checkpoint (Some checkpoint) = None

-- an inclusion proof, with a checkpoint
abbrev pub lacks_proof : Option ProofFields → Option BundleProfileErrorKind
lacks_proof None = Some (Bundle02Profile InclusionProofMissing)
lacks_proof (Some proof) = lacks_checkpoint proof.checkpoint

-- the promise of the log to include the entry
abbrev pub lacks_promise : Option (List ℕ) → Option BundleProfileErrorKind
lacks_promise None = Some (Bundle01Profile InclusionPromiseMissing)
lacks_promise (Some promise) = None

-- the first that the entry lacks of what the version requires
abbrev pub lacks : Version → TransparencyLogEntry → Option BundleProfileErrorKind
lacks Bundle0_1 entry = lacks_promise entry.inclusion_promise
lacks Bundle0_2 entry = lacks_proof entry.inclusion_proof
lacks Bundle0_3 entry = lacks_proof entry.inclusion_proof

abbrev pub unless_lacking : Option BundleProfileErrorKind → Result (Unit {0}) BundleErrorKind
unless_lacking None = Ok tt
unless_lacking (Some lacking) = Err (BundleProfile lacking)

-- the entry has what the version requires; a media type that does not name a version is unknown
abbrev pub meets_version : List ℕ → Option Version → TransparencyLogEntry → Result (Unit {0}) BundleErrorKind
meets_version media_type None entry = Err (BundleProfile (Unknown media_type))
meets_version media_type (Some version) entry = unless_lacking (lacks version entry)

-- the entry has what the media type requires
abbrev pub meets_profile : List ℕ → TransparencyLogEntry → Result (Unit {0}) BundleErrorKind
meets_profile media_type entry = meets_version media_type (version_of media_type) entry
