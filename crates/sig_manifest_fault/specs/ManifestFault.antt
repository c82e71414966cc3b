-- What is wrong with a text that has to be a manifest.
use Rattle.std.specs.Prelude.{◌≤◌, ℕ, List, [], ◌∷◌, codes, length, Option, Some, None, Result, Ok, Err}
use Rattle.sig_base.specs.OptionSteps.{or_else}
use Rattle.sig_manifest.specs.Read.{IsManifestWith, Parts, manifest_in}
use Rattle.sig_manifest.specs.declared.error.ManifestError.{ManifestError}
use Rattle.sig_manifest.specs.declared.error.ManifestError.TheVariants.{UnknownRoot, UnknownPolicy}
use Rattle.sig_manifest_fault.specs.ManifestTable.{manifest_table}
use Rattle.sig_request.specs.Limit.{most_bytes}
use Rattle.sig_request_fault.specs.RequestFault.{request_fault_in}
use Rattle.sig_request_fault.specs.declared.fault.RequestFault.{RequestFault}
use Rattle.sig_request_fault.specs.declared.fault.RequestFault.TheVariants.{Document}
use Rattle.sig_table.specs.declared.fault.Cause.TheVariants.{BeyondRange}
use Rattle.sig_table.specs.declared.fault.DocumentFault.TheVariants.{Member}
use Rattle.sig_table.specs.declared.fault.MemberFault.{MemberFault}
use Rattle.sig_table.specs.declared.path.Step.TheVariants.{Name, Index}

-- ---- what artifacts name

-- the member of this name of the artifact at this place: what it names is not there
abbrev pub member_of_artifact : ℕ → List ℕ → MemberFault
member_of_artifact place name = record {
  path = Name (codes "artifacts") ∷ Index place ∷ Name name ∷ [];
  cause = BeyondRange;
}

abbrev pub at_artifact : ℕ → List ℕ → Option RequestFault
at_artifact place name = Some (Document (Member (member_of_artifact place name)))

-- the first name that is not there, of a text that is a manifest except for what its artifacts name
abbrev pub unknown_fault : Result Parts ManifestError → Option RequestFault
unknown_fault (Ok parts) = None
unknown_fault (Err (UnknownRoot place)) = at_artifact place (codes "root")
unknown_fault (Err (UnknownPolicy place)) = at_artifact place (codes "policy")
unknown_fault (Err other) = None

-- ---- a text

-- the first fault by the table, or else the first name that is not there
unfoldable pub manifest_fault_in : List ℕ → Option RequestFault
manifest_fault_in text = or_else (request_fault_in manifest_table text) (unknown_fault (manifest_in text))

-- the text is a manifest, whichever it is, and has at most 2^24 bytes
pub record IsManifest (text : List ℕ) : Type 0 where
  pub parts : Parts
  pub short : length text ≤ most_bytes
  pub is : IsManifestWith text parts
