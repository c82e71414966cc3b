-- The request of `gate`: a text that is a manifest.
use Rattle.std.specs.Prelude.{ℕ, ◌≤◌, List, length, Option, Some, None}
use Rattle.sig_gate_command.specs.declared.request.GateRequest.{GateRequest}
use Rattle.sig_manifest.specs.Manifest.{manifest_view}
use Rattle.sig_manifest.specs.Read.{IsManifestWith, Parts}
use Rattle.sig_request.specs.Limit.{most_bytes}

-- the text is this manifest with these accepted signatures, and has at most 2^24 bytes
pub record IsGateText (text : List ℕ) (parts : Parts) : Type 0 where
  pub short : length text ≤ most_bytes
  pub is : IsManifestWith text parts

-- the text is not a manifest
abbrev pub IsUnread : List ℕ → Type 0
IsUnread text = (parts : Parts) → ¬ IsGateText text parts

-- for private clauses: the parts of a request
abbrev pub parts_of : GateRequest → Parts
parts_of request = (manifest_view request.manifest, request.accepted)

-- for private clauses: a request, if and only if the text is one
abbrev pub IsReadFrom : List ℕ → Option GateRequest → Type 0
IsReadFrom text None = IsUnread text
IsReadFrom text (Some request) = IsGateText text (parts_of request)
