-- *Gate explanation*: what `explain gate` shows of a request's text.
use Rattle.std.specs.Prelude.{◌≡◌, ◌⊎◌, ℕ, List, [], Option, Some, None}
use Rattle.sig_json.specs.Writing.{object_of}
use Rattle.sig_explain_gate.specs.Artifact.{IsGateTree}
use Rattle.sig_explain_log.specs.Request.{request_tree}
use Rattle.sig_gate_command.specs.Reply.{HasManifest}
use Rattle.sig_gate_command.specs.Request.{IsGateText, IsUnread}
use Rattle.sig_json.specs.Data.{Data}
use Rattle.sig_manifest.specs.Read.{Parts}
use Rattle.sig_manifest_fault.specs.ManifestFault.{manifest_fault_in}
use Rattle.sig_request_fault.specs.declared.fault.RequestFault.{RequestFault}

-- what is wrong with a text that is not a manifest; such a text has a fault
abbrev pub unread_tree : Option RequestFault → Data
unread_tree None = object_of []
unread_tree (Some fault) = request_tree fault

-- For a manifest, what is shown of its artifacts; for any other text, what is wrong with it.
pub record IsGateExplanation (text : List ℕ) (tree : Data) : Type 0 where
  pub decided : HasManifest text ⊎ IsUnread text
  pub manifest : (parts : Parts) → IsGateText text parts → IsGateTree parts tree
  pub refused : IsUnread text → tree ≡ unread_tree (manifest_fault_in text)
