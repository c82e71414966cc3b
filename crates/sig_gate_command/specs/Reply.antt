-- *Gate*: the reply of `gate` to a manifest.
use Rattle.std.specs.Prelude.{◌≡◌, ◌⊎◌, ◌↔◌, ℕ, List, [], if◌then◌else◌}
use Rattle.std.specs.List.{AllZip, list_all}
use Rattle.sig_base.specs.Checker.{accepted}
use Rattle.sig_base.specs.Scheme.{name_of}
use Rattle.sig_base.specs.declared.checker.AcceptedRow.{AcceptedRow}
use Rattle.sig_base.specs.declared.checker.Operation.TheVariants.{Message, Prehash, Point, Certificate}
use Rattle.sig_gate.specs.BundleVerdict.{IsJudged}
use Rattle.sig_gate.specs.Gate.{IsDecided, OfBundle}
use Rattle.sig_gate.specs.Report.{is_admitted, report_text}
use Rattle.sig_gate.specs.declared.verdict.BundleVerdict.{BundleVerdict}
use Rattle.sig_gate.specs.declared.verdict.Verdict.{Verdict}
use Rattle.sig_gate_command.specs.Request.{IsGateText, IsUnread}
use Rattle.sig_manifest.specs.Artifact.{Asked}
use Rattle.sig_manifest.specs.Manifest.{Gate}
use Rattle.sig_manifest.specs.Read.{Parts}
use Rattle.sig_reply.specs.Reply.{no_request}
use Rattle.sig_reply.specs.declared.reply.Reply.{Reply}
use Rattle.sig_verify.specs.Verdict.{Checker}

-- a signature is genuine if and only if there is a row of it
abbrev pub checker_with : List AcceptedRow → Checker
checker_with rows = record {
  spki = λ scheme spki message signature. accepted rows Message (name_of scheme) spki message signature;
  prehash = λ scheme spki digest signature. accepted rows Prehash (name_of scheme) spki digest signature;
  point = λ point message signature. accepted rows Point [] point message signature;
  cert = λ issuer algorithm tbs signature. accepted rows Certificate algorithm issuer tbs signature;
}

-- the verdict on a bundle: every link of the chain of trust holds, under the trusted root and the policy that the artifact
-- names, and the entry is the bundle's; or this link is the first that fails
abbrev pub IsBundleJudged : Checker → Gate → Asked → List ℕ → BundleVerdict → Type 0
IsBundleJudged k gate x bundle verdict = OfBundle k gate x bundle (λ o i. IsJudged o i verdict)

-- the verdict on an artifact: it is admitted if and only if some bundle of it is verified and its rule holds of those that
-- are
pub record IsArtifactJudged (k : Checker) (gate : Gate) (x : Asked) (verdict : Verdict) : Type 0 where
  pub bundles : AllZip (IsBundleJudged k gate x) x.bundles verdict.bundles
  pub decided : IsDecided k gate x verdict.admitted

-- one verdict on each artifact in order
abbrev pub AreJudged : Checker → Gate → List Verdict → Type 0
AreJudged k gate verdicts = AllZip (IsArtifactJudged k gate) gate.artifacts verdicts

-- the report; the status is 0 if and only if all are admitted
abbrev pub reported : List Asked → List Verdict → Reply
reported artifacts verdicts = record {
  status = if list_all is_admitted verdicts then 0 else 1;
  text = report_text artifacts verdicts;
}

-- the reply to a manifest: the report of the verdicts by its accepted signatures
pub record IsReportOf (parts : Parts) (reply : Reply) : Type 0 where
  pub verdicts : List Verdict
  pub are : AreJudged (checker_with parts.1) parts.0 verdicts
  pub made : reply ≡ reported parts.0.artifacts verdicts

pub record HasManifest (text : List ℕ) : Type 0 where
  pub parts : Parts
  pub is : IsGateText text parts

-- *Gate*: the reply to a text. It is `refused request` if and only if the text is not a manifest.
pub record IsGateReply (text : List ℕ) (reply : Reply) : Type 0 where
  pub decided : HasManifest text ⊎ IsUnread text
  pub replied : (parts : Parts) → IsGateText text parts → IsReportOf parts reply
  pub refused : IsUnread text → reply ≡ no_request
  pub status : (reply.status ≡ 2) ↔ IsUnread text
