-- What is shown of a bundle, and, for private clauses, its verdict beside it.
use Rattle.std.specs.Prelude.{◌≡◌, Some, Ok, Err}
use Rattle.sig_explain_gate.specs.declared.bundle.Finding.{Finding}
use Rattle.sig_explain_verify.specs.Inputs.{Inputs as Explained}
use Rattle.sig_explain_verify.specs.RefusedTree.{IsRefusedTree}
use Rattle.sig_explain_verify.specs.Verified.{IsVerifiedTree}
use Rattle.sig_gate.specs.BundleVerdict.{IsJudged, outside, verdict_of}
use Rattle.sig_gate.specs.declared.verdict.BundleVerdict.{BundleVerdict}
use Rattle.sig_gate.specs.declared.verdict.BundleVerdict.TheVariants.{Refused}
use Rattle.sig_gate_command.specs.Reply.{checker_with}
use Rattle.sig_json.specs.Data.{Data}
use Rattle.sig_json.specs.Tree.{document_tree}
use Rattle.sig_verify.specs.Links.{Inputs, Outside}
use Rattle.sig_verify.specs.OfflineErrors.{link_of}
use Rattle.sig_verify.specs.OfflineVerdict.{IsOffline, Outcome}
use Rattle.sig_verify.specs.declared.link.Link.{Link}
use Rattle.sig_verify.specs.declared.offline_error.OfflineError.{OfflineError}

-- the same inputs as the chain of trust has them, without policy and accepted signatures
abbrev pub chain_inputs : Explained → Inputs
chain_inputs i = record { root = i.root; now = i.now; digest = i.digest; bundle = i.bundle }

-- what the chain of trust asks outside: its policy, and which signatures are genuine
abbrev pub chain_outside : Explained → Outside
chain_outside i = outside (checker_with i.accepted) i.policy

-- the object of what was verified, or of the refusal
abbrev pub IsOutcomeTree : Explained → Outcome → Data → Type 0
IsOutcomeTree i (Ok entry) tree = IsVerifiedTree i entry tree
IsOutcomeTree i (Err error) tree = IsRefusedTree i error tree

-- The tree of a bundle with the verdict on it: every link of the chain of trust holds, and the entry is the bundle's,
-- or this link is the first that fails; a result of offline verification says so; and the tree shows that result.
pub record IsBundleShown (i : Explained) (verdict : BundleVerdict) (tree : Data) : Type 0 where
  pub links : IsJudged (chain_outside i) (chain_inputs i) verdict
  pub result : Outcome
  pub offline : IsOffline (chain_outside i).checker (chain_outside i).policy i.root i.now i.digest i.bundle result
  pub said : verdict_of result ≡ Some verdict
  pub shown : IsOutcomeTree i result tree

-- ---- for private clauses

abbrev pub IsFoundHere : Explained → Finding → Type 0
IsFoundHere i found = IsBundleShown i found.verdict (document_tree found.document)

-- the verdict by the link of this error, and its tree
pub record IsRefusedHere (i : Explained) (error : OfflineError) (found : Finding) : Type 0 where
  pub link : Link
  pub named : link_of error ≡ Some link
  pub verdict : found.verdict ≡ Refused link
  pub shown : IsRefusedTree i error (document_tree found.document)
