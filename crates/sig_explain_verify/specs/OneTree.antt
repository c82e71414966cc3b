-- *One tree*: whatever result of offline verification of the same inputs is shown, it is shown as one tree.
use Rattle.std.specs.Prelude.{◌≡◌, Some, Ok, Err}
use Rattle.sig_explain_verify.specs.Inputs.{Inputs}
use Rattle.sig_explain_verify.specs.RefusedTree.{IsRefusedTree}
use Rattle.sig_explain_verify.specs.Verified.{IsVerifiedTree}
use Rattle.sig_json.specs.Data.{Data}
use Rattle.sig_verify.specs.OfflineErrors.{link_of}
use Rattle.sig_verify.specs.OfflineVerdict.{IsOffline, Outcome}
use Rattle.sig_verify.specs.Verdict.{Checker, PolicyOf}
use Rattle.sig_verify.specs.declared.link.Link.{Link}

-- an error is that of a link, not out of memory
abbrev pub IsOfLinks : Outcome → Type 0
IsOfLinks (Ok entry) = Unit {0}
IsOfLinks (Err error) = (link : Link) × (link_of error ≡ Some link)

-- the tree of what was verified, or of the error
abbrev pub IsResultTree : Inputs → Outcome → Data → Type 0
IsResultTree i (Ok entry) tree = IsVerifiedTree i entry tree
IsResultTree i (Err error) tree = IsRefusedTree i error tree

-- under this checker and this policy: a result of offline verification of the inputs, and its tree
pub record IsShownResult (k : Checker) (policy : PolicyOf) (i : Inputs) (tree : Data) : Type 0 where
  pub result : Outcome
  pub offline : IsOffline k policy i.root i.now i.digest i.bundle result
  pub named : IsOfLinks result
  pub shown : IsResultTree i result tree

abbrev pub ResultsHaveOneTree : Type 0
ResultsHaveOneTree =
    (k : Checker) (policy : PolicyOf) (i : Inputs) (one other : Data) → IsShownResult k policy i one
    → IsShownResult k policy i other → one ≡ other
