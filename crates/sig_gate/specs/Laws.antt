-- What the verdicts on bundles mean.
use Rattle.std.specs.Prelude.{◌≡◌, ◌↔◌, Some}
use Rattle.sig_base.specs.Rules.{FailsFirst}
use Rattle.sig_gate.specs.BundleVerdict.{IsJudged, IsOfflineVerdict, verdict_of}
use Rattle.sig_gate.specs.declared.verdict.BundleVerdict.{BundleVerdict}
use Rattle.sig_gate.specs.declared.verdict.BundleVerdict.TheVariants.{Verified, Refused}
use Rattle.sig_verify.specs.Judged.{Judged}
use Rattle.sig_verify.specs.Links.{EveryChainLinkHolds, HoldsOf, Inputs, Outside, chain_links}
use Rattle.sig_verify.specs.OfflineVerdict.{IsOffline, Outcome}
use Rattle.sig_verify.specs.declared.link.Link.{Link}
use Rattle.sig_verify.specs.declared.logged_entry.LoggedEntry.{LoggedEntry}

-- a verdict is verified if and only if every link holds, and refused by a link if and only if it is the first that fails
pub record IsExact (o : Outside) (i : Inputs) (verdict : BundleVerdict) : Type 0 where
  pub verified : ((entry : LoggedEntry) × (verdict ≡ Verified entry)) ↔ EveryChainLinkHolds o i
  pub refused : (link : Link) → (verdict ≡ Refused link) ↔ FailsFirst (HoldsOf o i) chain_links link

abbrev pub VerdictsAreExact : Type 0
VerdictsAreExact = (o : Outside) (i : Inputs) (verdict : BundleVerdict) → IsJudged o i verdict → IsExact o i verdict

-- a result that meets the two clauses of `verify_offline` on these inputs, where memory did not run out
pub record IsOfOffline (o : Outside) (i : Inputs) (result : Outcome) : Type 0 where
  pub links : Judged (HoldsOf o i) chain_links result
  pub steps : IsOffline o.checker o.policy i.root i.now i.digest i.bundle result

-- what any such result says is the verdict
abbrev pub VerdictsAreOfOffline : Type 0
VerdictsAreOfOffline =
    (o : Outside) (i : Inputs) (verdict : BundleVerdict) → IsJudged o i verdict → IsOfflineVerdict o i verdict
    → (result : Outcome) → IsOfOffline o i result → verdict_of result ≡ Some verdict
