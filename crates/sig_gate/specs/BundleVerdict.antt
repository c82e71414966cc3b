-- *Bundle verdict*: the result for a bundle of an artifact: every link of the chain of trust holds, and what its log
-- vouches for, or the first link that fails.
use Rattle.std.specs.Prelude.{◌≡◌, ℕ, List, Option, Some, option_map, Ok, Err}
use Rattle.sig_base.specs.ByText.{text_lookup}
use Rattle.sig_base.specs.Rules.{FailsFirst}
use Rattle.sig_gate.specs.declared.verdict.BundleVerdict.{BundleVerdict}
use Rattle.sig_gate.specs.declared.verdict.BundleVerdict.TheVariants.{Verified, Refused}
use Rattle.sig_manifest.specs.Artifact.{Asked}
use Rattle.sig_manifest.specs.Manifest.{Gate}
use Rattle.sig_policy.specs.Refusals.{any_of}
use Rattle.sig_policy.specs.Requests.{request_holds}
use Rattle.sig_policy.specs.declared.request.RequestPolicy.{RequestPolicy}
use Rattle.sig_verify.specs.LinkLaws.{IsKept}
use Rattle.sig_verify.specs.Links.{EveryChainLinkHolds, HoldsOf, Inputs, OfPassed, Outside, chain_links}
use Rattle.sig_verify.specs.OfflineErrors.{link_of}
use Rattle.sig_verify.specs.OfflineVerdict.{IsOffline, Outcome}
use Rattle.sig_verify.specs.Verdict.{Checker}

-- ---- a bundle's text under the text of a trusted root

-- every link holds, and this is the body of the bundle's log entry, with the proof that its members are; or this link
-- is the first that fails
abbrev pub IsJudged : Outside → Inputs → BundleVerdict → Type 0
IsJudged o i (Verified entry) = EveryChainLinkHolds o i × OfPassed i (λ c. IsKept c.entry entry)
IsJudged o i (Refused link) = FailsFirst (HoldsOf o i) chain_links link

-- what a result of offline verification says
abbrev pub verdict_of : Outcome → Option BundleVerdict
verdict_of (Ok entry) = Some (Verified entry)
verdict_of (Err error) = option_map Refused (link_of error)

-- the verdict is that of a result of `verify_offline` on these inputs
abbrev pub IsOfflineVerdict : Outside → Inputs → BundleVerdict → Type 0
IsOfflineVerdict o i verdict =
    (result : Outcome) × IsOffline o.checker o.policy i.root i.now i.digest i.bundle result
    × (verdict_of result ≡ Some verdict)

-- ---- a bundle of an artifact

-- no link is about the refusal
abbrev pub outside : Checker → RequestPolicy → Outside
outside checker policy = record {
  checker = checker;
  policy = record { holds = request_holds policy; refusal = λ c. any_of 1 };
}

-- the text of the artifact's trusted root, the manifest's time, the artifact's digest, and the bundle's text
abbrev pub inputs : Gate → Asked → List ℕ → List ℕ → Inputs
inputs gate x root bundle = record { root = root; now = gate.now; digest = x.digest; bundle = bundle }

-- the verdict on a bundle of an artifact, under the trusted root and the policy that the artifact names
pub record IsBundleVerdict (k : Checker) (gate : Gate) (x : Asked) (bundle : List ℕ) (verdict : BundleVerdict) : Type 0 where
  pub root : List ℕ
  pub root_is : text_lookup x.root gate.roots ≡ Some root
  pub policy : RequestPolicy
  pub policy_is : text_lookup x.policy gate.policies ≡ Some policy
  pub links : IsJudged (outside k policy) (inputs gate x root bundle) verdict
  pub offline : IsOfflineVerdict (outside k policy) (inputs gate x root bundle) verdict
