-- The verified bundles of an artifact, from the verdicts on its bundles.
use Rattle.std.proofs.Common.{◌≡◌, ◌↔◌, ℕ, Bool, true, inl, inr, List, [], ◌∷◌, refl, sym, subst, ◌∙◌}
use Rattle.std.specs.List.{AllZip}
use Rattle.sig_base.proofs.OptionSteps.{some_is}
use Rattle.sig_base.proofs.RuleLaws.{none_fails}
use Rattle.sig_gate.specs.BundleVerdict.{IsBundleVerdict, inputs, outside}
use Rattle.sig_gate.specs.Gate.{AreVerified, IsVerdict, IsVerified}
use Rattle.sig_gate.specs.RuleHolds.{IsAdmitted}
use Rattle.sig_gate.specs.VerifiedBundles.{entries_of}
use Rattle.sig_gate.specs.declared.verdict.BundleVerdict.{BundleVerdict}
use Rattle.sig_gate.specs.declared.verdict.BundleVerdict.TheVariants.{Verified, Refused}
use Rattle.sig_manifest.specs.Artifact.{Asked}
use Rattle.sig_manifest.specs.Manifest.{Gate}
use Rattle.sig_policy.specs.declared.request.RequestPolicy.{RequestPolicy}
use Rattle.sig_verify.specs.Links.{EveryChainLinkHolds, HoldsOf, chain_links}
use Rattle.sig_verify.specs.Verdict.{Checker}
use Rattle.sig_verify.specs.declared.link.Link.{Link}

module _ (k : Checker) (gate : Gate) (x : Asked) where
  -- a bundle of which a link fails is not verified
  not_verified : (bundle : List ℕ) (link : Link) → IsBundleVerdict k gate x bundle (Refused link)
      → ¬ IsVerified k gate x bundle
  not_verified bundle link is verified =
      let one : verified.0 ≡ is.root = some_is verified.0 is.root (sym verified.1 ∙ is.root_is) in
      let other : verified.2.0 ≡ is.policy = some_is verified.2.0 is.policy (sym verified.2.1 ∙ is.policy_is) in
      let holds : EveryChainLinkHolds (outside k is.policy) (inputs gate x is.root bundle) =
      subst (λ (p : RequestPolicy). EveryChainLinkHolds (outside k p) (inputs gate x is.root bundle)) other
      (subst (λ (r : List ℕ). EveryChainLinkHolds (outside k verified.2.0) (inputs gate x r bundle)) one verified.2.2) in
      none_fails (HoldsOf (outside k is.policy) (inputs gate x is.root bundle)) chain_links link holds is.links

  pub are-verified : (bundles : List (List ℕ)) (verdicts : List BundleVerdict)
      → AllZip (IsBundleVerdict k gate x) bundles verdicts → AreVerified k gate x bundles (entries_of verdicts)
  are-verified [] [] are = refl
  are-verified [] (verdict ∷ verdicts) are = absurd are
  are-verified (bundle ∷ bundles) [] are = absurd are
  are-verified (bundle ∷ bundles) (Verified entry ∷ verdicts) are =
      let is = are.0 in
      inl (
        (is.root, is.root_is, (is.policy, is.policy_is, is.links.0)),
        (
          entry,
          entries_of verdicts,
          refl,
          (is.root, is.root_is, (is.policy, is.policy_is, is.links.1)),
          are-verified bundles verdicts are.1,
        ),
      )
  are-verified (bundle ∷ bundles) (Refused link ∷ verdicts) are =
      inr (not_verified bundle link are.0, are-verified bundles verdicts are.1)

  -- the verdict on an artifact, by those on its bundles and by whether it is admitted
  pub artifact-verdict : (bundles seen : List BundleVerdict) (admitted : Bool)
      → AllZip (IsBundleVerdict k gate x) x.bundles bundles → seen ≡ bundles
      → (admitted ≡ true) ↔ IsAdmitted x.rule (entries_of seen)
      → IsVerdict k gate x (record { admitted = admitted; bundles = bundles })
  artifact-verdict bundles seen admitted are same decided = record {
    bundles = are;
    decided = record {
      entries = entries_of bundles;
      verified = are-verified x.bundles bundles are;
      decided = subst (λ (bs : List BundleVerdict). (admitted ≡ true) ↔ IsAdmitted x.rule (entries_of bs)) same decided;
    };
  }
