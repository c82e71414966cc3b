-- A text has one tree: of what is wrong with it, or of the artifacts of the manifest that it is.
use Rattle.std.proofs.Common.{◌≡◌, ◌∙◌, ℕ, Bool, List, Option, Some, None, Ok, Err, inl, inr, ap, refl, subst, sym}
use Rattle.std.specs.Prelude.{option_map}
use Rattle.sig_base.proofs.OptionSteps.{some_is}
use Rattle.sig_base.proofs.PairedLists.{zip_one}
use Rattle.sig_explain_gate.proofs.OneDecision.{ProofsAreRead, one_decision}
use Rattle.sig_explain_gate.specs.Artifact.{IsArtifactTree, IsBundleTree, IsGateTree, artifact_tree, artifacts_tree}
use Rattle.sig_explain_gate.specs.Artifact.{inputs_with, trees_list}
use Rattle.sig_explain_gate.specs.Bundle.{IsBundleShown, IsOutcomeTree, chain_outside}
use Rattle.sig_explain_gate.specs.OneTree.{TextsHaveOneTree}
use Rattle.sig_explain_verify.specs.Inputs.{Inputs as Explained}
use Rattle.sig_explain_verify.specs.OneTree.{IsOfLinks, IsResultTree, IsShownResult, ResultsHaveOneTree}
use Rattle.sig_gate.specs.BundleVerdict.{verdict_of}
use Rattle.sig_gate.specs.declared.verdict.BundleVerdict.{BundleVerdict}
use Rattle.sig_gate.specs.declared.verdict.BundleVerdict.TheVariants.{Refused}
use Rattle.sig_gate_command.specs.Reply.{checker_with}
use Rattle.sig_json.specs.Data.{Data}
use Rattle.sig_manifest.specs.Artifact.{Asked}
use Rattle.sig_manifest.specs.Read.{Parts}
use Rattle.sig_policy.specs.declared.request.RequestPolicy.{RequestPolicy}
use Rattle.sig_verify.specs.OfflineErrors.{link_of}
use Rattle.sig_verify.specs.OfflineVerdict.{Outcome}
use Rattle.sig_verify.specs.declared.link.Link.{Link}

-- ---- a bundle

-- a result with a verdict is an entry, or the error of a link
of_links : (result : Outcome) (verdict : BundleVerdict) → verdict_of result ≡ Some verdict → IsOfLinks result
of_links (Ok entry) verdict said = tt
of_links (Err error) verdict said = by (link_of error) refl said where
  by : (named : Option Link) → link_of error ≡ named → option_map Refused named ≡ Some verdict
      → (link : Link) × (link_of error ≡ Some link)
  by None is says = absurd cc
  by (Some link) is says = (link, is)

as_result : (i : Explained) (result : Outcome) (tree : Data) → IsOutcomeTree i result tree → IsResultTree i result tree
as_result i (Ok entry) tree shown = shown
as_result i (Err error) tree shown = shown

shown_result : (i : Explained) (verdict : BundleVerdict) (tree : Data) → IsBundleShown i verdict tree
    → IsShownResult (chain_outside i).checker (chain_outside i).policy i tree
shown_result i verdict tree is = record {
  result = is.result;
  offline = is.offline;
  named = of_links is.result verdict is.said;
  shown = as_result i is.result tree is.shown;
}

module _ (one : ResultsHaveOneTree) (proofs : ProofsAreRead) (parts : Parts) where
  one_shown : (i : Explained) (verdict other : BundleVerdict) (a b : Data) → IsBundleShown i verdict a
      → IsBundleShown i other b → a ≡ b
  one_shown i verdict other a b p q =
      one (chain_outside i).checker (chain_outside i).policy i a b (shown_result i verdict a p)
      (shown_result i other b q)

  module _ (x : Asked) where
    one_bundle : (bundle : List ℕ) (a b : Data) → IsBundleTree parts x bundle a → IsBundleTree parts x bundle b → a ≡ b
    one_bundle bundle a b is was =
        let root = some_is is.root was.root (sym is.root_is ∙ was.root_is) in
        let policy = some_is is.policy was.policy (sym is.policy_is ∙ was.policy_is) in
        let under = subst (λ (r : List ℕ). IsBundleShown (inputs_with parts x r is.policy bundle) is.verdict a) root
        is.shown in
        let moved = subst (λ (p : RequestPolicy).
        IsBundleShown (inputs_with parts x was.root p bundle) is.verdict a) policy under in
        one_shown (inputs_with parts x was.root was.policy bundle) is.verdict was.verdict a b moved was.shown

    -- ---- an artifact

    one_artifact : (a b : Data) → IsArtifactTree parts x a → IsArtifactTree parts x b → a ≡ b
    one_artifact a b is was =
        is.made
        ∙ ap (λ (admitted : Bool). artifact_tree admitted (trees_list is.trees) x.name)
        (one_decision proofs (checker_with parts.1) parts.0 x is.admitted was.admitted is.decided was.decided)
        ∙ ap (λ (trees : List Data). artifact_tree was.admitted (trees_list trees) x.name)
        (zip_one (IsBundleTree parts x) (IsBundleTree parts x) one_bundle x.bundles is.trees was.trees is.bundles
        was.bundles)
        ∙ sym was.made

  -- ---- a manifest

  one_manifest : (a b : Data) → IsGateTree parts a → IsGateTree parts b → a ≡ b
  one_manifest a b is was =
      is.made
      ∙ ap (λ (trees : List Data). artifacts_tree (trees_list trees))
      (zip_one (IsArtifactTree parts) (IsArtifactTree parts) one_artifact parts.0.artifacts is.trees was.trees
      is.artifacts was.artifacts)
      ∙ sym was.made

pub texts_have_one_tree : ResultsHaveOneTree → ProofsAreRead → TextsHaveOneTree
texts_have_one_tree one proofs text a b is was = elim is.decided [
  | inl has ↦ one_manifest one proofs has.parts a b (is.manifest has.parts has.is) (was.manifest has.parts has.is)
  | inr unread ↦ is.refused unread ∙ sym (was.refused unread)
]
