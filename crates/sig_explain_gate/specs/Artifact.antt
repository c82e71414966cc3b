-- What is shown of an artifact, and of all of a manifest.
use Rattle.std.specs.Prelude.{◌≡◌, ℕ, Bool, List, [], ◌∷◌, codes, if◌then◌else◌, Some}
use Rattle.std.specs.List.{AllZip}
use Rattle.sig_base.specs.ByText.{text_lookup}
use Rattle.sig_json.specs.Writing.{list_tree, object_of}
use Rattle.sig_explain_gate.specs.Bundle.{IsBundleShown}
use Rattle.sig_explain_gate.specs.declared.artifact.ArtifactFinding.{ArtifactFinding}
use Rattle.sig_explain_gate.specs.declared.artifact.Findings.{Findings}
use Rattle.sig_explain_gate.specs.declared.artifacts.ArtifactFindings.{ArtifactFindings}
use Rattle.sig_explain_verify.specs.Inputs.{Inputs as Explained}
use Rattle.sig_gate.specs.Gate.{IsDecided, IsGate, IsVerdict}
use Rattle.sig_gate.specs.BundleVerdict.{IsBundleVerdict}
use Rattle.sig_gate.specs.declared.verdict.BundleVerdict.{BundleVerdict}
use Rattle.sig_gate_command.specs.Reply.{checker_with}
use Rattle.sig_json.specs.Data.{Data, string}
use Rattle.sig_json.specs.Tree.{document_tree}
use Rattle.sig_manifest.specs.Artifact.{Asked}
use Rattle.sig_manifest.specs.Read.{Parts}
use Rattle.sig_policy.specs.declared.request.RequestPolicy.{RequestPolicy}

-- ---- a bundle of an artifact

-- what a bundle is verified with under a trusted root's text and a policy: the manifest's time, the artifact's digest, and
-- the accepted signatures
abbrev pub inputs_with : Parts → Asked → List ℕ → RequestPolicy → List ℕ → Explained
inputs_with parts x root policy bundle = record {
  root = root;
  bundle = bundle;
  now = parts.0.now;
  digest = x.digest;
  policy = policy;
  accepted = parts.1;
}

-- what is shown of a bundle, under the trusted root and the policy that the artifact names
pub record IsBundleTree (parts : Parts) (x : Asked) (bundle : List ℕ) (tree : Data) : Type 0 where
  pub root : List ℕ
  pub root_is : text_lookup x.root parts.0.roots ≡ Some root
  pub policy : RequestPolicy
  pub policy_is : text_lookup x.policy parts.0.policies ≡ Some policy
  pub verdict : BundleVerdict
  pub shown : IsBundleShown (inputs_with parts x root policy bundle) verdict tree

-- ---- an artifact

abbrev pub yes_or_no : Bool → List ℕ
yes_or_no admitted = if admitted then codes "yes" else codes "no"

abbrev pub artifact_tree : Bool → Data → List ℕ → Data
artifact_tree admitted bundles name =
    object_of
    ((codes "admitted", Some (string (yes_or_no admitted)))
    ∷ (codes "bundles", Some bundles)
    ∷ (codes "name", Some (string name))
    ∷ [])

abbrev pub trees_list : List Data → Data
trees_list trees = list_tree (λ tree. tree) trees

-- whether it is admitted, as `gate` decides it, and what is shown of each of its bundles in order
pub record IsArtifactTree (parts : Parts) (x : Asked) (tree : Data) : Type 0 where
  pub admitted : Bool
  pub decided : IsDecided (checker_with parts.1) parts.0 x admitted
  pub trees : List Data
  pub bundles : AllZip (IsBundleTree parts x) x.bundles trees
  pub made : tree ≡ artifact_tree admitted (trees_list trees) x.name

-- ---- a manifest

abbrev pub artifacts_tree : Data → Data
artifacts_tree artifacts = object_of ((codes "artifacts", Some artifacts) ∷ [])

-- what is shown of each of its artifacts in order
pub record IsGateTree (parts : Parts) (tree : Data) : Type 0 where
  pub trees : List Data
  pub artifacts : AllZip (IsArtifactTree parts) parts.0.artifacts trees
  pub made : tree ≡ artifacts_tree (trees_list trees)

-- ---- for private clauses

-- the list of what is shown of these artifacts
pub record IsListOf (parts : Parts) (artifacts : List Asked) (tree : Data) : Type 0 where
  pub trees : List Data
  pub shown : AllZip (IsArtifactTree parts) artifacts trees
  pub made : tree ≡ trees_list trees

-- the verdicts on these bundles, and the list of what is shown of each
pub record AreFound (parts : Parts) (x : Asked) (bundles : List (List ℕ)) (found : Findings) : Type 0 where
  pub verdicts : AllZip (IsBundleVerdict (checker_with parts.1) parts.0 x) bundles found.verdicts
  pub trees : List Data
  pub shown : AllZip (IsBundleTree parts x) bundles trees
  pub made : document_tree found.list ≡ trees_list trees

-- the verdict on an artifact, and what is shown of it
pub record IsArtifactFound (parts : Parts) (x : Asked) (found : ArtifactFinding) : Type 0 where
  pub verdict : IsVerdict (checker_with parts.1) parts.0 x found.verdict
  pub shown : IsArtifactTree parts x (document_tree found.document)

-- the verdicts on all artifacts of a manifest, and the list of what is shown of each
pub record AreArtifactsFound (parts : Parts) (found : ArtifactFindings) : Type 0 where
  pub verdicts : IsGate (checker_with parts.1) parts.0 found.verdicts
  pub shown : IsListOf parts parts.0.artifacts (document_tree found.list)
