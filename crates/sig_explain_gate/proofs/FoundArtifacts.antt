-- What is found of one bundle more, and of one artifact more.
use Rattle.std.proofs.Common.{◌≡◌, ◌↔◌, ℕ, ℤ, ◌+◌, ◌<◌, ◌≤◌, Bool, true, List, [], ◌∷◌, ◌++◌, take, get_or, length, Some}
use Rattle.std.proofs.Common.{refl, subst, ap, ◌∙◌}
use Rattle.std.proofs.lemmas.List.{take_all}
use Rattle.std.specs.List.{AllZip}
use Rattle.sig_base.proofs.PairedLists.{zip_more}
use Rattle.sig_base.specs.ByText.{text_lookup}
use Rattle.sig_json.proofs.WrittenLists.{list_tree-append}
use Rattle.sig_explain_gate.specs.Artifact.{AreArtifactsFound, AreFound, IsArtifactFound, IsArtifactTree, IsBundleTree}
use Rattle.sig_explain_gate.specs.Artifact.{IsGateTree, IsListOf, artifact_tree, artifacts_tree, inputs_with, trees_list}
use Rattle.sig_explain_gate.specs.Bundle.{IsBundleShown}
use Rattle.sig_explain_gate.specs.declared.artifact.ArtifactFinding.{ArtifactFinding}
use Rattle.sig_explain_gate.specs.declared.artifact.Findings.{Findings}
use Rattle.sig_explain_gate.specs.declared.artifacts.ArtifactFindings.{ArtifactFindings}
use Rattle.sig_explain_verify.specs.Inputs.{Inputs as Explained}
use Rattle.sig_gate.proofs.VerifiedEntries.{artifact-verdict}
use Rattle.sig_gate.proofs.Zips.{zip-all, zip-viewed}
use Rattle.sig_gate.specs.BundleVerdict.{IsBundleVerdict}
use Rattle.sig_gate.specs.Gate.{IsVerdict}
use Rattle.sig_gate.specs.RuleHolds.{IsAdmitted}
use Rattle.sig_gate.specs.VerifiedBundles.{entries_of}
use Rattle.sig_gate.specs.declared.verdict.BundleVerdict.{BundleVerdict}
use Rattle.sig_gate.specs.declared.verdict.Verdict.{Verdict}
use Rattle.sig_gate_command.specs.Reply.{checker_with}
use Rattle.sig_gate_command.specs.Request.{parts_of}
use Rattle.sig_gate_command.specs.declared.request.GateRequest.{GateRequest}
use Rattle.sig_json.specs.Builders.{with_last}
use Rattle.sig_json.specs.Data.{Data}
use Rattle.sig_json.specs.Tree.{document_tree}
use Rattle.sig_json.specs.declared.document.Document.{Document}
use Rattle.sig_manifest.specs.Artifact.{Asked, artifact_view}
use Rattle.sig_manifest.specs.Manifest.{artifacts_view}
use Rattle.sig_manifest.specs.Read.{Parts}
use Rattle.sig_manifest.specs.declared.artifact.Artifact.{Artifact}
use Rattle.sig_policy.specs.declared.request.RequestPolicy.{RequestPolicy}

-- a tree after others
pub pushed : (trees : List Data) (tree before after : Data) → before ≡ trees_list trees → after ≡ with_last tree before
    → after ≡ trees_list (trees ++ tree ∷ [])
pushed trees tree before after so_far grown =
    grown ∙ ap (with_last tree) so_far ∙ list_tree-append (λ t. t) trees tree

-- what is found of an artifact with these verdicts
abbrev pub finding : Bool → List BundleVerdict → Document → ArtifactFinding
finding admitted bundles document = record {
  verdict = record { admitted = admitted; bundles = bundles };
  document = document;
}

-- what is found of these, in order
pub record IsWalked (parts : Parts) (x : Asked) (bundles : List (List ℕ)) (verdicts : List BundleVerdict) (list : Data)
    : Type 0 where
  pub judged : AllZip (IsBundleVerdict (checker_with parts.1) parts.0 x) bundles verdicts
  pub trees : List Data
  pub shown : AllZip (IsBundleTree parts x) bundles trees
  pub made : list ≡ trees_list trees

module _ (parts : Parts) (x : Asked) where
  pub none-walked : (list : Data) → list ≡ trees_list [] → IsWalked parts x [] [] list
  none-walked list made = record { judged = tt; trees = []; shown = tt; made = made }

  -- under the trusted root and the policy that the artifact names
  module _ (root : List ℕ) (policy : RequestPolicy) (root_is : text_lookup x.root parts.0.roots ≡ Some root)
      (policy_is : text_lookup x.policy parts.0.policies ≡ Some policy) where
    verdict-of : (bundle : List ℕ) (verdict : BundleVerdict) (tree : Data)
        → IsBundleShown (inputs_with parts x root policy bundle) verdict tree
        → IsBundleVerdict (checker_with parts.1) parts.0 x bundle verdict
    verdict-of bundle verdict tree shown = record {
      root = root;
      root_is = root_is;
      policy = policy;
      policy_is = policy_is;
      links = shown.links;
      offline = (shown.result, shown.offline, shown.said);
    }

    tree-of : (bundle : List ℕ) (verdict : BundleVerdict) (tree : Data)
        → IsBundleShown (inputs_with parts x root policy bundle) verdict tree → IsBundleTree parts x bundle tree
    tree-of bundle verdict tree shown = record {
      root = root;
      root_is = root_is;
      policy = policy;
      policy_is = policy_is;
      verdict = verdict;
      shown = shown;
    }

    -- the inputs at a time
    abbrev inputs_at : ℤ → List ℕ → Explained
    inputs_at now text = record {
      root = root;
      bundle = text;
      now = now;
      digest = x.digest;
      policy = policy;
      accepted = parts.1;
    }

    -- at the manifest's time, of the list's element
    of-element : (now : ℤ) (bundle text : List ℕ) (verdict : BundleVerdict) (tree : Data) → now ≡ parts.0.now
        → text ≡ bundle → IsBundleShown (inputs_at now text) verdict tree
        → IsBundleShown (inputs_with parts x root policy bundle) verdict tree
    of-element now bundle text verdict tree time same shown =
        subst (λ (b : List ℕ). IsBundleShown (inputs_at parts.0.now b) verdict tree) same
        (subst (λ (n : ℤ). IsBundleShown (inputs_at n text) verdict tree) time shown)

    pub walked-more : (now : ℤ) (bundles : List (List ℕ)) (index : ℕ) (bundle text : List ℕ) (verdict : BundleVerdict)
        (tree : Data) (before after : List BundleVerdict) (list grown : Data) → now ≡ parts.0.now
        → index < length bundles → bundle ≡ get_or bundles index bundle → text ≡ bundle
        → IsBundleShown (inputs_at now text) verdict tree → after ≡ before ++ verdict ∷ [] → grown ≡ with_last tree list
        → IsWalked parts x (take index bundles) before list → IsWalked parts x (take (index + 1) bundles) after grown
    walked-more now bundles index bundle text verdict tree before after list grown time below is same here added put walked =
        let shown = of-element now bundle text verdict tree time same here in record {
          judged =
              zip_more (IsBundleVerdict (checker_with parts.1) parts.0 x) bundles bundles index bundle bundle verdict before
              after refl below is refl (verdict-of bundle verdict tree shown) added walked.judged;
          trees = walked.trees ++ tree ∷ [];
          shown =
              zip_more (IsBundleTree parts x) bundles bundles index bundle bundle tree walked.trees
              (walked.trees ++ tree ∷ []) refl below is refl (tree-of bundle verdict tree shown) refl walked.shown;
          made = pushed walked.trees tree list grown walked.made put;
        }

  -- what is found of all
  pub all-found : (bundles seen : List (List ℕ)) (index : ℕ) (found : Findings) → seen ≡ bundles → length seen ≤ index
      → IsWalked parts x (take index seen) found.verdicts (document_tree found.list) → AreFound parts x bundles found
  all-found bundles seen index found same end walked =
      let whole : take index seen ≡ bundles = take_all index seen end ∙ same in
      let all = subst (λ (bs : List (List ℕ)). IsWalked parts x bs found.verdicts (document_tree found.list)) whole walked in
      record { verdicts = all.judged; trees = all.trees; shown = all.shown; made = all.made }

  -- ---- the artifact

  pub artifact-found : (found : Findings) (seen : List BundleVerdict) (admitted : Bool) (name : List ℕ)
      (document : Document) → AreFound parts x x.bundles found → seen ≡ found.verdicts
      → (admitted ≡ true) ↔ IsAdmitted x.rule (entries_of seen) → name ≡ x.name
      → document_tree document ≡ artifact_tree admitted (document_tree found.list) name
      → IsArtifactFound parts x (finding admitted found.verdicts document)
  artifact-found found seen admitted name document are same decided called made =
      let verdict : IsVerdict (checker_with parts.1) parts.0 x (finding admitted found.verdicts document).verdict =
      artifact-verdict (checker_with parts.1) parts.0 x found.verdicts seen admitted are.verdicts same decided in record {
        verdict = verdict;
        shown = record {
          admitted = admitted;
          decided = verdict.decided;
          trees = are.trees;
          bundles = are.shown;
          made =
              made ∙ ap (λ list. artifact_tree admitted list name) are.made
              ∙ ap (artifact_tree admitted (trees_list are.trees)) called;
        };
      }

-- ---- artifacts

-- what is found of these, in order
pub record IsListed (parts : Parts) (artifacts : List Artifact) (verdicts : List Verdict) (list : Data) : Type 0 where
  pub judged :
      AllZip
      (λ (x : Artifact) (verdict : Verdict). IsVerdict (checker_with parts.1) parts.0 (artifact_view x) verdict)
      artifacts verdicts
  pub trees : List Data
  pub shown : AllZip (λ (x : Artifact) (tree : Data). IsArtifactTree parts (artifact_view x) tree) artifacts trees
  pub made : list ≡ trees_list trees

module _ (parts : Parts) where
  abbrev Shows : Artifact → Data → Type 0
  Shows x tree = IsArtifactTree parts (artifact_view x) tree

  abbrev Judges : Artifact → Verdict → Type 0
  Judges x verdict = IsVerdict (checker_with parts.1) parts.0 (artifact_view x) verdict

  pub none-listed : (list : Data) → list ≡ trees_list [] → IsListed parts [] [] list
  none-listed list made = record { judged = tt; trees = []; shown = tt; made = made }

  pub listed-more : (artifacts : List Artifact) (index : ℕ) (x : Artifact) (found : ArtifactFinding)
      (before after : List Verdict) (list grown : Data) → index < length artifacts → x ≡ get_or artifacts index x
      → IsArtifactFound parts (artifact_view x) found → after ≡ before ++ found.verdict ∷ []
      → grown ≡ with_last (document_tree found.document) list → IsListed parts (take index artifacts) before list
      → IsListed parts (take (index + 1) artifacts) after grown
  listed-more artifacts index x found before after list grown below is here added put listed = record {
    judged =
        zip_more Judges artifacts artifacts index x x found.verdict before after refl below is refl here.verdict added
        listed.judged;
    trees = listed.trees ++ document_tree found.document ∷ [];
    shown =
        zip_more Shows artifacts artifacts index x x (document_tree found.document) listed.trees
        (listed.trees ++ document_tree found.document ∷ []) refl below is refl here.shown refl listed.shown;
    made = pushed listed.trees (document_tree found.document) list grown listed.made put;
  }

  all-judged : (artifacts seen : List Artifact) (index : ℕ) (verdicts : List Verdict) (list : Data) → seen ≡ artifacts
      → length seen ≤ index → IsListed parts (take index seen) verdicts list
      → AllZip (IsVerdict (checker_with parts.1) parts.0) (artifacts_view artifacts) verdicts
  all-judged artifacts seen index verdicts list same end listed =
      zip-viewed artifact_view (IsVerdict (checker_with parts.1) parts.0) artifacts verdicts
      (subst (λ (xs : List Artifact). AllZip Judges xs verdicts) same (zip-all Judges seen verdicts index end listed.judged))

  all-listed : (artifacts seen : List Artifact) (index : ℕ) (verdicts : List Verdict) (list : Data) → seen ≡ artifacts
      → length seen ≤ index → IsListed parts (take index seen) verdicts list
      → IsListOf parts (artifacts_view artifacts) list
  all-listed artifacts seen index verdicts list same end listed = record {
    trees = listed.trees;
    shown =
        zip-viewed artifact_view (IsArtifactTree parts) artifacts listed.trees
        (subst (λ (xs : List Artifact). AllZip Shows xs listed.trees) same
        (zip-all Shows seen listed.trees index end listed.shown));
    made = listed.made;
  }

  pub gate-shown : (list tree : Data) → IsListOf parts parts.0.artifacts list → tree ≡ artifacts_tree list
      → IsGateTree parts tree
  gate-shown list tree listed made = record {
    trees = listed.trees;
    artifacts = listed.shown;
    made = made ∙ ap artifacts_tree listed.made;
  }

-- what is found of all artifacts of a request
pub all-artifacts : (request : GateRequest) (seen : List Artifact) (index : ℕ) (found : ArtifactFindings)
    → seen ≡ request.manifest.artifacts → length seen ≤ index
    → IsListed (parts_of request) (take index seen) found.verdicts (document_tree found.list)
    → AreArtifactsFound (parts_of request) found
all-artifacts request seen index found same end listed = record {
  verdicts =
      all-judged (parts_of request) request.manifest.artifacts seen index found.verdicts (document_tree found.list) same end
      listed;
  shown =
      all-listed (parts_of request) request.manifest.artifacts seen index found.verdicts (document_tree found.list) same end
      listed;
}
