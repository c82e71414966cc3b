-- *Rule*, *Policy*: which members a rule of a request of `verify` has, and which a policy: the table of
-- docs/REQUESTS.md.
use Rattle.std.specs.Prelude.{◌≡◌, ◌≢◌, ℕ, List, [], ◌∷◌, codes, Some, None, Ok, option_map}
use Rattle.std.specs.List.{AllByRecursion, AllZip}
use Rattle.sig_base.specs.ByText.{text_lookup}
use Rattle.sig_json.specs.Data.{Data, Items, array, string}
use Rattle.sig_json.specs.Document.{document_of}
use Rattle.sig_json.specs.List.{items_list}
use Rattle.sig_json.specs.Member.{member_of}
use Rattle.sig_policy.specs.declared.request.LeafPolicy.{LeafPolicy}
use Rattle.sig_policy.specs.declared.request.LeafPolicy.TheVariants as rule
use Rattle.sig_policy.specs.declared.request.RequestPolicy.{RequestPolicy}
use Rattle.sig_policy.specs.declared.request.RequestPolicy.TheVariants as policy

-- the members that a rule may have; all others are ignored
abbrev pub rule_names : List (List ℕ)
rule_names = codes "identity" ∷ codes "issuer" ∷ codes "trigger" ∷ codes "sha" ∷ codes "name" ∷ codes "repository"
    ∷ codes "ref" ∷ []

-- the members of each rule, with their texts: `identity` with `issuer`, or one of the others
abbrev pub members_of_rule : LeafPolicy → List (List ℕ × List ℕ)
members_of_rule (rule.Identity p) = (codes "identity", p.identity) ∷ (codes "issuer", p.issuer) ∷ []
members_of_rule (rule.OIDCIssuer p) = (codes "issuer", p.0) ∷ []
members_of_rule (rule.GitHubWorkflowTrigger p) = (codes "trigger", p.0) ∷ []
members_of_rule (rule.GitHubWorkflowSHA p) = (codes "sha", p.0) ∷ []
members_of_rule (rule.GitHubWorkflowName p) = (codes "name", p.0) ∷ []
members_of_rule (rule.GitHubWorkflowRepository p) = (codes "repository", p.0) ∷ []
members_of_rule (rule.GitHubWorkflowRef p) = (codes "ref", p.0) ∷ []

-- The value is an object that is this rule: it has exactly the rule's members among those that a rule may have, each
-- a text, and the others are absent or null.
abbrev pub IsRule : Data → LeafPolicy → Type 0
IsRule d r =
    AllByRecursion (λ name. member_of name d ≡ Some (option_map string (text_lookup name (members_of_rule r)))) rule_names

-- The value is an object that has these rules, at least one, under a name, and nothing or null under the other.
pub record HasRules (name other : List ℕ) (d : Data) (rules : List LeafPolicy) : Type 0 where
  pub elements : Items
  pub there : member_of name d ≡ Some (Some (array elements))
  pub each : AllZip IsRule (items_list elements) rules
  pub some : rules ≢ []
  pub nothing : member_of other d ≡ Some None

-- The value is this policy: rules under `all`, or under `any`, and not under both.
abbrev pub IsPolicy : Data → RequestPolicy → Type 0
IsPolicy d (policy.All rules) = HasRules (codes "all") (codes "any") d rules
IsPolicy d (policy.Any rules) = HasRules (codes "any") (codes "all") d rules

-- The text is a document whose member `policy` is this policy.
pub record HasPolicy (text : List ℕ) (p : RequestPolicy) : Type 0 where
  pub tree : Data
  pub value : Data
  pub document : document_of text ≡ Ok tree
  pub there : member_of (codes "policy") tree ≡ Some (Some value)
  pub is : IsPolicy value p
