-- The policy of a request of `verify`: rules, of which all or any have to hold.
use Rattle.std.specs.Prelude.{ℕ, List, [], ◌∷◌, codes, Option, Some, None, option_map}
use Rattle.std.specs.Option.{option_or}
use Rattle.sig_base.specs.OptionSteps.{◌>>=◌}
use Rattle.sig_json.specs.Data.{Data}
use Rattle.sig_json.specs.Kinds.{text_of}
use Rattle.sig_json.specs.Member.{optional, required_list}
use Rattle.sig_policy.specs.declared.request.LeafPolicy.{LeafPolicy}
use Rattle.sig_policy.specs.declared.request.LeafPolicy.TheVariants.{OIDCIssuer, GitHubWorkflowTrigger}
use Rattle.sig_policy.specs.declared.request.LeafPolicy.TheVariants.{GitHubWorkflowSHA, GitHubWorkflowName}
use Rattle.sig_policy.specs.declared.request.LeafPolicy.TheVariants.{GitHubWorkflowRepository, GitHubWorkflowRef}
use Rattle.sig_policy.specs.declared.request.LeafPolicy.TheVariants.{Identity}
use Rattle.sig_policy.specs.declared.request.RequestPolicy.{RequestPolicy}
use Rattle.sig_policy.specs.declared.request.RequestPolicy.TheVariants.{All, Any}
use Rattle.sig_request.specs.Row.{no_kind}

-- ---- a rule: `identity` with `issuer`, or one of `issuer`, `trigger`, `sha`, `name`, `repository`, `ref`

-- an identity with its issuer, or only an issuer; nothing for an identity without an issuer
unfoldable pub issuer_policy : Option (List ℕ) → Option (List ℕ) → Option (Option LeafPolicy)
issuer_policy None None = Some None
issuer_policy None (Some issuer) = Some (Some (OIDCIssuer (record { 0 = issuer })))
issuer_policy (Some identity) (Some issuer) =
    Some (Some (Identity (record { identity = identity; issuer = issuer })))
issuer_policy (Some identity) None = None

-- at most one policy: the one that was found before, or the next; nothing if both are there
unfoldable pub one_at_most : Option LeafPolicy → Option LeafPolicy → Option (Option LeafPolicy)
one_at_most found None = Some found
one_at_most None (Some next) = Some (Some next)
one_at_most (Some policy) (Some next) = None

-- the policies of a GitHub workflow
abbrev pub trigger_is : List ℕ → LeafPolicy
trigger_is text = GitHubWorkflowTrigger (record { 0 = text })

abbrev pub sha_is : List ℕ → LeafPolicy
sha_is text = GitHubWorkflowSHA (record { 0 = text })

abbrev pub name_is : List ℕ → LeafPolicy
name_is text = GitHubWorkflowName (record { 0 = text })

abbrev pub repository_is : List ℕ → LeafPolicy
repository_is text = GitHubWorkflowRepository (record { 0 = text })

abbrev pub ref_is : List ℕ → LeafPolicy
ref_is text = GitHubWorkflowRef (record { 0 = text })

-- the one of these that is there, if any; nothing if two are there
unfoldable pub one_of_five : Option (List ℕ) → Option (List ℕ) → Option (List ℕ) → Option (List ℕ) → Option (List ℕ)
    → Option (Option LeafPolicy)
one_of_five trigger sha name repository git_ref = do
  of_two ← one_at_most (option_map trigger_is trigger) (option_map sha_is sha)
  of_three ← one_at_most of_two (option_map name_is name)
  of_four ← one_at_most of_three (option_map repository_is repository)
  one_at_most of_four (option_map ref_is git_ref)

-- what is required of the workflow
unfoldable pub workflow_policy : Data → Option (Option LeafPolicy)
workflow_policy d = do
  trigger ← optional text_of (codes "trigger") d
  sha ← optional text_of (codes "sha") d
  name ← optional text_of (codes "name") d
  repository ← optional text_of (codes "repository") d
  git_ref ← optional text_of (codes "ref") d
  one_of_five trigger sha name repository git_ref

-- exactly one of the two
unfoldable pub exactly_one : Option LeafPolicy → Option LeafPolicy → Option LeafPolicy
exactly_one (Some policy) None = Some policy
exactly_one None (Some policy) = Some policy
exactly_one None None = None
exactly_one (Some policy) (Some other) = None

unfoldable pub rule_of : Data → Option LeafPolicy
rule_of d = do
  identity ← optional text_of (codes "identity") d
  issuer ← optional text_of (codes "issuer") d
  by_issuer ← issuer_policy identity issuer
  by_workflow ← workflow_policy d
  exactly_one by_issuer by_workflow

-- ---- a policy: the rules under `all`, with nothing under `any`; or those under `any`, with nothing under `all`

abbrev pub at_least_one : List LeafPolicy → Option (List LeafPolicy)
at_least_one [] = None
at_least_one (rule ∷ rules) = Some (rule ∷ rules)

unfoldable pub rules_under : List ℕ → List ℕ → Data → Option (List LeafPolicy)
rules_under name other d = do
  rules ← required_list rule_of name d
  absent ← optional no_kind other d
  at_least_one rules

unfoldable pub request_policy_of : Data → Option RequestPolicy
request_policy_of d =
    option_or (option_map All (rules_under (codes "all") (codes "any") d))
    (option_map Any (rules_under (codes "any") (codes "all") d))
