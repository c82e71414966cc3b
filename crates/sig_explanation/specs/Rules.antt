-- The rules of a policy, and what a certificate says to each.
use Rattle.std.specs.Prelude.{ℕ, List, [], ◌∷◌, codes, length, take, Option, Some, None, if◌then◌else◌}
use Rattle.sig_json.specs.Writing.{TreeMember, list_tree, object_of}
use Rattle.sig_certificate.specs.Certificate.{Cert}
use Rattle.sig_json.specs.Data.{Data}
use Rattle.sig_policy.specs.Refusals.{Refusal, not_found, check_failed, all_of, any_of}
use Rattle.sig_policy.specs.Requests.{leaf_holds, leaf_policy_refusal}
use Rattle.sig_policy.specs.declared.request.LeafPolicy.{LeafPolicy}
use Rattle.sig_policy.specs.declared.request.LeafPolicy.TheVariants as leaf
use Rattle.sig_policy.specs.declared.request.RequestPolicy.{RequestPolicy}
use Rattle.sig_policy.specs.declared.request.RequestPolicy.TheVariants as request
use Rattle.sig_explanation.specs.KeptRows.{comparison_rows}
use Rattle.sig_shown.specs.ShownValues.{count_row, text_row, texts_row}

-- the name that a request has for it
abbrev pub rule_name : LeafPolicy → List ℕ
rule_name (leaf.OIDCIssuer _) = codes "issuer"
rule_name (leaf.GitHubWorkflowTrigger _) = codes "trigger"
rule_name (leaf.GitHubWorkflowSHA _) = codes "sha"
rule_name (leaf.GitHubWorkflowName _) = codes "name"
rule_name (leaf.GitHubWorkflowRepository _) = codes "repository"
rule_name (leaf.GitHubWorkflowRef _) = codes "ref"
rule_name (leaf.Identity _) = codes "identity"

-- why a rule does not hold: there is no such text, or another; a rule is not a list
abbrev pub refused_rows : Refusal → List TreeMember
refused_rows not_found = texts_row (codes "cause") (codes "ExtensionNotFound" ∷ []) ∷ []
refused_rows (check_failed name asked actual) =
    texts_row (codes "cause") (codes "ExtensionCheckFailed" ∷ []) ∷ comparison_rows name asked actual
refused_rows (all_of _ _) = []
refused_rows (any_of _) = []

-- why a rule does not hold of a certificate; none if it holds
abbrev pub judgement : LeafPolicy → Cert → Option Refusal
judgement rule c = if leaf_holds rule c then None else Some (leaf_policy_refusal rule c)

-- a rule that holds has no cause
abbrev pub judgement_rows : Option Refusal → List TreeMember
judgement_rows None = []
judgement_rows (Some refusal) = refused_rows refusal

unfoldable pub rule_tree : Cert → LeafPolicy → Data
rule_tree c rule = object_of (text_row (codes "rule") (rule_name rule) ∷ judgement_rows (judgement rule c))

-- how many rules are shown at most
abbrev pub most_rules : ℕ
most_rules = 32

abbrev pub rules_of : RequestPolicy → List LeafPolicy
rules_of (request.All rules) = rules
rules_of (request.Any rules) = rules

abbrev pub require_name : RequestPolicy → List ℕ
require_name (request.All _) = codes "all"
require_name (request.Any _) = codes "any"

abbrev pub rules_tree : Cert → List LeafPolicy → Data
rules_tree c rules = list_tree (rule_tree c) rules

-- how many rules there are, whether all or any have to hold, and what becomes of the first ones
unfoldable pub policy_tree : Cert → RequestPolicy → Data
policy_tree c policy =
    object_of
    (text_row (codes "require") (require_name policy)
    ∷ count_row (codes "total") (length (rules_of policy))
    ∷ (codes "rules", Some (rules_tree c (take most_rules (rules_of policy))))
    ∷ [])
