-- The policies of a request: a list of which each, or at least one, has to hold.
use Rattle.std.specs.Prelude.{List, length, Bool, ◌&&◌, Option, Some, None, codes, if◌then◌else◌}
use Rattle.std.specs.List.{list_all, list_any, filter_map}
use Rattle.sig_certificate.specs.Certificate.{Cert}
use Rattle.sig_policy.specs.Single.{is_asked_text, single_refusal}
use Rattle.sig_policy.specs.Identities.{is_among_identities, name_refusal}
use Rattle.sig_policy.specs.Said.{Values, extension_values_of}
use Rattle.sig_policy.specs.Refusals.{Refusal, all_of, any_of, refusals_of}
use Rattle.sig_policy.specs.declared.request.LeafPolicy.{LeafPolicy}
use Rattle.sig_policy.specs.declared.request.LeafPolicy.TheVariants.{OIDCIssuer, GitHubWorkflowTrigger}
use Rattle.sig_policy.specs.declared.request.LeafPolicy.TheVariants.{GitHubWorkflowSHA, GitHubWorkflowName}
use Rattle.sig_policy.specs.declared.request.LeafPolicy.TheVariants.{GitHubWorkflowRepository, GitHubWorkflowRef}
use Rattle.sig_policy.specs.declared.request.LeafPolicy.TheVariants.{Identity}
use Rattle.sig_policy.specs.declared.request.RequestPolicy.{RequestPolicy}
use Rattle.sig_policy.specs.declared.request.RequestPolicy.TheVariants.{All, Any}

-- ---- one policy

-- by the values that a certificate says
abbrev pub holds_by : LeafPolicy → Values → Bool
holds_by (OIDCIssuer p) v = is_asked_text p.0 v.issuer
holds_by (GitHubWorkflowTrigger p) v = is_asked_text p.0 v.trigger
holds_by (GitHubWorkflowSHA p) v = is_asked_text p.0 v.sha
holds_by (GitHubWorkflowName p) v = is_asked_text p.0 v.name
holds_by (GitHubWorkflowRepository p) v = is_asked_text p.0 v.repository
holds_by (GitHubWorkflowRef p) v = is_asked_text p.0 v.git_ref
holds_by (Identity p) v = is_asked_text p.issuer v.issuer && is_among_identities p.identity v.identities

abbrev pub refusal_by : LeafPolicy → Values → Refusal
refusal_by (OIDCIssuer p) v = single_refusal (codes "OIDCIssuer") p.0 v.issuer
refusal_by (GitHubWorkflowTrigger p) v = single_refusal (codes "GitHubWorkflowTrigger") p.0 v.trigger
refusal_by (GitHubWorkflowSHA p) v = single_refusal (codes "GitHubWorkflowSHA") p.0 v.sha
refusal_by (GitHubWorkflowName p) v = single_refusal (codes "GitHubWorkflowName") p.0 v.name
refusal_by (GitHubWorkflowRepository p) v = single_refusal (codes "GitHubWorkflowRepository") p.0 v.repository
refusal_by (GitHubWorkflowRef p) v = single_refusal (codes "GitHubWorkflowRef") p.0 v.git_ref
refusal_by (Identity p) v =
    if is_asked_text p.issuer v.issuer then name_refusal p.identity v.identities
    else single_refusal (codes "OIDCIssuer") p.issuer v.issuer

abbrev pub leaf_holds : LeafPolicy → Cert → Bool
leaf_holds p c = holds_by p (extension_values_of c)

abbrev pub leaf_policy_refusal : LeafPolicy → Cert → Refusal
leaf_policy_refusal p c = refusal_by p (extension_values_of c)

-- ---- a list of policies, of which each holds by `holds`, or has this refusal

-- the refusal, if the policy does not hold
abbrev pub refused : {P : Type 0} → (P → Bool) → (P → Refusal) → P → Option Refusal
refused holds refusal p = if holds p then None else Some (refusal p)

-- the refusals of those that do not hold, in order
abbrev pub refusals : {P : Type 0} → (P → Bool) → (P → Refusal) → List P → List Refusal
refusals holds refusal ps = filter_map (refused holds refusal) ps

abbrev pub all_refusal : {P : Type 0} → (P → Bool) → (P → Refusal) → List P → Refusal
all_refusal holds refusal ps = all_of (length ps) (refusals_of (refusals holds refusal ps))

-- ---- the policy of a request

-- no policy of an empty list holds
abbrev pub request_holds : RequestPolicy → Cert → Bool
request_holds (All ps) c = list_all (λ p. leaf_holds p c) ps
request_holds (Any ps) c = list_any (λ p. leaf_holds p c) ps

-- the refusals of those that do not hold, in order; or only the number of policies
abbrev pub request_refusal : RequestPolicy → Cert → Refusal
request_refusal (All ps) c = all_refusal (λ p. leaf_holds p c) (λ p. leaf_policy_refusal p c) ps
request_refusal (Any ps) c = any_of (length ps)
