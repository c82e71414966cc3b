-- What the rules of a policy ask for, each text once: whether one of the texts passes a test.
use Rattle.std.specs.Prelude.{◌≡◌, ℕ, List, Bool, ◌||◌, ◌&&◌, not}
use Rattle.std.specs.Borrow.{Bor}
use Rattle.std.specs.BTreeSet.{BTreeSet}
use Rattle.std.specs.List.{list_any}
use Rattle.sig_policy.specs.Identities.{is_among_identities}
use Rattle.sig_policy.specs.Said.{Values}
use Rattle.sig_policy.specs.Single.{is_asked_text}
use Rattle.sig_policy.specs.declared.asked_texts.AskedTexts.{AskedTexts}
use Rattle.sig_policy.specs.declared.request.LeafPolicy.{LeafPolicy}
use Rattle.sig_policy.specs.declared.request.LeafPolicy.TheVariants.{OIDCIssuer, GitHubWorkflowTrigger}
use Rattle.sig_policy.specs.declared.request.LeafPolicy.TheVariants.{GitHubWorkflowSHA, GitHubWorkflowName}
use Rattle.sig_policy.specs.declared.request.LeafPolicy.TheVariants.{GitHubWorkflowRepository, GitHubWorkflowRef}
use Rattle.sig_policy.specs.declared.request.LeafPolicy.TheVariants.{Identity}
use Rattle.sig_policy.specs.declared.request.RequestPolicy.{RequestPolicy}
use Rattle.sig_policy.specs.declared.request.RequestPolicy.TheVariants.{All, Any}

-- ---- a rule

-- a test of the text that a rule asks for, for each kind of rule; of an identity, a test of its issuer and of itself
pub record Tests : Type 0 where
  pub issuer : List ℕ → Bool
  pub trigger : List ℕ → Bool
  pub sha : List ℕ → Bool
  pub name : List ℕ → Bool
  pub repository : List ℕ → Bool
  pub git_ref : List ℕ → Bool
  pub identity : List ℕ → List ℕ → Bool

-- what the rule asks for passes
abbrev pub passes : Tests → LeafPolicy → Bool
passes t (OIDCIssuer p) = t.issuer p.0
passes t (GitHubWorkflowTrigger p) = t.trigger p.0
passes t (GitHubWorkflowSHA p) = t.sha p.0
passes t (GitHubWorkflowName p) = t.name p.0
passes t (GitHubWorkflowRepository p) = t.repository p.0
passes t (GitHubWorkflowRef p) = t.git_ref p.0
passes t (Identity p) = t.identity p.issuer p.identity

-- the required text is what a certificate says
abbrev pub said_tests : Values → Tests
said_tests v =
    record {
      issuer = λ text. is_asked_text text v.issuer;
      trigger = λ text. is_asked_text text v.trigger;
      sha = λ text. is_asked_text text v.sha;
      name = λ text. is_asked_text text v.name;
      repository = λ text. is_asked_text text v.repository;
      git_ref = λ text. is_asked_text text v.git_ref;
      identity = λ issuer identity. is_asked_text issuer v.issuer && is_among_identities identity v.identities;
    }

-- it is not
abbrev pub unsaid_tests : Values → Tests
unsaid_tests v =
    record {
      issuer = λ text. not (is_asked_text text v.issuer);
      trigger = λ text. not (is_asked_text text v.trigger);
      sha = λ text. not (is_asked_text text v.sha);
      name = λ text. not (is_asked_text text v.name);
      repository = λ text. not (is_asked_text text v.repository);
      git_ref = λ text. not (is_asked_text text v.git_ref);
      identity = λ issuer identity. not
          (is_asked_text issuer v.issuer && is_among_identities identity v.identities);
    }

-- ---- all that is asked for

abbrev pub one_passes : (List ℕ → Bool) → List (Bor (List ℕ)) → Bool
one_passes test texts = list_any (λ text. test text.now) texts

-- the identities of each issuer
abbrev pub Named : Type 0
Named = List (Bor (List ℕ) × BTreeSet (Bor (List ℕ)))

abbrev pub one_named : (List ℕ → List ℕ → Bool) → Named → Bool
one_named test entries = list_any (λ e. one_passes (test e.0.now) e.1.keys) entries

-- one of the texts and identities passes
abbrev pub one_asked : Tests → AskedTexts → Bool
one_asked t a =
    one_passes t.issuer a.issuers.keys
    || (one_passes t.trigger a.triggers.keys
    || (one_passes t.sha a.shas.keys
    || (one_passes t.name a.names.keys
    || (one_passes t.repository a.repositories.keys
    || (one_passes t.git_ref a.git_refs.keys || one_named t.identity a.identities.entries)))))

-- these are what the rules ask for: some rule passes a test if and only if one of these does
abbrev pub AreAskedBy : List LeafPolicy → AskedTexts → Type 0
AreAskedBy rules a = (t : Tests) → one_asked t a ≡ list_any (passes t) rules

abbrev pub rules_of : RequestPolicy → List LeafPolicy
rules_of (All rules) = rules
rules_of (Any rules) = rules
