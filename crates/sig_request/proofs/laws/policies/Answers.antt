use Rattle.sig_request.proofs.PolicyRules.{policy_takes, policy_again, has_policy}
use Rattle.sig_request.proofs.Rules.{rule_takes, rule_again}
use Rattle.sig_request.proofs.laws.policies.Goals as goal

pub returns-clause-rule : goal.returns-clause-rule
returns-clause-rule c = λ d rule. (rule_takes d rule, rule_again d rule)

pub returns-clause-policy : goal.returns-clause-policy
returns-clause-policy c = λ d policy. (policy_takes d policy, policy_again d policy)

pub returns-clause-request : goal.returns-clause-request
returns-clause-request c = has_policy
