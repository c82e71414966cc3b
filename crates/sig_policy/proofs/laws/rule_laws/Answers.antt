use Rattle.sig_policy.proofs.RuleLaws.{rule_is_met, policy_is_met}
use Rattle.sig_policy.proofs.laws.rule_laws.Goals as goal

pub returns-clause-rule : goal.returns-clause-rule
returns-clause-rule c = rule_is_met

pub returns-clause-policy : goal.returns-clause-policy
returns-clause-policy c = policy_is_met
