use Rattle.sig_audit_command.proofs.QuestionReplies.{lists_given_back}
use Rattle.sig_audit_command.proofs.SufficientAuditRows.{audit_suffices}
use Rattle.sig_audit_command.proofs.laws.audit_lists.Goals as goal

pub returns-clause-suffice : goal.returns-clause-suffice
returns-clause-suffice c = audit_suffices

pub returns-clause-given_back : goal.returns-clause-given_back
returns-clause-given_back c = lists_given_back
