-- Nothing else matters, a link that is named is the first that fails whatever is accepted, and a list fits.
use Rattle.sig_program.proofs.GivenBackLists.{consistency_lists, log_lists, verify_lists}
use Rattle.sig_program.proofs.SufficientConsistencyRows.{consistency_questions_suffice}
use Rattle.sig_program.proofs.SufficientLogRows.{log_questions_suffice}
use Rattle.sig_program.proofs.VerifyQuestionReplies.{refuses_for_all}
use Rattle.sig_program.proofs.SufficientVerifyRows.{verify_questions_suffice}
use Rattle.sig_program.proofs.laws.lists.Goals as goal

pub returns-clause-log : goal.returns-clause-log
returns-clause-log c = log_questions_suffice

pub returns-clause-verify : goal.returns-clause-verify
returns-clause-verify c = verify_questions_suffice c.questions_suffice.ensures

pub returns-clause-consistency : goal.returns-clause-consistency
returns-clause-consistency c = consistency_questions_suffice

pub returns-clause-refusals : goal.returns-clause-refusals
returns-clause-refusals c = refuses_for_all c.refusals.ensures

pub returns-clause-given_back : goal.returns-clause-given_back
returns-clause-given_back c = (
  log_lists,
  verify_lists,
  consistency_lists,
  c.audit_lists.ensures.given_back,
  c.witness_lists.ensures.given_back,
  c.gate_lists.ensures.given_back,
)
