use Rattle.sig_gate_command.proofs.AskedRows.{gate_rows_each_once}
use Rattle.sig_gate_command.proofs.SufficientGateRows.{gate_suffices}
use Rattle.sig_gate_command.proofs.QuestionReplies.{lists_given_back}
use Rattle.sig_gate_command.proofs.laws.gate_lists.Goals as goal

pub returns-clause-suffice : goal.returns-clause-suffice
returns-clause-suffice c = gate_suffices c.questions_suffice.ensures

pub returns-clause-once : goal.returns-clause-once
returns-clause-once c = gate_rows_each_once

pub returns-clause-given_back : goal.returns-clause-given_back
returns-clause-given_back c = lists_given_back
