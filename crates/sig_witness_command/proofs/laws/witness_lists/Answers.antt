use Rattle.sig_witness_command.proofs.DistinctRows.{rows_each_once}
use Rattle.sig_witness_command.proofs.QuestionReplies.{lists_given_back}
use Rattle.sig_witness_command.proofs.SufficientWitnessRows.{witness_suffices}
use Rattle.sig_witness_command.proofs.laws.witness_lists.Goals as goal

pub returns-clause-suffice : goal.returns-clause-suffice
returns-clause-suffice c = witness_suffices

pub returns-clause-once : goal.returns-clause-once
returns-clause-once c = rows_each_once

pub returns-clause-given_back : goal.returns-clause-given_back
returns-clause-given_back c = lists_given_back
