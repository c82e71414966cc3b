-- A text has one explanation.
use Rattle.sig_program.proofs.OneExplanation.{one_of_consistency, one_of_log}
use Rattle.sig_program.proofs.OneOutcome.{one_of_audit, one_of_gate, one_of_verify, one_of_witness}
use Rattle.sig_program.proofs.explain.explained_reply.Goals as goal

pub returns-clause-log : goal.returns-clause-log
returns-clause-log c = one_of_log

pub returns-clause-verify : goal.returns-clause-verify
returns-clause-verify c = one_of_verify c.results.ensures

pub returns-clause-consistency : goal.returns-clause-consistency
returns-clause-consistency c = one_of_consistency

pub returns-clause-audit : goal.returns-clause-audit
returns-clause-audit c = one_of_audit

pub returns-clause-witness : goal.returns-clause-witness
returns-clause-witness c = one_of_witness

pub returns-clause-gate : goal.returns-clause-gate
returns-clause-gate c = one_of_gate c.texts.ensures
