-- A text that is too long is not a request, and that is what explains it.
use Rattle.std.proofs.Common.{◌≤◌, ℕ, inl, List, length, refl}
use Rattle.sig_audit_command.proofs.AuditReplies.{long-audit}
use Rattle.sig_audit_command.proofs.QuestionReplies.{long-asked}
use Rattle.sig_explain_audit.proofs.Explanations.{long-audit-explanation}
use Rattle.sig_explain_gate.proofs.Explanations.{long-gate-explanation}
use Rattle.sig_explain_log.specs.Request.{request_tree}
use Rattle.sig_explain_witness.proofs.Explanations.{long-witness-explanation}
use Rattle.sig_gate_command.proofs.QuestionReplies.{long-questions}
use Rattle.sig_gate_command.proofs.Replies.{long-gate}
use Rattle.sig_program.proofs.Explanations.{long-fault}
use Rattle.sig_program.proofs.Replies.{long-reply}
use Rattle.sig_program.specs.ExplainWords.{explained_command}
use Rattle.sig_program.specs.ExplainedReply.{IsExplained, long_explained}
use Rattle.sig_program.specs.Explanation.{IsExplanation}
use Rattle.sig_program.specs.Reply.{IsReply, refusal_reply}
use Rattle.sig_program.specs.declared.command.Command.{Command}
use Rattle.sig_program.specs.declared.command.Command.TheVariants.{Log, Verify, Consistency, Audit, Witness, Gate}
use Rattle.sig_program.specs.declared.command.Command.TheVariants.{LogQuestions}
use Rattle.sig_program.specs.declared.command.Command.TheVariants.{VerifyQuestions, ConsistencyQuestions}
use Rattle.sig_program.specs.declared.command.Command.TheVariants.{AuditQuestions, WitnessQuestions, GateQuestions}
use Rattle.sig_program.specs.declared.explained.Explained.{Explained}
use Rattle.sig_program.specs.declared.explained.Explained.TheVariants as explained
use Rattle.sig_request_fault.specs.RequestTable.{consistency_table, log_table, verify_table}
use Rattle.sig_request_fault.specs.declared.fault.RequestFault.TheVariants.{TooLong}
use Rattle.sig_verify.specs.declared.link.Link.TheVariants.{Request}
use Rattle.sig_witness_command.proofs.QuestionReplies.{long-notes}
use Rattle.sig_witness_command.proofs.Replies.{long-witness}

-- a text that is too long is not a request of any command
pub long-meant : (command : Command) (text : List ℕ) → 16777217 ≤ length text
    → IsReply command text (refusal_reply Request)
long-meant Log text long = long-reply Log text long
long-meant Verify text long = long-reply Verify text long
long-meant Consistency text long = long-reply Consistency text long
long-meant Audit text long = long-audit text long
long-meant Witness text long = long-witness text long
long-meant Gate text long = long-gate text long
long-meant LogQuestions text long = long-reply LogQuestions text long
long-meant VerifyQuestions text long = long-reply VerifyQuestions text long
long-meant ConsistencyQuestions text long = long-reply ConsistencyQuestions text long
long-meant AuditQuestions text long = long-asked text long
long-meant WitnessQuestions text long = long-notes text long
long-meant GateQuestions text long = long-questions text long

-- what explains it
long-explanation : (what : Explained) (text : List ℕ) → 16777217 ≤ length text
    → IsExplanation what text (request_tree TooLong)
long-explanation explained.Log text long = inl (long-fault log_table text long)
long-explanation explained.Verify text long = inl (long-fault verify_table text long)
long-explanation explained.Consistency text long = inl (long-fault consistency_table text long)
long-explanation explained.Audit text long = long-audit-explanation text long
long-explanation explained.Witness text long = long-witness-explanation text long
long-explanation explained.Gate text long = long-gate-explanation text long

pub long-explained : (what : Explained) (text : List ℕ) → 16777217 ≤ length text → IsExplained what text long_explained
long-explained what text long = record {
  plain = refusal_reply Request;
  replies = long-meant (explained_command what) text long;
  tree = request_tree TooLong;
  explains = long-explanation what text long;
  are = refl;
}
