use Rattle.std.proofs.Common.{◌≡◌, Err, rules}
use Rattle.sig_questions.specs.Lists.{note_question}
use Rattle.sig_questions.proofs.RowSteps.{one_failed}
use Rattle.sig_questions.proofs.entry.push_signatures.Goals as goal

pub returns-in_err-push_signature : goal.returns-in_err-push_signature
returns-in_err-push_signature c =
    let is : c.from_residual.result ≡ Err c.in_err-push_signature.field-0.0 = search rules in
    rw is (one_failed (note_question c.args.key.now.scheme c.args.key.now.spki.now c.args.message.now)
    c.args.signatures.now c.args.rows.now c.signatures.rows c.push_signature.new.rows c.signatures.signature-index
    c.signature-item.result c.in_err-push_signature.field-0.0
    c.signatures-test.true c.signature-item.is c.signatures.invariant c.in_err-push_signature.ensures)
