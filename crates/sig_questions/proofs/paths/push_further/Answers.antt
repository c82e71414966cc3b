use Rattle.std.proofs.Common.{◌≡◌, Err, rules}
use Rattle.sig_questions.specs.Written.{rows_of_signed}
use Rattle.sig_questions.proofs.RowSteps.{one_failed}
use Rattle.sig_questions.proofs.paths.push_further.Goals as goal

pub returns-in_err-push_signed : goal.returns-in_err-push_signed
returns-in_err-push_signed c =
    let is : c.from_residual.result ≡ Err c.in_err-push_signed.field-0.0 = search rules in
    rw is (one_failed rows_of_signed c.args.further.now c.args.rows.now c.further.rows c.push_signed.new.rows
    c.further.signed-index c.signed-item.result c.in_err-push_signed.field-0.0 c.further-test.true
    c.signed-item.is c.further.invariant c.in_err-push_signed.ensures)
