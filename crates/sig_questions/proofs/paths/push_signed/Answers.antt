use Rattle.std.proofs.Common.{◌≡◌, ◌<◌, Bor, Err, List, get_or, length, rules, subst}
use Rattle.sig_certificate.specs.Certificate.{Cert}
use Rattle.sig_questions.specs.Written.{row_under}
use Rattle.sig_questions.proofs.RowSteps.{one_failed}
use Rattle.sig_questions.proofs.paths.push_signed.Goals as goal

pub returns-in_err-push_signature : goal.returns-in_err-push_signature
returns-in_err-push_signature c =
    let is : c.from_residual.result ≡ Err c.in_err-push_signature.field-0.0 = search rules in
    let same : c.deref-signer-items.result.now ≡ c.args.signed.now.signers.items = c.deref-signer-items.ensures.value in
    rw is (one_failed (row_under c.args.signed.now) c.args.signed.now.signers.items c.args.rows.now c.signers.rows
    c.push_signature.new.rows c.signers.signer-index c.signer-item.result c.in_err-push_signature.field-0.0
    (subst (λ (xs : List (Bor Cert)). c.signers.signer-index < length xs) same c.signers-test.true)
    (subst (λ (xs : List (Bor Cert)). c.signer-item.result ≡ get_or xs c.signers.signer-index c.signer-item.result) same
    c.signer-item.is) c.signers.invariant c.in_err-push_signature.ensures)
