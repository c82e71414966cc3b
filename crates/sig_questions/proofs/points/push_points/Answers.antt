use Rattle.std.proofs.Common.{◌≡◌, ◌<◌, Bor, Err, List, get_or, length, rules, subst}
use Rattle.sig_certificate.specs.Certificate.{Cert}
use Rattle.sig_timestamp.specs.RingKey.{point_at}
use Rattle.sig_questions.specs.Written.{point_under}
use Rattle.sig_questions.proofs.RowSteps.{one_failed}
use Rattle.sig_questions.proofs.points.push_points.Goals as goal

pub returns-in_err-push_point : goal.returns-in_err-push_point
returns-in_err-push_point c =
    let is : c.from_residual.result ≡ Err c.in_err-push_point.field-0.0 = search rules in
    let same : c.deref-signer-items.result.now ≡ c.args.leaf.now.signers.items = c.deref-signer-items.ensures.value in
    rw is (one_failed (point_under (point_at c.args.keyring.now) c.args.leaf.now) c.args.leaf.now.signers.items
    c.args.rows.now c.signers.rows c.push_point.new.rows c.signers.signer-index c.signer-item.result
    c.in_err-push_point.field-0.0
    (subst (λ (xs : List (Bor Cert)). c.signers.signer-index < length xs) same c.signers-test.true)
    (subst (λ (xs : List (Bor Cert)). c.signer-item.result ≡ get_or xs c.signers.signer-index c.signer-item.result) same
    c.signer-item.is) c.signers.invariant c.in_err-push_point.ensures)
