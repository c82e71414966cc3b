-- The lines in turn.
use Rattle.std.proofs.Common.{◌≡◌, ◌<◌, ap, ◌∙◌, arith, length, rules, Err}
use Rattle.sig_base.specs.ByText.{text_put}
use Rattle.sig_witness.proofs.StateReads.{reading-more, reading-stops}
use Rattle.sig_witness.specs.StateText.{LogLines}
use Rattle.sig_witness.proofs.decode.read_logs.Goals as goal

pub returns-in_err-log-clause-err : goal.returns-in_err-log-clause-err
returns-in_err-log-clause-err c =
    let below : c.logs.lines-index < length c.args.all.now = omega arith in
    let is : c.from_residual.result ≡ Err c.in_err-log.field-0.0 = search rules in
    rw is (reading-stops c.args.all.now c.logs.lines-index c.logs.logs c.logs.before.now c.lines-item.result
    c.in_err-log.field-0.0 c.logs.invariant below c.lines-item.is c.in_err-log.ensures.err)

pub logs-preserved : goal.logs-preserved
logs-preserved c =
    let below : c.logs.lines-index < length c.args.all.now = omega arith in
    let origin : c.lines.inside.origin.now ≡ c.lines-item.result.origin =
    ap (λ (l : LogLines). l.origin) c.lines.view_is in
    rw (c.as_bytes-before-in-logs.ensures.value ∙ origin)
    (reading-more c.args.all.now c.logs.lines-index c.logs.logs c.insert.new.self c.logs.before.now c.lines-item.result
    c.in_ok-log.log c.logs.invariant below c.lines-item.is c.in_ok-log.ensures.ok
    (c.in_ok-insert.ensures.ok ∙ ap (λ o. text_put o c.in_ok-log.log c.logs.logs) origin))
