-- The logs whose text it is, or its first fault; and nothing else.
use Rattle.std.proofs.Common.{◌≡◌, inr, rules, Err}
use Rattle.sig_witness.proofs.StateReadings.{answers-fault, answers-ok, lines-fault, logs-fault}
use Rattle.sig_witness.proofs.StateReads.{kept-read, state-read}
use Rattle.sig_witness.specs.StateText.{IsStateOf}
use Rattle.sig_witness.proofs.witness.Witness.decode.Goals as goal

pub returns-in_err-all-clause-only : goal.returns-in_err-all-clause-only
returns-in_err-all-clause-only c =
    let is : c.from_residual.result ≡ Err c.in_err-all.field-0.0 = search rules in
    rw is (answers-fault c.args.text.now c.in_err-all.field-0.0
    (lines-fault c.args.text.now c.in_err-all.field-0.0 c.in_err-all.ensures.err))

pub returns-in_err-logs-clause-only : goal.returns-in_err-logs-clause-only
returns-in_err-logs-clause-only c =
    let is : c.from_residual-in_err-logs.result ≡ Err c.in_err-logs.field-0.0 = search rules in
    rw is (answers-fault c.args.text.now c.in_err-logs.field-0.0
    (logs-fault c.args.text.now c.in_ok-all.all.items c.in_err-logs.field-0.0 c.in_ok-all.ensures.ok
    (rw c.as_slice.ensures.value at c.in_err-logs.ensures.err)))

pub invariant_of-result : goal.invariant_of-result
invariant_of-result c =
    let state : IsStateOf c.args.text.now c.in_ok-logs.logs =
    state-read c.args.text.now c.in_ok-all.all.items c.in_ok-logs.logs c.in_ok-all.ensures.ok
    (rw c.as_slice.ensures.value at c.in_ok-logs.ensures.ok) in
    kept-read c.in_ok-logs.logs state.cut

pub returns-clause-found : goal.returns-clause-found
returns-clause-found c =
    inr (state-read c.args.text.now c.in_ok-all.all.items c.in_ok-logs.logs c.in_ok-all.ensures.ok
    (rw c.as_slice.ensures.value at c.in_ok-logs.ensures.ok))

pub returns-clause-only : goal.returns-clause-only
returns-clause-only c =
    answers-ok c.args.text.now c.in_ok-logs.logs
    (state-read c.args.text.now c.in_ok-all.all.items c.in_ok-logs.logs c.in_ok-all.ensures.ok
    (rw c.as_slice.ensures.value at c.in_ok-logs.ensures.ok))
