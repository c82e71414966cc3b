use Rattle.std.proofs.Common.{◌≡◌, List, Err, rules, subst}
use Rattle.sig_base.specs.declared.checker.AcceptedRow.{AcceptedRow}
use Rattle.sig_key.specs.Kind.{key_kind}
use Rattle.sig_key.specs.declared.kind.KeyKind.TheVariants.{Scheme}
use Rattle.sig_questions.proofs.LogKeyRows.{entry_under}
use Rattle.sig_questions.proofs.RowSteps.{both_written, not_written}
use Rattle.sig_questions.specs.Lists.{note_questions, promise_questions}
use Rattle.sig_questions.specs.Written.{AddsRows}
use Rattle.sig_questions.proofs.entry.push_under.Goals as goal

pub returns-in_err-push_promise-in-Scheme : goal.returns-in_err-push_promise-in-Scheme
returns-in_err-push_promise-in-Scheme c =
    let e = c.args.entry.now in
    let spki = c.args.spki.now in
    let scheme = c.in-Scheme.scheme in
    let kind : Scheme c.in-Scheme.scheme ≡ key_kind c.args.spki.now = search rules in
    let is : c.from_residual.result ≡ Err c.in_err-push_promise-in-Scheme.field-0.0 = search rules in
    rw is (subst (λ (rows : List AcceptedRow). AddsRows c.args.rows.now rows
    (Err c.in_err-push_promise-in-Scheme.field-0.0) c.push_promise.new.rows)
    (entry_under e spki scheme kind)
    (not_written c.args.rows.now c.push_promise.new.rows (promise_questions scheme spki e)
    (note_questions scheme spki e) c.in_err-push_promise-in-Scheme.field-0.0 c.in_err-push_promise-in-Scheme.ensures))

pub returns-in_ok-push_promise-in-Scheme : goal.returns-in_ok-push_promise-in-Scheme
returns-in_ok-push_promise-in-Scheme c =
    let e = c.args.entry.now in
    let spki = c.args.spki.now in
    let scheme = c.in-Scheme.scheme in
    let kind : Scheme c.in-Scheme.scheme ≡ key_kind c.args.spki.now = search rules in
    subst (λ (rows : List AcceptedRow). AddsRows c.args.rows.now rows c.push_note.result c.push_note.new.rows)
    (entry_under e spki scheme kind)
    (both_written c.args.rows.now c.push_promise.new.rows c.push_note.new.rows (promise_questions scheme spki e)
    (note_questions scheme spki e) c.push_note.result c.in_ok-push_promise-in-Scheme.ensures c.push_note.ensures)
