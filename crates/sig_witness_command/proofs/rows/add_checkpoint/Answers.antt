-- The note has a number, and the signatures are added under the key of its origin.
use Rattle.std.proofs.Common.{◌≡◌, ◌∙◌, ◌+◌, List, Some, ℕ, ap, arith, subst, sym}
use Rattle.std.proofs.lemmas.Result.{IfOk-weaker}
use Rattle.std.specs.Option.{option_map}
use Rattle.sig_base.specs.ByText.{text_lookup}
use Rattle.sig_witness.specs.KeptLogs.{log_key}
use Rattle.sig_witness_command.proofs.Listings.{known-origin}
use Rattle.sig_witness_command.proofs.Marks.{numbered}
use Rattle.sig_witness_command.specs.Questions.{each_once_after, note_rows}
use Rattle.sig_witness_command.specs.RowList.{HasAdded, HasAddedRows}
use Rattle.sig_witness_command.proofs.rows.add_checkpoint.Goals as goal

pub add_signatures-added-requires-clause-number : goal.add_signatures-added-requires-clause-number
add_signatures-added-requires-clause-number c =
    let (before, listed) = c.requires.list in
    let both = numbered c.args.witness.now c.args.place c.in_ok-number.number before c.as_str-2.result.now
    c.args.rows.now c.number_of.new.self (omega (arith, c.ranges.place.fits)) listed c.in_ok-number.ensures in
    subst (λ (t : List ℕ). text_lookup t c.number_of.new.self.notes ≡ Some c.in_ok-number.number) c.as_str-2.ensures both.1

pub returns-clause-added : goal.returns-clause-added
returns-clause-added c = λ before listed.
    let at : option_map log_key (text_lookup c.args.checkpoint.now.note.origin c.args.witness.now)
    ≡ Some c.in-Some.key.now =
    ap (λ o. option_map log_key (text_lookup o c.args.witness.now)) (sym c.as_str.ensures) ∙ sym c.in-Some.ensures in
    let both = numbered c.args.witness.now c.args.place c.in_ok-number.number before c.as_str-2.result.now
    c.args.rows.now c.number_of.new.self (omega (arith, c.ranges.place.fits)) listed c.in_ok-number.ensures in
    IfOk-weaker c.add_signatures-added.result
    (HasAddedRows c.args.witness.now (c.args.place + 1)
    (each_once_after before (note_rows c.in-Some.key.now c.args.checkpoint.now)) c.add_signatures-added.new.rows)
    (HasAdded c.args.witness.now c.args.place before c.args.checkpoint.now c.add_signatures-added.new.rows)
    (λ added. known-origin c.args.witness.now c.args.place before c.args.checkpoint.now c.in-Some.key.now
    c.add_signatures-added.new.rows added at)
    (c.add_signatures-added.ensures.added c.args.witness.now (c.args.place + 1) before c.requires.lines at both.0)
