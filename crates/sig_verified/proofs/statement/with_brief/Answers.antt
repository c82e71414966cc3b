-- The texts and the subjects that are shown are the statement's.
use Rattle.std.proofs.Common.{◌++◌, ap, codes, ◌∙◌}
use Rattle.std.proofs.lemmas.Result.{IfOk-weaker}
use Rattle.sig_json.specs.Writing.{members, members_into}
use Rattle.sig_shown.specs.ShownValues.{shown_rows}
use Rattle.sig_verified.specs.Statement.{subjects_rows}
use Rattle.sig_verified.proofs.statement.with_brief.Goals as goal

pub returns : goal.returns
returns c =
    let shown = subjects_rows c.args.statement.now.subject in
    IfOk-weaker c.with_subjects.result _ _
    (λ made pushed. pushed
    ∙ ap (λ subjects. members_into (members c.in_ok-object.object) (subjects_rows subjects)) c.as_slice.ensures
    ∙ ap (λ ms. members_into ms shown) c.in_ok-object.ensures
    ∙ ap
    (λ text. members_into (members c.args.object)
    (shown_rows (codes "predicateType") (codes "predicateTypeLength") text ++ shown))
    c.as_str-predicate.ensures)
    c.with_subjects.ensures
