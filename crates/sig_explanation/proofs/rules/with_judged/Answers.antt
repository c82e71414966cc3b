-- Why the rule does not hold.
use Rattle.std.proofs.Common.{◌≡◌, Some, subst}
use Rattle.std.specs.Prelude.{IfOk}
use Rattle.sig_json.specs.Writing.{members, members_into}
use Rattle.sig_policy.specs.Refusals.{IsRefusalOf}
use Rattle.sig_explanation.proofs.RuleRefusals.{judgement_is}
use Rattle.sig_explanation.specs.Rules.{judgement}
use Rattle.sig_explanation.proofs.rules.with_judged.Goals as goal

pub returns-in-Some : goal.returns-in-Some
returns-in-Some c =
    let asked = judgement c.args.rule.now c.args.certificate.now in
    let is : IsRefusalOf asked (Some c.in-Some.error) = subst (IsRefusalOf asked) c.in-Some.is c.in_ok-error.ensures in
    subst (λ rows. IfOk c.with_refused-made.result (λ made. members made ≡ members_into (members c.args.object) rows))
    (judgement_is c.args.rule.now c.args.certificate.now c.in-Some.error is) c.with_refused-made.ensures
