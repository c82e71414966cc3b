-- All hold if and only if none is refused.
use Rattle.std.proofs.Common.{sym, inr, ◌∙◌}
use Rattle.sig_policy.specs.Failures.{failures}
use Rattle.sig_policy.proofs.RequestLaws.{all_hold, not_all_hold}
use Rattle.sig_policy.proofs.request.verify_all.Goals as goal

pub returns-then-len-eq0 : goal.returns-then-len-eq0
returns-then-len-eq0 g c =
    all_hold (λ p. g.S.PolicySubject.holds c.args.subject.now p) (λ p. g.S.PolicySubject.refusal c.args.subject.now p)
    c.args.policies.now (failures c.in_ok-errors.errors) c.in_ok-errors.ensures (sym c.len.ensures ∙ c.if-len-eq0.true)

pub returns : goal.returns
returns g c =
    let some_left = not_all_hold (λ p. g.S.PolicySubject.holds c.args.subject.now p)
    (λ p. g.S.PolicySubject.refusal c.args.subject.now p) c.args.policies.now (failures c.in_ok-errors.errors)
    c.in_ok-errors.ensures (λ e. c.if-len-eq0.false (c.len.ensures ∙ e)) in
    inr (some_left, (failures c.in_ok-errors.errors, (c.all_of.ensures, c.in_ok-errors.ensures)))
