-- One more policy, and its refusal if it has one.
use Rattle.std.proofs.Common.{Option, Some, None, sym, ap, subst, ◌∙◌, arith}
use Rattle.std.proofs.lemmas.List.{append-nil}
use Rattle.sig_policy.specs.Failures.{failures}
use Rattle.sig_policy.specs.Refusals.{IsRefusalOf}
use Rattle.sig_policy.specs.Requests.{refused}
use Rattle.sig_policy.specs.declared.failure.PolicyError.{PolicyError}
use Rattle.sig_policy.specs.declared.failure.PolicyErrors.{PolicyErrors}
use Rattle.sig_policy.proofs.RequestLaws.{are_more}
use Rattle.sig_policy.proofs.request.refusals.Goals as goal
use Rattle.sig_policy.proofs.request.refusals.Goals.{in-Some+in_ok-push, in_default}

pub loop-policy-preserved : goal.loop-policy-preserved
loop-policy-preserved g c =
    elim c.match-branch-2.branch [
      | in-Some+in_ok-push w ↦
          are_more (λ p. g.S.PolicySubject.holds c.args.subject.now p)
          (λ p. g.S.PolicySubject.refusal c.args.subject.now p)
          c.args.policies.now c.loop-policy.policy-index c.policy-item.result (Some w.in-Some.error)
          (failures c.loop-policy.errors)
          (failures c.match-branch-2.errors) (omega (arith, c.loop-policy-test.true)) c.policy-item.is
          (subst (λ (o : Option PolicyError). IsRefusalOf
          (refused (λ p. g.S.PolicySubject.holds c.args.subject.now p)
          (λ p. g.S.PolicySubject.refusal c.args.subject.now p)
          c.policy-item.result) o)
          w.in-Some.is c.in_ok-error.ensures)
          (ap (λ (es : PolicyErrors). failures es) w.errors-is ∙ w.in_ok-push.ensures.ok) c.loop-policy.invariant
      | in_default w ↦
          are_more (λ p. g.S.PolicySubject.holds c.args.subject.now p)
          (λ p. g.S.PolicySubject.refusal c.args.subject.now p)
          c.args.policies.now c.loop-policy.policy-index c.policy-item.result None (failures c.loop-policy.errors)
          (failures c.match-branch-2.errors) (omega (arith, c.loop-policy-test.true)) c.policy-item.is
          (subst (λ (o : Option PolicyError). IsRefusalOf
          (refused (λ p. g.S.PolicySubject.holds c.args.subject.now p)
          (λ p. g.S.PolicySubject.refusal c.args.subject.now p)
          c.policy-item.result) o)
          w.in_default.is c.in_ok-error.ensures)
          (ap (λ (es : PolicyErrors). failures es) w.errors-is ∙ sym (append-nil (failures c.loop-policy.errors)))
          c.loop-policy.invariant
    ]
