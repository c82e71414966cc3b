use Rattle.std.proofs.Common.{take}
use Rattle.sig_policy.specs.Failures.{failures}
use Rattle.sig_policy.specs.Refusals.{AreRefusals, refusals_of}
use Rattle.sig_policy.specs.Requests.{refusals}
use Rattle.sig_policy.proofs.request.refusals.Given as goal

-- the refusals of the policies so far
abbrev pub invariant-loop-policy : goal.invariant-loop-policy
invariant-loop-policy g l =
    AreRefusals
    (refusals_of
    (refusals (λ p. g.S.PolicySubject.holds l.subject p) (λ p. g.S.PolicySubject.refusal l.subject p)
    (take l.policy-index l.policies)))
    (failures l.errors)
