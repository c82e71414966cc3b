use Rattle.std.proofs.Common.{◌≡◌, false, take}
use Rattle.std.specs.List.{list_any}
use Rattle.sig_policy.proofs.request.any_holds.Given as goal

-- no policy so far holds
abbrev pub invariant-loop-policy : goal.invariant-loop-policy
invariant-loop-policy g l = list_any (λ p. g.S.PolicySubject.holds l.subject p) (take l.policy-index l.policies)
    ≡ false
