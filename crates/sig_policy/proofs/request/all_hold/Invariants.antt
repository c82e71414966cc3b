use Rattle.std.proofs.Common.{◌≡◌, true, take}
use Rattle.std.specs.List.{list_all}
use Rattle.sig_policy.proofs.request.all_hold.Given as goal

-- each policy so far holds
abbrev pub invariant-loop-policy : goal.invariant-loop-policy
invariant-loop-policy g l = list_all (λ p. g.S.PolicySubject.holds l.subject p) (take l.policy-index l.policies)
    ≡ true
