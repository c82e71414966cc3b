use Rattle.std.proofs.Common.{rules}
use Rattle.sig_base.proofs.ResultSteps.{ok_is}
use Rattle.sig_certificate.proofs.seconds.second_at.Goals as goal

pub returns-in-Ok-clause-only : goal.returns-in-Ok-clause-only
returns-in-Ok-clause-only c =
    λ s is. let same = ok_is c.in-Ok.second s (c.in-Ok.ensures.only s is) in rw (← same) (search rules)

pub returns-in-Err-clause-only : goal.returns-in-Err-clause-only
returns-in-Err-clause-only c = λ s is. absurd (let no = c.in-Err.ensures.only s is in cc)
