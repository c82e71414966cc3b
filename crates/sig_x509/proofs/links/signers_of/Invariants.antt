use Rattle.sig_x509.specs.Candidates.{all_seen}
use Rattle.sig_x509.proofs.Walks.{IsWalking, steps_left}
use Rattle.sig_x509.proofs.links.signers_of.Given as goal

-- those from some index on are done
abbrev pub invariant-named : goal.invariant-named
invariant-named g l =
    IsWalking (g.C.SignatureChecker.cert_accepts l.checker) l.certificate (all_seen l.listed) l.next l.signers.items
    l.initial.steps l.steps

abbrev pub decreases-named : goal.decreases-named
decreases-named g l = steps_left l.next
