use Rattle.std.proofs.Common.{◌+◌, ◌*◌, ◌≤◌, length, take}
use Rattle.std.specs.List.{AllZip}
use Rattle.sig_x509.specs.Candidates.{all_seen, seen}
use Rattle.sig_x509.specs.Rows.{IsLinkOf}
use Rattle.sig_x509.proofs.links.links_of.Given as goal

-- those so far
abbrev pub invariant-candidates : goal.invariant-candidates
invariant-candidates g l =
    AllZip (λ o link. IsLinkOf (g.C.SignatureChecker.cert_accepts l.checker) l.pool (all_seen l.listed) (seen o) link)
    (take l.place l.listed) l.links.items
    × (l.steps ≤ l.initial.steps + l.place * (length l.listed + length l.pool.anchors))
