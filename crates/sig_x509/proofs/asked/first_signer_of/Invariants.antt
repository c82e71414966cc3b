use Rattle.std.proofs.Common.{◌≡◌, ◌+◌, ◌≤◌, drop}
use Rattle.std.specs.List.{find}
use Rattle.sig_x509.specs.AskedAnchors.{is_signed_at}
use Rattle.sig_x509.proofs.asked.first_signer_of.Given as goal

-- the first is among those that are left
abbrev pub invariant-asked : goal.invariant-asked
invariant-asked g l =
    (find (is_signed_at (g.C.SignatureChecker.cert_accepts l.checker) l.leaf l.anchors) (drop l.index-index l.asked)
    ≡ find (is_signed_at (g.C.SignatureChecker.cert_accepts l.checker) l.leaf l.anchors) l.asked)
    × (l.steps ≤ l.initial.steps + l.index-index)
