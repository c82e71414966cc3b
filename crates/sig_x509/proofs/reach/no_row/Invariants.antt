use Rattle.std.proofs.Common.{◌≡◌, false, map, take}
use Rattle.sig_x509.proofs.reach.no_row.Given as goal

-- the row so far
abbrev pub invariant-nodes : goal.invariant-nodes
invariant-nodes l = l.row ≡ map (λ node. false) (take l.index l.nodes)
