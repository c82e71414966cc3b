use Rattle.std.proofs.Common.{◌≡◌, map, take}
use Rattle.sig_x509.specs.Possible.{node_leads}
use Rattle.sig_x509.proofs.reach.up_row.Given as goal

-- the row so far
abbrev pub invariant-nodes : goal.invariant-nodes
invariant-nodes l = l.row ≡ map (node_leads l.others l.next) (take l.node-index l.nodes)
