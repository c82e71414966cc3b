use Rattle.std.proofs.Common.{◌≡◌, map, take}
use Rattle.sig_x509.specs.Possible.{node_reached}
use Rattle.sig_x509.proofs.reach.down_row.Given as goal

-- the row so far
abbrev pub invariant-nodes : goal.invariant-nodes
invariant-nodes l = l.row ≡ map (node_reached l.others l.previous) (take l.node-index l.nodes)
