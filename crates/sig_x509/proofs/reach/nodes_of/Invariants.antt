use Rattle.std.proofs.Common.{◌≡◌, map, take}
use Rattle.sig_x509.specs.Possible.{node_of}
use Rattle.sig_x509.proofs.reach.nodes_of.Given as goal

-- those so far
abbrev pub invariant-further : goal.invariant-further
invariant-further l =
    l.nodes ≡ map (node_of l.anchors l.further l.leaf l.time) (take l.certificate-index l.further)
