use Rattle.std.proofs.Common.{◌≡◌, false, map, take}
use Rattle.sig_x509.proofs.table.row_past.Given as goal

-- the row so far
abbrev pub invariant-links : goal.invariant-links
invariant-links l = l.past.items ≡ map (λ link. false) (take l.index l.links)
