use Rattle.std.proofs.Common.{◌≡◌, take}
use Rattle.sig_x509.specs.Rows.{row_of}
use Rattle.sig_x509.proofs.table.row_before.Given as goal

-- the row so far
abbrev pub invariant-links : goal.invariant-links
invariant-links l = l.before.items ≡ row_of l.others l.row (take l.link-index l.links)
