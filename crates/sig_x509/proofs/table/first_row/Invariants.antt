use Rattle.std.proofs.Common.{◌≡◌, ◌-◌, ◌≤◌}
use Rattle.sig_x509.specs.Rows.{rows}
use Rattle.sig_x509.proofs.table.first_row.Given as goal

-- the row of a place
abbrev pub invariant-places : goal.invariant-places
invariant-places l = (l.others ≤ 6) × (l.row.items ≡ rows l.links (6 - l.others) l.others)

abbrev pub decreases-places : goal.decreases-places
decreases-places l = l.others
