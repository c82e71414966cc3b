use Rattle.std.proofs.Common.{◌≡◌, ◌-◌, ◌≤◌, map}
use Rattle.sig_x509.specs.Possible.{below, down_at}
use Rattle.sig_x509.proofs.reach.down_rows.Given as goal

-- the rows so far, and the next
abbrev pub invariant-levels : goal.invariant-levels
invariant-levels l =
    (l.others ≤ 6) × (l.row ≡ down_at l.nodes l.others) × (l.rows ≡ map (down_at l.nodes) (below l.others))

abbrev pub decreases-levels : goal.decreases-levels
decreases-levels l = 6 - l.others
