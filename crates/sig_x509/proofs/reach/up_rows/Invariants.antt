use Rattle.std.proofs.Common.{◌≡◌, ◌-◌, ◌≤◌, map}
use Rattle.sig_x509.specs.Possible.{below, up_at}
use Rattle.sig_x509.proofs.reach.up_rows.Given as goal

-- the rows so far, and the next
abbrev pub invariant-levels : goal.invariant-levels
invariant-levels l =
    (l.left ≤ 6) × (l.row ≡ up_at l.nodes l.left) × (l.rows ≡ map (up_at l.nodes) (below l.left))

abbrev pub decreases-levels : goal.decreases-levels
decreases-levels l = 6 - l.left
